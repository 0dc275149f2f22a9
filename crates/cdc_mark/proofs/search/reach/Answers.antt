use Rattle.std.proofs.Common.{◌∙◌, sym, subst, rules}
use Rattle.cdc_mark.specs.Least.{IsIn, AreLeast}
use Rattle.cdc_mark.proofs.Searched.{starts_fair, are_least, whole}
use Rattle.cdc_mark.proofs.search.reach.Goals as goal

pub returns-clause-least : goal.returns-clause-least
returns-clause-least c =
    let f = c.settle.ensures.fair c.args.sources.now (starts_fair c.args.graph.now c.args.sources.now _ (c.deref_mut.ensures.value ∙ c.in_ok-dist.ensures) c.requires.count) in
    let a = are_least c.args.graph.now (IsIn c.args.sources.now) c.settle.new.dist c.requires.graph f c.settle.ensures.relaxed in
    subst (AreLeast c.args.graph.now (IsIn c.args.sources.now)) (sym (whole c.settle.new.dist c.in_ok-dist.dist.items c.in_ok-dist.dist.len (search rules) (search rules))) a
