use Rattle.std.proofs.Common.{subst}
use Rattle.cdc_mark.specs.Least.{IsIn, AreLeast, AreFirsts}
use Rattle.cdc_mark.proofs.Firsts.{are_far}
use Rattle.cdc_mark.proofs.search.far.Goals as goal

pub returns-clause-far : goal.returns-clause-far
returns-clause-far c =
    let g = c.args.graph.now in
    are_far g (IsIn c.args.sources.now) c.in_ok-near.near.items c.in_ok-bits.bits.items c.in_ok-dist.dist.items c.in_ok-near.ensures.least c.requires.plain c.in_ok-bits.ensures.count
    (subst (λ near. AreFirsts g near c.in_ok-bits.bits.items) c.deref.ensures.value c.in_ok-bits.ensures.firsts)
    (subst (λ bits. AreLeast g (IsIn bits) c.in_ok-dist.dist.items) c.deref-2.ensures.value c.in_ok-dist.ensures.least)
