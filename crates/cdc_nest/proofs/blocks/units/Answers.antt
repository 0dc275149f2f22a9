use Rattle.std.proofs.Common.{rules, ◌≡◌, [], ◌∷◌, map, ap, sym, ◌∙◌}
use Rattle.cdc_tree.specs.Forms.{statement}
use Rattle.cdc_nest.proofs.UnitLaws.{nil_of, goes_on, goes_refused, goes_ended}
use Rattle.cdc_nest.proofs.blocks.units.Goals as goal

pub returns-in-Err : goal.returns-in-Err
returns-in-Err c =
    let e : c.loop-statement.statement-iterator.rest.items ≡ c.in-Some.statement ∷ c.next.new.self.rest.items = search rules in
    goes_refused (map statement c.args.statements) (map statement c.loop-statement.statement-iterator.rest.items) (map statement c.next.new.self.rest.items) (statement c.in-Some.statement) c.loop-statement.progress c.in-Err.refusal c.requires c.loop-statement.invariant (ap (map statement) e) c.in-Err.ensures

pub loop-statement-preserved : goal.loop-statement-preserved
loop-statement-preserved c =
    let e : c.loop-statement.statement-iterator.rest.items ≡ c.in-Some.statement ∷ c.next.new.self.rest.items = search rules in
    goes_on (map statement c.args.statements) (map statement c.loop-statement.statement-iterator.rest.items) (map statement c.next.new.self.rest.items) (statement c.in-Some.statement) c.loop-statement.progress c.in-Ok.next c.requires c.loop-statement.invariant (ap (map statement) e) c.in-Ok.ensures

pub returns : goal.returns
returns c =
    let rest = c.loop-statement.statement-iterator.rest in
    let e : rest.items ≡ [] = nil_of rest.items (sym rest.ok.0 ∙ c.in-None.ensures.steps.0) in
    goes_ended (map statement c.args.statements) (map statement c.loop-statement.statement-iterator.rest.items) c.loop-statement.progress c.finished.result c.loop-statement.invariant (ap (map statement) e) c.finished.ensures
