use Rattle.std.proofs.Common.{map, sym, ◌∙◌}
use Rattle.cdc_tree.specs.Forms.{statement}
use Rattle.cdc_compile.proofs.Passing.{cut, passed_more, found_unbuilt}
use Rattle.cdc_compile.proofs.unbuilt.first_unbuilt.Goals as goal

pub loop-rest-preserved : goal.loop-rest-preserved
loop-rest-preserved c =
    passed_more (map statement c.args.statements.now) (map statement c.loop-rest.rest.now) _ (statement c.first-item.result) c.loop-rest.invariant
    (cut c.loop-rest.rest.now c.first-item.result c.in-len1-up.len_at_least c.first-item.is) (sym c.is_unbuilt.ensures ∙ c.if-is_unbuilt.false)

pub returns-then-is_unbuilt : goal.returns-then-is_unbuilt
returns-then-is_unbuilt c =
    found_unbuilt (map statement c.args.statements.now) (map statement c.loop-rest.rest.now) _ (statement c.first-item.result) c.requires c.loop-rest.invariant
    (cut c.loop-rest.rest.now c.first-item.result c.in-len1-up.len_at_least c.first-item.is) (sym c.is_unbuilt.ensures ∙ c.if-is_unbuilt.true)
