use Rattle.std.proofs.Common.{map, subst, sym}
use Rattle.std.specs.Prelude.{List}
use Rattle.cdc_tree.specs.declared.form.Statement.{Statement}
use Rattle.cdc_tree.specs.Forms.{statement}
use Rattle.cdc_tree.specs.Order.{InOrder}
use Rattle.cdc_compile.proofs.Answered.{has_order}
use Rattle.cdc_compile.proofs.source.units_of.Goals as goal

pub first_unbuilt-unbuilt-requires : goal.first_unbuilt-unbuilt-requires
first_unbuilt-unbuilt-requires c =
    subst (λ (ss : List Statement). InOrder (map statement ss)) (sym c.as_slice.ensures) (has_order c.args.source.now (map statement c.in_ok-statements.statements) c.in_ok-statements.ensures.statements)

pub units-requires : goal.units-requires
units-requires c = has_order c.args.source.now (map statement c.in_ok-statements.statements) c.in_ok-statements.ensures.statements
