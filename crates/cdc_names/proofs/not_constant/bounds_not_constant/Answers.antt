use Rattle.std.proofs.Common.{map, refl}
use Rattle.cdc_tree.specs.declared.form.Bound.{Bound}
use Rattle.std.specs.Prelude.{List}
use Rattle.cdc_tree.specs.Forms.{bound}
use Rattle.cdc_names.specs.Places.{first_of}
use Rattle.cdc_names.specs.NotConstant.{bound_not_constant}
use Rattle.cdc_names.proofs.Firsts.{first_step}
use Rattle.cdc_names.proofs.not_constant.bounds_not_constant.Goals as goal

pub loop-b-preserved : goal.loop-b-preserved
loop-b-preserved c =
    first_step (λ (b : Bound). bound_not_constant c.args.values.now (bound b)) (λ (l : List Bound). first_of (bound_not_constant c.args.values.now) (map bound l)) (λ x xs. refl) _ _ c.b-item.result _ _ _ _ c.bound_not_constant.ensures c.sooner-best.ensures c.b-item.is c.loop-b-test.true c.loop-b.invariant
