use Rattle.std.proofs.Common.{map, refl}
use Rattle.std.specs.Prelude.{List}
use Rattle.cdc_names.specs.declared.scope.Scope.{Scope}
use Rattle.cdc_names.specs.Places.{first_of}
use Rattle.cdc_names.specs.Scopes.{plain_scope}
use Rattle.cdc_names.specs.Shapes.{shape_in}
use Rattle.cdc_names.proofs.Firsts.{first_step}
use Rattle.cdc_names.proofs.shapes.first_shape.Goals as goal

pub loop-scope-preserved : goal.loop-scope-preserved
loop-scope-preserved c =
    first_step (λ (s : Scope). shape_in (plain_scope s)) (λ (l : List Scope). first_of shape_in (map plain_scope l)) (λ x xs. refl) _ _ c.scope-item.result _ _ _ _ c.shape_in.ensures c.sooner-best.ensures c.scope-item.is c.loop-scope-test.true c.loop-scope.invariant
