use Rattle.std.proofs.Common.{[], map, refl, ap, ◌∙◌}
use Rattle.std.specs.Prelude.{List}
use Rattle.cdc_names.specs.declared.scope.Scope.{Scope}
use Rattle.cdc_names.specs.Declarations.{plain_declaration}
use Rattle.cdc_names.specs.NotConstant.{not_constants, not_constant_in}
use Rattle.cdc_names.specs.Places.{first_of}
use Rattle.cdc_names.specs.Scopes.{plain_scope}
use Rattle.cdc_names.proofs.Firsts.{first_step}
use Rattle.cdc_names.proofs.not_constant.first_not_constant.Goals as goal

pub loop-scope-preserved : goal.loop-scope-preserved
loop-scope-preserved c =
    first_step (λ (s : Scope). not_constant_in (plain_scope s)) (λ (l : List Scope). first_of not_constant_in (map plain_scope l)) (λ x xs. refl) _ _ c.scope-item.result _ _ _ _
    (c.in_ok-not_constants.ensures ∙ ap (λ ds. not_constants [] (map plain_declaration ds)) c.as_slice.ensures) c.sooner-best.ensures c.scope-item.is c.loop-scope-test.true c.loop-scope.invariant
