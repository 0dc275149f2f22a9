use Rattle.std.proofs.Common.{map, refl}
use Rattle.std.specs.Prelude.{ℕ, ℤ, List}
use Rattle.cdc_names.specs.declared.declaration.Declaration.{Declaration}
use Rattle.cdc_names.specs.Declarations.{plain_declaration}
use Rattle.cdc_names.specs.NotConstant.{declares_no_constant, not_constants}
use Rattle.cdc_names.specs.Scopes.{known_after}
use Rattle.cdc_names.proofs.Firsts.{scan_step}
use Rattle.cdc_names.proofs.not_constant.not_constants.Goals as goal

pub loop-d-preserved : goal.loop-d-preserved
loop-d-preserved c =
    scan_step (λ (values : List (List ℕ × ℤ)) (d : Declaration). declares_no_constant values (plain_declaration d)) (λ values d. known_after values (plain_declaration d)) (λ values l. not_constants values (map plain_declaration l)) (λ s x xs. refl)
    _ _ c.d-item.result c.loop-d.values _ _ _ _ _ c.declares_no_constant.ensures c.sooner-best.ensures c.in_ok-learn.ensures c.d-item.is c.loop-d-test.true c.loop-d.invariant
