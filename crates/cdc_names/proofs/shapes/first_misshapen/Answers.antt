use Rattle.std.proofs.Common.{map, refl}
use Rattle.std.specs.Prelude.{List}
use Rattle.cdc_names.specs.declared.declaration.Declaration.{Declaration}
use Rattle.cdc_names.specs.Declarations.{plain_declaration}
use Rattle.cdc_names.specs.Places.{first_of}
use Rattle.cdc_names.specs.Shapes.{misshapen}
use Rattle.cdc_names.proofs.Firsts.{first_step}
use Rattle.cdc_names.proofs.shapes.first_misshapen.Goals as goal

pub loop-d-preserved : goal.loop-d-preserved
loop-d-preserved c =
    first_step (λ (d : Declaration). misshapen c.args.values.now (plain_declaration d)) (λ (l : List Declaration). first_of (misshapen c.args.values.now) (map plain_declaration l)) (λ x xs. refl) _ _ c.d-item.result _ _ _ _ c.misshapen.ensures c.sooner-best.ensures c.d-item.is c.loop-d-test.true c.loop-d.invariant
