use Rattle.std.proofs.Common.{◌≡◌, map, drop}
use Rattle.cdc_names.specs.Declarations.{plain_declaration}
use Rattle.cdc_names.specs.Places.{sooner, first_of}
use Rattle.cdc_names.specs.Shapes.{misshapen}
use Rattle.cdc_names.proofs.shapes.first_misshapen.Given as goal

abbrev pub invariant-loop-d : goal.invariant-loop-d
invariant-loop-d l = sooner l.best (first_of (misshapen l.values) (map plain_declaration (drop l.d-index l.ds))) ≡ first_of (misshapen l.values) (map plain_declaration l.ds)
