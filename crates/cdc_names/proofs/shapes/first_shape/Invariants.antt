use Rattle.std.proofs.Common.{◌≡◌, map, drop}
use Rattle.cdc_names.specs.Places.{sooner, first_of}
use Rattle.cdc_names.specs.Scopes.{plain_scope}
use Rattle.cdc_names.specs.Shapes.{shape_in}
use Rattle.cdc_names.proofs.shapes.first_shape.Given as goal

abbrev pub invariant-loop-scope : goal.invariant-loop-scope
invariant-loop-scope l = sooner l.best (first_of shape_in (map plain_scope (drop l.scope-index l.scopes))) ≡ first_of shape_in (map plain_scope l.scopes)
