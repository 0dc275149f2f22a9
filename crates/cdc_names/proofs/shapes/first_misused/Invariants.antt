use Rattle.std.proofs.Common.{◌≡◌, drop}
use Rattle.cdc_names.specs.Places.{sooner, first_of}
use Rattle.cdc_names.specs.Scopes.{plain_scope}
use Rattle.cdc_names.specs.Shapes.{misused}
use Rattle.cdc_names.proofs.shapes.first_misused.Given as goal

abbrev pub invariant-loop-u : goal.invariant-loop-u
invariant-loop-u l = sooner l.best (first_of (misused (plain_scope l.scope)) (drop l.u-index l.uses)) ≡ first_of (misused (plain_scope l.scope)) l.uses
