use Rattle.std.proofs.Common.{◌≡◌, drop, map}
use Rattle.cdc_tree.specs.Units.{unit}
use Rattle.cdc_names.specs.Places.{sooner, first_of}
use Rattle.cdc_names.specs.DoallBodies.{doall_body_in}
use Rattle.cdc_names.proofs.doall_bodies.first_doall_body.Given as goal

abbrev pub invariant-loop-u : goal.invariant-loop-u
invariant-loop-u l = sooner l.best (first_of doall_body_in (map unit (drop l.u-index l.units))) ≡ first_of doall_body_in (map unit l.units)
