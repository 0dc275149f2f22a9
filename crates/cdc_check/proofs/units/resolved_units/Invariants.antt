use Rattle.std.proofs.Common.{◌≡◌, ◌++◌, drop, map}
use Rattle.cdc_tree.specs.Units.{unit}
use Rattle.cdc_prog.specs.Translation.{unit_of}
use Rattle.cdc_names.specs.Scopes.{plain_scope}
use Rattle.cdc_check.specs.Threads.{on, each}
use Rattle.cdc_check.specs.Units.{whole, units_from}
use Rattle.cdc_check.proofs.units.resolved_units.Given as goal

abbrev pub invariant-loop-u : goal.invariant-loop-u
invariant-loop-u l = on (each (units_from l.number (map unit (drop l.u-index l.us)) (map plain_scope l.rest)) (whole l.objects l.state)) (λ rest k. (map unit_of l.found ++ rest, k)) ≡ each (units_from 0 (map unit l.us) (map plain_scope l.scopes)) (whole l.initial.objects l.initial.state)
