use Rattle.std.proofs.Common.{◌≡◌, drop, map}
use Rattle.cdc_tree.specs.Units.{unit}
use Rattle.cdc_check.specs.Units.{main_from}
use Rattle.cdc_check.proofs.units.main_unit.Given as goal

abbrev pub invariant-loop-u : goal.invariant-loop-u
invariant-loop-u l = main_from l.k (map unit (drop l.u-index l.us)) ≡ main_from 0 (map unit l.us)
