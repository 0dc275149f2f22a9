use Rattle.std.proofs.Common.{◌≡◌, ◌++◌, map, drop}
use Rattle.cdc_tree.specs.Units.{unit}
use Rattle.cdc_names.specs.Duplicates.{slot_lists}
use Rattle.cdc_names.proofs.name_lists.slot_lists.Given as goal

abbrev pub invariant-loop-u : goal.invariant-loop-u
invariant-loop-u l = l.out ++ slot_lists (map unit (drop l.u-index l.units)) ≡ slot_lists (map unit l.units)
