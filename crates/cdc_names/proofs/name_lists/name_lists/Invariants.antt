use Rattle.std.proofs.Common.{◌≡◌, ◌++◌, map, drop}
use Rattle.cdc_tree.specs.Units.{unit}
use Rattle.cdc_names.specs.Places.{joined}
use Rattle.cdc_names.specs.Duplicates.{unit_lists, name_lists}
use Rattle.cdc_names.proofs.name_lists.name_lists.Given as goal

abbrev pub invariant-loop-u : goal.invariant-loop-u
invariant-loop-u l = l.out ++ joined (map unit_lists (map unit (drop l.u-index l.units))) ≡ name_lists (map unit l.units)
