use Rattle.std.proofs.Common.{◌≡◌, ◌++◌, map, drop}
use Rattle.cdc_tree.specs.Units.{unit}
use Rattle.cdc_names.specs.Duplicates.{head_names}
use Rattle.cdc_names.proofs.name_lists.head_names.Given as goal

abbrev pub invariant-loop-u : goal.invariant-loop-u
invariant-loop-u l = l.names ++ head_names (map unit (drop l.u-index l.units)) ≡ head_names (map unit l.units)
