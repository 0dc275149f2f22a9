use Rattle.std.proofs.Common.{◌≡◌, map, drop}
use Rattle.cdc_tree.specs.Units.{unit}
use Rattle.cdc_nest.specs.Nesting.{has_main}
use Rattle.cdc_nest.proofs.blocks.has_main.Given as goal

abbrev pub invariant-loop-unit : goal.invariant-loop-unit
invariant-loop-unit l = has_main (map unit l.units) ≡ has_main (map unit (drop l.unit-index l.units))
