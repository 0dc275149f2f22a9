use Rattle.std.proofs.Common.{◌≡◌, map, ◌+◌, drop}
use Rattle.cdc_prog.specs.Numbered.{calls_in_units}
use Rattle.cdc_prog.specs.Translation.{unit_of}
use Rattle.cdc_flow.proofs.calls.count_units.Given as goal

abbrev pub invariant-loop-unit : goal.invariant-loop-unit
invariant-loop-unit l = l.calls + calls_in_units (map unit_of (drop l.unit-index l.units)) ≡ calls_in_units (map unit_of l.units)
