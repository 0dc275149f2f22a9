use Rattle.std.proofs.Common.{◌≡◌, ◌++◌, length, drop, map}
use Rattle.cdc_prog.specs.Translation.{unit_of}
use Rattle.cdc_code.specs.Template.{units_code, unit_starts}
use Rattle.cdc_emit.proofs.program.emit_units.Given as goal

abbrev pub invariant-loop-number : goal.invariant-loop-number
invariant-loop-number l = record {
  steps : l.steps ++ units_code l.marks l.main l.number (map unit_of (drop l.number l.units)) ≡ l.initial.steps ++ units_code l.marks l.main 0 (map unit_of l.units);
  starts : l.starts.items ++ unit_starts l.marks l.main l.number (map unit_of (drop l.number l.units)) (length l.steps) ≡ unit_starts l.marks l.main 0 (map unit_of l.units) (length l.initial.steps);
}
