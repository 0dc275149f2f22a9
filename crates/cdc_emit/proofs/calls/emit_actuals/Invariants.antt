use Rattle.std.proofs.Common.{◌≡◌, ◌++◌, drop, map}
use Rattle.cdc_prog.specs.Translation.{actual_of}
use Rattle.cdc_code.specs.Template.{passed_code}
use Rattle.cdc_emit.proofs.calls.emit_actuals.Given as goal

abbrev pub invariant-loop-actual : goal.invariant-loop-actual
invariant-loop-actual l =
    l.steps ++ passed_code l.marks l.line (map actual_of (drop l.actual-index l.actuals)) ≡ l.initial.steps ++ passed_code l.marks l.line (map actual_of l.actuals)
