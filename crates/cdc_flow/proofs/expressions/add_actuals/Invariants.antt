use Rattle.std.proofs.Common.{◌≡◌, [], drop, map}
use Rattle.cdc_prog.specs.Translation.{actual_of}
use Rattle.cdc_path.specs.Courses.{actuals_course}
use Rattle.cdc_flow.specs.Built.{built}
use Rattle.cdc_flow.proofs.expressions.add_actuals.Given as goal

abbrev pub invariant-loop-actual : goal.invariant-loop-actual
invariant-loop-actual l = built (actuals_course [] (map actual_of (drop l.actual-index l.actuals))) l.g ≡ built (actuals_course [] (map actual_of l.actuals)) l.initial.g
