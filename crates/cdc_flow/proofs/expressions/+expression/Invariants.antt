use Rattle.std.proofs.Common.{◌≡◌, [], drop}
use Rattle.cdc_prog.specs.Translation.{exprs_of}
use Rattle.cdc_path.specs.Courses.{exprs_course}
use Rattle.cdc_flow.specs.Built.{built}
use Rattle.cdc_flow.proofs.expressions.+expression.Given as goal

abbrev pub invariant-add_expressions-loop-e : goal.invariant-add_expressions-loop-e
invariant-add_expressions-loop-e l = built (exprs_course [] (exprs_of (drop l.e-index l.es))) l.g ≡ built (exprs_course [] (exprs_of l.es)) l.initial.g
