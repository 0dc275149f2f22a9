use Rattle.std.proofs.Common.{length}
use Rattle.cdc_parse.proofs.LineLaws.{Passed}
use Rattle.cdc_parse.proofs.lines.any_deep.Given as goal

abbrev pub invariant-loop-line : goal.invariant-loop-line
invariant-loop-line l = Passed l.fn.lines l.rest l.number

abbrev pub decreases-loop-line : goal.decreases-loop-line
decreases-loop-line l = length l.rest
