use Rattle.std.proofs.Common.{length}
use Rattle.cdc_parse.proofs.LineLaws.{Read}
use Rattle.cdc_parse.proofs.lines.each_statement.Given as goal

abbrev pub invariant-loop-line : goal.invariant-loop-line
invariant-loop-line l = Read l.fn.lines l.rest l.statements.items

abbrev pub decreases-loop-line : goal.decreases-loop-line
decreases-loop-line l = length l.rest
