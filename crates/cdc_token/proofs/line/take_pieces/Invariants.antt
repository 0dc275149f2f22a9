use Rattle.std.proofs.Common.{length}
use Rattle.cdc_token.proofs.Reached.{Reached}
use Rattle.cdc_token.proofs.line.take_pieces.Given as goal

abbrev pub invariant-loop-rest : goal.invariant-loop-rest
invariant-loop-rest l = Reached l.continued l.line l.number l.fn.gathered l.gathered l.column l.first l.goes_on l.rest

abbrev pub decreases-loop-rest : goal.decreases-loop-rest
decreases-loop-rest l = length l.rest
