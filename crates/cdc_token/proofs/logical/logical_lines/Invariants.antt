use Rattle.std.proofs.Common.{length}
use Rattle.cdc_token.proofs.Gone.{Gone}
use Rattle.cdc_token.proofs.logical.logical_lines.Given as goal

abbrev pub invariant-loop-rest : goal.invariant-loop-rest
invariant-loop-rest l = Gone l.source l.gathered l.number l.goes_on l.rest

abbrev pub decreases-loop-rest : goal.decreases-loop-rest
decreases-loop-rest l = length l.rest
