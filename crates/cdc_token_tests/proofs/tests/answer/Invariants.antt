use Rattle.std.proofs.Common.{length}
use Rattle.cdc_token_tests.proofs.tests.answer.Given as goal

abbrev pub decreases-loop-line : goal.decreases-loop-line
decreases-loop-line l = length l.rest
