use Rattle.std.proofs.Common.{length}
use Rattle.cdc_token_tests.proofs.tests.count.Given as goal

abbrev pub decreases-loop-after : goal.decreases-loop-after
decreases-loop-after l = length l.rest
