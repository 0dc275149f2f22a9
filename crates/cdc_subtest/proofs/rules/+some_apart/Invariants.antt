use Rattle.std.proofs.Common.{length}
use Rattle.cdc_subtest.proofs.rules.+some_apart.Given as goal

abbrev pub decreases-some_apart : goal.decreases-some_apart
decreases-some_apart l = length l.xs.now
