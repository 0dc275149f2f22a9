use Rattle.std.proofs.Common.{length}
use Rattle.cdc_subtest.proofs.parts.+own_times.Given as goal

abbrev pub decreases-own_times : goal.decreases-own_times
decreases-own_times l = length l.terms.now
