use Rattle.std.proofs.Common.{length}
use Rattle.cdc_subtest.proofs.parts.+common.Given as goal

abbrev pub decreases-common : goal.decreases-common
decreases-common l = length l.terms.now
