use Rattle.std.proofs.Common.{length}
use Rattle.cdc_section.proofs.triplets.+stride.Given as goal

abbrev pub decreases-stride : goal.decreases-stride
decreases-stride l = length l.terms.now
