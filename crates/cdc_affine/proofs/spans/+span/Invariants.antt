use Rattle.std.proofs.Common.{length}
use Rattle.cdc_affine.proofs.spans.+span.Given as goal

abbrev pub decreases-span : goal.decreases-span
decreases-span l = length l.terms.now
