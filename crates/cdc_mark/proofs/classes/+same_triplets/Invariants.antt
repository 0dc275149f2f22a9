use Rattle.std.proofs.Common.{length}
use Rattle.cdc_mark.proofs.classes.+same_triplets.Given as goal

abbrev pub decreases-same_triplets : goal.decreases-same_triplets
decreases-same_triplets l = length l.ts.now
