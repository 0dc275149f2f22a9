use Rattle.std.proofs.Common.{length, map}
use Rattle.cdc_subtest.specs.Seen.{seen_of, HasLike}
use Rattle.cdc_subtest.proofs.alike.has_like.Given as goal

abbrev pub invariant-loop-rest : goal.invariant-loop-rest
invariant-loop-rest l = HasLike (seen_of l.p) (map seen_of l.rest) → HasLike (seen_of l.p) (map seen_of l.others)

abbrev pub decreases-loop-rest : goal.decreases-loop-rest
decreases-loop-rest l = length l.rest
