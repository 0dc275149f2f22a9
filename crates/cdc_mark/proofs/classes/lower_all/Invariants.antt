use Rattle.std.proofs.Common.{◌≡◌, ℕ, ◌<◌, length, slice_index}
use Rattle.cdc_mark.specs.Least.{IsIn}
use Rattle.cdc_mark.specs.Classes.{IsLowered, DistanceOf}
use Rattle.cdc_mark.proofs.classes.lower_all.Given as goal

abbrev pub invariant-loop-at : goal.invariant-loop-at
invariant-loop-at l = record {
  count : length l.best ≡ length l.initial.best;
  lowered : (r : ℕ) → r < length l.initial.best → IsLowered (slice_index l.initial.best r) (slice_index l.best r) (λ d. IsIn l.reads r × DistanceOf l.points l.dist l.at r d);
}
