use Rattle.std.proofs.Common.{◌≡◌, ◌↔◌, ◌⊎◌, ℕ, ◌<◌, length, take, map}
use Rattle.cdc_path.specs.Covers.{Covers}
use Rattle.cdc_mark.specs.Least.{IsIn}
use Rattle.cdc_mark.specs.Covered.{spot_of}
use Rattle.cdc_mark.proofs.covers.cover_run.Given as goal

abbrev pub invariant-loop-at : goal.invariant-loop-at
invariant-loop-at l = record {
  count : length l.covered ≡ length l.initial.covered;
  bits : (site : ℕ) → site < length l.initial.covered → IsIn l.covered site ↔ (IsIn l.initial.covered site ⊎ Covers site (map spot_of (take l.at l.run)));
}
