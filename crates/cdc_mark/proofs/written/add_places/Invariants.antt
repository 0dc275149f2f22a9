use Rattle.std.proofs.Common.{◌≡◌, ◌↔◌, ◌⊎◌, ℕ, length}
use Rattle.cdc_mark.specs.Least.{IsIn}
use Rattle.cdc_mark.specs.Rows.{HasPlace}
use Rattle.cdc_mark.proofs.written.add_places.Given as goal

abbrev pub invariant-loop-at : goal.invariant-loop-at
invariant-loop-at l = record {
  count : length l.row ≡ length l.initial.row;
  bits : (n : ℕ) → IsIn l.row n ↔ (IsIn l.initial.row n ⊎ HasPlace l.points l.bits l.at (length l.initial.row) n);
}
