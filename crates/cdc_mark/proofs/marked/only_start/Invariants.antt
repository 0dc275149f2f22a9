use Rattle.std.proofs.Common.{◌≡◌, ◌↔◌, ℕ, ◌<◌, length}
use Rattle.cdc_mark.specs.Least.{IsIn}
use Rattle.cdc_mark.proofs.marked.only_start.Given as goal

abbrev pub invariant-loop-at : goal.invariant-loop-at
invariant-loop-at l = record {
  count : length l.bits.items ≡ l.at;
  bits : (v : ℕ) → v < l.at → IsIn l.bits.items v ↔ (v ≡ l.g.start);
}
