use Rattle.std.proofs.Common.{◌≡◌, ◌↔◌, ℕ, ◌<◌, length}
use Rattle.cdc_path.specs.declared.point.Point.TheVariants.{Write}
use Rattle.cdc_flow.specs.Flow.{point_at}
use Rattle.cdc_mark.specs.Least.{IsIn}
use Rattle.cdc_mark.proofs.marked.source_bits.Given as goal

abbrev pub invariant-loop-at : goal.invariant-loop-at
invariant-loop-at l = record {
  count : length l.bits.items ≡ l.at;
  bits : (v : ℕ) → v < l.at → IsIn l.bits.items v ↔ ((w : ℕ) × (point_at l.points v ≡ Write w) × IsIn l.wanted w × IsIn l.late v);
}
