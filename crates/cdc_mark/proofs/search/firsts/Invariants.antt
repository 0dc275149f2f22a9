use Rattle.std.proofs.Common.{◌≡◌, ◌↔◌, ℕ, ◌<◌, length, slice_index}
use Rattle.cdc_path.specs.PathExpr.{crosses}
use Rattle.cdc_flow.specs.Flow.{point_at}
use Rattle.cdc_mark.specs.Least.{IsIn}
use Rattle.cdc_mark.proofs.search.firsts.Given as goal

abbrev pub invariant-loop-at : goal.invariant-loop-at
invariant-loop-at l = record {
  count : length l.bits.items ≡ l.at;
  firsts : (v : ℕ) → v < l.at → IsIn l.bits.items v ↔ ((crosses (point_at l.graph.points v) ≡ 1) × (slice_index l.dist v ≡ 1));
}
