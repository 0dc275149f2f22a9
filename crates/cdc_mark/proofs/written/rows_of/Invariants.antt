use Rattle.std.proofs.Common.{◌≡◌, length}
use Rattle.cdc_path.specs.PathExpr.{PathExpr}
use Rattle.cdc_flow.specs.Flow.{IsFlow}
use Rattle.cdc_mark.specs.Rows.{AreRows}
use Rattle.cdc_mark.proofs.written.rows_of.Given as goal

abbrev pub invariant-loop-object : goal.invariant-loop-object
invariant-loop-object l = record {
  count : length l.rows.items ≡ l.object;
  rows : (c : PathExpr) → IsFlow c l.g → AreRows c l.refs l.places l.object l.rows.items;
}
