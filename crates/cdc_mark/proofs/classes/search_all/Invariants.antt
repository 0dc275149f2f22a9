use Rattle.std.proofs.Common.{◌≡◌, ℕ, length}
use Rattle.cdc_path.specs.PathExpr.{PathExpr}
use Rattle.cdc_flow.specs.Flow.{IsFlow}
use Rattle.cdc_mark.specs.Classes.{AreLeastDone, IsPassed}
use Rattle.cdc_mark.proofs.classes.search_all.Given as goal

abbrev pub invariant-loop-at : goal.invariant-loop-at
invariant-loop-at l = record {
  best : length l.best ≡ length l.initial.best;
  done : length l.done ≡ length l.refs;
  least : (c : PathExpr) → IsFlow c l.g → AreLeastDone c l.refs l.initial.done l.initial.best → AreLeastDone c l.refs l.done l.best;
  passed : (i : ℕ) → IsPassed l.refs l.done l.at i;
}
