use Rattle.std.proofs.Common.{◌≡◌, ◌↔◌, ◌⊎◌, ℕ, ◌<◌, length}
use Rattle.cdc_mark.specs.Least.{IsIn}
use Rattle.cdc_mark.specs.Classes.{IsOfClass}
use Rattle.cdc_mark.proofs.classes.finish.Given as goal

abbrev pub invariant-loop-at : goal.invariant-loop-at
invariant-loop-at l = record {
  count : length l.done ≡ length l.initial.done;
  bits : (i : ℕ) → IsIn l.done i ↔ (IsIn l.initial.done i ⊎ ((i < l.at) × IsOfClass l.refs l.p i));
}
