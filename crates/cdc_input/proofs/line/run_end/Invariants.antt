use Rattle.std.proofs.Common.{◌≡◌, ℕ, ◌-◌, ◌<◌, ◌≤◌, false, length}
use Rattle.std.specs.Prelude.{slice_index}
use Rattle.cdc_input.specs.Records.{is_separator}
use Rattle.cdc_input.proofs.line.run_end.Given as goal

abbrev pub invariant-loop-end : goal.invariant-loop-end
invariant-loop-end l = record {
  from : l.at ≤ l.end;
  within : l.end ≤ length l.line;
  plain : (k : ℕ) → l.at ≤ k → k < l.end → is_separator (slice_index l.line k) ≡ false;
}

abbrev pub decreases-loop-end : goal.decreases-loop-end
decreases-loop-end l = length l.line - l.end
