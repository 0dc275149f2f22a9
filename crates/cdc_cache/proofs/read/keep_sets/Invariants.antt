use Rattle.std.proofs.Common.{◌≡◌, ℕ, ◌-◌, ◌^◌, ◌<◌, ◌≤◌, take}
use Rattle.std.specs.Prelude.{min, Some, slice_get, sum_by}
use Rattle.cdc_cache.specs.declared.set.Set.{Set}
use Rattle.cdc_cache.specs.Lines.{after_boundary}
use Rattle.cdc_cache.specs.Sets.{set_lines, IsSized, lost_in_set}
use Rattle.cdc_cache.proofs.read.keep_sets.Given as goal

abbrev pub invariant-loop-place : goal.invariant-loop-place
invariant-loop-place g l = record {
  done : (s : ℕ) (after : Set g.row.S-Word.Denot) → s < l.place → slice_get l.sets s ≡ Some after →
      (before : Set g.row.S-Word.Denot) × (slice_get l.initial.sets s ≡ Some before) × (set_lines after ≡ after_boundary g.S.Scheme l.state l.memory l.words l.written (set_lines before)) × ((ways : ℕ) → IsSized l.words ways before → IsSized l.words ways after);
  rest : (s : ℕ) → l.place ≤ s → slice_get l.sets s ≡ slice_get l.initial.sets s;
  lost : l.lost ≡ min (sum_by (lost_in_set g.S.Scheme l.state l.memory l.words l.written) (take l.place l.initial.sets)) (2 ^ 64 - 1);
}
