use Rattle.std.proofs.Common.{◌≡◌, ◌++◌, length, take, drop}
use Rattle.std.specs.Prelude.{None}
use Rattle.cdc_cache.specs.Lines.{map_from}
use Rattle.cdc_cache.proofs.fill.clear.Given as goal

abbrev pub invariant-loop-j : goal.invariant-loop-j
invariant-loop-j g l = record {
  words : l.words ≡ map_from (λ _ _. None) 0 (take l.j l.initial.words) ++ drop l.j l.initial.words;
  long : length l.words ≡ length l.initial.words;
}
