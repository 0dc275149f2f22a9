use Rattle.std.proofs.Common.{◌≡◌, ◌++◌, ◌-◌, ◌^◌, length, take, drop}
use Rattle.std.specs.Prelude.{min}
use Rattle.cdc_cache.specs.Lines.{map_from, kept_word, lost_words}
use Rattle.cdc_cache.proofs.fill.keep.Given as goal

abbrev pub invariant-loop-j : goal.invariant-loop-j
invariant-loop-j g l = record {
  words : l.words ≡ map_from (kept_word g.S.Scheme l.state l.memory l.written) l.first (take l.j l.initial.words) ++ drop l.j l.initial.words;
  long : length l.words ≡ length l.initial.words;
  lost : l.lost ≡ min (lost_words g.S.Scheme l.state l.memory l.written l.first (take l.j l.initial.words)) (2 ^ 64 - 1);
}
