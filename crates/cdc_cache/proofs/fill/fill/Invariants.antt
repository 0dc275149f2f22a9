use Rattle.std.proofs.Common.{◌≡◌, ◌++◌, length, take, drop}
use Rattle.cdc_cache.specs.Lines.{map_from, filled_word}
use Rattle.cdc_cache.proofs.fill.fill.Given as goal

abbrev pub invariant-loop-j : goal.invariant-loop-j
invariant-loop-j g l = record {
  words : l.words ≡ map_from (filled_word g.S.Scheme l.state l.memory l.x) l.first (take l.j l.initial.words) ++ drop l.j l.initial.words;
  long : length l.words ≡ length l.initial.words;
}
