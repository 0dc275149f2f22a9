use Rattle.std.proofs.Common.{◌≡◌, length, vec_len}
use Rattle.std.specs.Prelude.{All}
use Rattle.cdc_cache.proofs.set.Set.new.Given as goal

abbrev pub invariant-loop-way : goal.invariant-loop-way
invariant-loop-way g l = record {
  many : vec_len l.lines ≡ l._way;
  words : All (λ k. length k.words ≡ l.words) l.lines.items;
}
