use Rattle.std.proofs.Common.{◌≡◌, [], vec_len}
use Rattle.cdc_cache.specs.Sets.{AreSets}
use Rattle.cdc_cache.proofs.cache.empty_sets.Given as goal

abbrev pub invariant-loop-set : goal.invariant-loop-set
invariant-loop-set g l = record {
  many : vec_len l.sets ≡ l._set;
  held : AreSets l.geometry l.sets.items [];
}
