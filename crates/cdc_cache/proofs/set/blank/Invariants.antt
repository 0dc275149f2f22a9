use Rattle.std.proofs.Common.{◌≡◌, vec_len}
use Rattle.cdc_cache.proofs.set.blank.Given as goal

abbrev pub invariant-loop-word : goal.invariant-loop-word
invariant-loop-word g l = vec_len l.blank ≡ l._word
