use Rattle.std.proofs.Common.{◌≡◌, ◌++◌, replicate}
use Rattle.cdc_cache.proofs.caches.add_owner.Given as goal

abbrev pub invariant-loop-word : goal.invariant-loop-word
invariant-loop-word l = l.owners.items ≡ l.initial.owners.items ++ replicate l._word l.number
