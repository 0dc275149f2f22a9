use Rattle.std.proofs.Common.{◌≡◌, [], vec_len}
use Rattle.cdc_cache.specs.Processors.{AreCaches}
use Rattle.cdc_cache.proofs.caches.empty_caches.Given as goal

abbrev pub invariant-loop-proc : goal.invariant-loop-proc
invariant-loop-proc g l = record {
  many : vec_len l.caches ≡ l._proc;
  are : AreCaches g.S.Scheme l.geometry l.caches.items (λ p. []);
}
