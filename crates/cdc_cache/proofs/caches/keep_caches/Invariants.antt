use Rattle.std.proofs.Common.{◌≡◌, ℕ, ◌<◌, ◌≤◌, List, length}
use Rattle.std.specs.Prelude.{Some, slice_get}
use Rattle.cdc_sched.specs.declared.header.Geometry.{Geometry}
use Rattle.cdc_fabric.specs.Counting.{after_boundary as counts_after_boundary}
use Rattle.cdc_cache.specs.declared.line.Line.{Line}
use Rattle.cdc_cache.specs.Cache.{IsCache, geometry_of}
use Rattle.cdc_cache.specs.declared.cache.Cache.{Cache}
use Rattle.cdc_cache.specs.Lines.{after_boundary, lost_count}
use Rattle.cdc_cache.specs.Processors.{AreCaches, counts_at}
use Rattle.cdc_cache.proofs.caches.keep_caches.Given as goal

abbrev pub invariant-loop-p : goal.invariant-loop-p
invariant-loop-p g l = record {
  many : length l.counts ≡ length l.initial.counts;
  done : (geometry : Geometry) (lists : ℕ → List (Line g.row.S-Word.Denot)) → AreCaches g.S.Scheme geometry l.initial.caches lists → (q : ℕ) (cache : Cache g.row.S.Denot g.row.S-Word.Denot g.row.S-State.Denot g.S.Scheme) → q < l.p → slice_get l.caches q ≡ Some cache →
      (geometry_of cache ≡ geometry) × IsCache g.S.Scheme cache (after_boundary g.S.Scheme l.state l.memory geometry.words l.written (lists q));
  rest : (q : ℕ) → l.p ≤ q → slice_get l.caches q ≡ slice_get l.initial.caches q;
  counted : (geometry : Geometry) (lists : ℕ → List (Line g.row.S-Word.Denot)) → AreCaches g.S.Scheme geometry l.initial.caches lists → (q : ℕ) → q < l.p →
      counts_at l.counts q ≡ counts_after_boundary (lost_count g.S.Scheme l.state l.memory geometry.words l.written (lists q)) (counts_at l.initial.counts q);
  uncounted : (q : ℕ) → l.p ≤ q → counts_at l.counts q ≡ counts_at l.initial.counts q;
}
