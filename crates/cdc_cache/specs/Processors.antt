-- The caches and counts of all processors.
use Rattle.std.specs.Prelude.{◌≡◌, ℕ, ◌+◌, ◌%◌, List, [], ◌∷◌, Option, Some, None, Bool, true, false, not, ◌||◌, ◌==◌, is_some, slice_get}
use Rattle.std.specs.List.{slice_index_or, slice_set}
use Rattle.cdc_prog.specs.declared.program.Object.{Object}
use Rattle.cdc_sched.specs.declared.header.Geometry.{Geometry}
use Rattle.cdc_scheme.specs.declared.scheme.Scheme.{Ghosts}
use Rattle.cdc_fabric.specs.Counting.{no_counts, after_drop}
use Rattle.cdc_fabric.specs.declared.counts.Counts.{Counts}
use Rattle.cdc_cache.specs.declared.cache.Cache.{Cache}
use Rattle.cdc_cache.specs.declared.line.Line.{Line}
use Rattle.cdc_cache.specs.declared.set.Set.{Set}
use Rattle.cdc_cache.specs.Cache.{IsCache, geometry_of}
use Rattle.cdc_cache.specs.Lines.{look_up}
use Rattle.cdc_cache.specs.Sets.{set_lines}

-- the objects lie one after another from a word on, up to this number of words
abbrev pub LieFrom : ℕ → List Object → ℕ → Type 0
LieFrom from [] words = from ≡ words
LieFrom from (object ∷ objects) words = (object.base ≡ from) × LieFrom (from + object.words) objects words

-- whether a set has a line
abbrev pub set_holds : {W : Type 0} → Option (Set W) → ℕ → Bool
set_holds None line = false
set_holds (Some set) line = is_some (look_up line (set_lines set))

-- the counts of a processor
abbrev pub counts_at : List Counts → ℕ → Counts
counts_at counts p = slice_index_or counts p no_counts

-- the counts with those of one processor changed
abbrev pub counted : List Counts → ℕ → (Counts → Counts) → List Counts
counted counts p change = slice_set counts p (change (counts_at counts p))

-- an eviction counts where the line was there
abbrev pub after_evict : Bool → Counts → Counts
after_evict true counts = after_drop counts
after_evict false counts = counts

module _ {S W T : Type 0} (scheme : Ghosts S W T) where
  -- whether a processor's cache has a line
  abbrev pub cache_holds : Option (Cache S W T scheme) → ℕ → Bool
  cache_holds None line = false
  cache_holds (Some cache) line = set_holds (slice_get cache.sets.items (line % cache.geometry.sets)) line

  -- each processor's cache has this shape and stands for its list of lines
  abbrev pub AreCaches : Geometry → List (Cache S W T scheme) → (ℕ → List (Line W)) → Type 0
  AreCaches geometry caches lists = (p : ℕ) (cache : Cache S W T scheme) → slice_get caches p ≡ Some cache → (geometry_of cache ≡ geometry) × IsCache scheme cache (lists p)

  -- no copy can be stale
  abbrev pub is_plain : ℕ → Bool
  is_plain procs = not scheme.has_caches || (procs == 1)
