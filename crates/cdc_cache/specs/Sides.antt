-- What the caches of all processors and their memory stand for, and what their calls do.
use Rattle.std.specs.Prelude.{◌≡◌, ℕ, ℤ, ◌+◌, ◌-◌, ◌/◌, ◌<◌, max, List, ◌∷◌, length, Option, Some, Bool, is_some, slice_get}
use Rattle.std.specs.List.{slice_set}
use Rattle.cdc_prog.specs.declared.program.Mark.{Mark}
use Rattle.cdc_scheme.specs.declared.scheme.Scheme.{Ghosts}
use Rattle.cdc_fabric.specs.Calls.{Call, Load}
use Rattle.cdc_fabric.specs.Counting.{after_read, after_boundary, without_steps}
use Rattle.cdc_fabric.specs.Made.{Layout, IsInOrder}
use Rattle.cdc_fabric.specs.declared.counts.Counts.{Counts}
use Rattle.cdc_cache.specs.declared.caches.Caches.{Caches}
use Rattle.cdc_cache.specs.declared.line.Copied.{Copied}
use Rattle.cdc_cache.specs.declared.line.Line.{Line}
use Rattle.cdc_cache.specs.Copies.{changed}
use Rattle.cdc_cache.specs.Lines.{value_at, look_up, copy_in, hit_of, removed, read_value, read_access, after_read as lines_after_read, after_write, after_boundary as lines_after_boundary, lost_count}
use Rattle.cdc_cache.specs.Processors.{AreCaches, is_plain, cache_holds, counts_at, counted, after_evict}
use Rattle.cdc_cache.specs.Serves.{Serves, copies_of}

module _ {S W T : Type 0} (scheme : Ghosts S W T) where
  abbrev pub side_procs : Caches S W T scheme → ℕ
  side_procs side = length side.caches.items

  abbrev pub side_words : Caches S W T scheme → ℕ
  side_words side = length side.memory.cells

  abbrev pub side_plain : Caches S W T scheme → Bool
  side_plain side = is_plain scheme (side_procs side)

  -- it was made for these owners of words and this number of objects
  abbrev pub side_made : Caches S W T scheme → Option Layout
  side_made side = Some (record { owners = side.memory.owner; objects = side.objects })

  -- the lines that memory has, the last one perhaps in part, and one at least
  abbrev pub side_lines : Caches S W T scheme → ℕ
  side_lines side = max ((side_words side + (side.geometry.words - 1)) / side.geometry.words) 1

  abbrev pub side_present : Caches S W T scheme → ℕ → ℕ → Bool
  side_present side p line = cache_holds scheme (slice_get side.caches.items p) line

  abbrev pub side_counts : Caches S W T scheme → ℕ → Counts
  side_counts side p = without_steps (counts_at side.counts p)

  abbrev pub side_value : Caches S W T scheme → ℕ → ℤ
  side_value side word = value_at side.memory word

  -- its caches stand for these lists of lines
  abbrev pub HasLines : Caches S W T scheme → (ℕ → List (Line W)) → Type 0
  HasLines side lists = AreCaches scheme side.geometry side.caches.items lists

  abbrev pub side_stands : Caches S W T scheme → List Call → Type 0
  side_stands side calls =
      (lists : ℕ → List (Line W)) × HasLines side lists × Serves scheme (side_plain side) (side_procs side) side.state side.memory (copies_of side.geometry.words lists) calls

  -- as many caches of the same shape, for the same objects
  pub record IsSameShape (old new : Caches S W T scheme) : Type 0 where
    pub procs : side_procs new ≡ side_procs old
    pub geometry : new.geometry ≡ old.geometry
    pub objects : new.objects ≡ old.objects

  -- for whatever lists of lines the caches stand for
  abbrev pub ForLists : Caches S W T scheme → ((ℕ → List (Line W)) → Type 0) → Type 0
  ForLists side P = (lists : ℕ → List (Line W)) → HasLines side lists → P lists

  pub record Loads (old : Caches S W T scheme) (p word : ℕ) (mark : Mark) (value : ℤ) (new : Caches S W T scheme) : Type 0 where
    pub shape : IsSameShape old new
    pub memory : new.memory ≡ old.memory
    pub state : new.state ≡ old.state
    pub value_is : ForLists old (λ lists. value ≡ read_value scheme old.state old.memory old.geometry.words (lists p) word mark)
    pub counts : ForLists old (λ lists. new.counts ≡ counted old.counts p (after_read (read_access scheme old.geometry old.state old.memory (lists p) word mark)))
    pub lines : ForLists old (λ lists. AreCaches scheme old.geometry new.caches.items (changed lists p (lines_after_read scheme old.geometry old.state old.memory (lists p) word mark)))

  pub record Stores (old : Caches S W T scheme) (p word : ℕ) (value : ℤ) (new : Caches S W T scheme) : Type 0 where
    pub shape : IsSameShape old new
    pub cells : new.memory.cells ≡ slice_set old.memory.cells word value
    pub owner : new.memory.owner ≡ old.memory.owner
    pub state : new.state ≡ old.state
    pub counts : new.counts ≡ old.counts
    pub lines : ForLists old (λ lists. AreCaches scheme old.geometry new.caches.items (changed lists p (after_write scheme old.geometry old.state old.memory (lists p) word value)))

  pub record Evicts (old : Caches S W T scheme) (p line : ℕ) (new : Caches S W T scheme) : Type 0 where
    pub shape : IsSameShape old new
    pub memory : new.memory ≡ old.memory
    pub state : new.state ≡ old.state
    pub was : ForLists old (λ lists. side_present old p line ≡ is_some (look_up line (lists p)))
    pub counts : new.counts ≡ counted old.counts p (after_evict (side_present old p line))
    pub lines : ForLists old (λ lists. AreCaches scheme old.geometry new.caches.items (changed lists p (removed line (lists p))))

  pub record Bounds (old : Caches S W T scheme) (written : List ℕ) (new : Caches S W T scheme) : Type 0 where
    pub shape : IsSameShape old new
    pub memory : new.memory ≡ old.memory
    pub state : scheme.closes old.state written new.state
    pub counts : ForLists old (λ lists. (p : ℕ) → p < side_procs old →
        counts_at new.counts p ≡ after_boundary (lost_count scheme old.state old.memory old.geometry.words written (lists p)) (counts_at old.counts p))
    pub lines : ForLists old (λ lists. AreCaches scheme old.geometry new.caches.items (λ p. lines_after_boundary scheme old.state old.memory old.geometry.words written (lists p)))

  -- Over calls in order: where a copy serves a load, so that it is counted as a hit, that copy's value is memory's, and the
  -- load gives it.
  abbrev pub HitsGiveMemory : Type 0
  HitsGiveMemory =
      (old new : Caches S W T scheme) (p word : ℕ) (mark : Mark) (value : ℤ) (calls : List Call) (lists : ℕ → List (Line W)) → p < side_procs old
      → IsInOrder (side_plain old) (side_made old) (Load p word mark ∷ calls) → Loads old p word mark value new → side_stands old calls
      → HasLines old lists → read_access scheme old.geometry old.state old.memory (lists p) word mark ≡ hit_of mark
      → (copy : Copied W) × (copy_in old.geometry.words (lists p) word ≡ Some copy) × (value ≡ copy.value) × (copy.value ≡ side_value old word)
