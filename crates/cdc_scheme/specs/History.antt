-- What happens to one copy, the newest first, and its true time all along.
use Rattle.std.specs.Prelude.{◌≡◌, ℕ, ◌≤◌, List, [], ◌∷◌, Option, Some, None, IsTrue}
use Rattle.std.specs.Option.{option_and_then}
use Rattle.cdc_prog.specs.declared.program.Mark.TheVariants.{Time}
use Rattle.cdc_scheme.specs.TrueTime.{present, beside, IsYoung, Covers}
use Rattle.cdc_scheme.specs.declared.scheme.Scheme.{Ghosts}

-- The copy is read in a miss, comes in beside the word that is read, is written by its processor, or is evicted. Another
-- copy or word is written, of some object. The epoch ends.
pub data Happening : Type 0 where
  Targeted : Happening
  Neighboured : Happening
  Wrote : Happening
  Evicted : Happening
  WroteElsewhere : (object : ℕ) → Happening
  Ended : (written : List ℕ) → Happening

-- the written lists of the boundaries so far
abbrev pub lists_of : List Happening → List (List ℕ)
lists_of [] = []
lists_of (Targeted ∷ past) = lists_of past
lists_of (Neighboured ∷ past) = lists_of past
lists_of (Wrote ∷ past) = lists_of past
lists_of (Evicted ∷ past) = lists_of past
lists_of (WroteElsewhere other ∷ past) = lists_of past
lists_of (Ended written ∷ past) = written ∷ lists_of past

-- the objects that were written in the present epoch, where the copy is of this object
abbrev pub objects_of : ℕ → List Happening → List ℕ
objects_of object [] = []
objects_of object (Targeted ∷ past) = objects_of object past
objects_of object (Neighboured ∷ past) = objects_of object past
objects_of object (Wrote ∷ past) = object ∷ objects_of object past
objects_of object (Evicted ∷ past) = objects_of object past
objects_of object (WroteElsewhere other ∷ past) = other ∷ objects_of object past
objects_of object (Ended written ∷ past) = []

-- each boundary's list holds the object of each write of the epoch that it ends
abbrev pub ListsWrites : ℕ → List Happening → Type 0
ListsWrites object [] = Unit {0}
ListsWrites object (Targeted ∷ past) = ListsWrites object past
ListsWrites object (Neighboured ∷ past) = ListsWrites object past
ListsWrites object (Wrote ∷ past) = ListsWrites object past
ListsWrites object (Evicted ∷ past) = ListsWrites object past
ListsWrites object (WroteElsewhere other ∷ past) = ListsWrites object past
ListsWrites object (Ended written ∷ past) = Covers written (objects_of object past) × ListsWrites object past

-- the true time of a copy past a boundary, which drops it or leaves it
abbrev pub left_of : {W : Type 0} → Option W → ℕ → ℕ
left_of None made = 0
left_of (Some word) made = made

-- from a start all of this leads to this state and to this copy, or to none, and to its true time
abbrev pub LeadsTo : {S W T : Type 0} → Ghosts S W T → ℕ → List Happening → T → Option W → ℕ → Type 0
LeadsTo scheme object [] state copy made = ((width : ℕ) × (count : ℕ) × scheme.starts width count state) × (copy ≡ None) × (made ≡ 0)
LeadsTo {S} {W} {T} scheme object (Targeted ∷ past) state copy made =
    (old : Option W) × (before : ℕ) × LeadsTo scheme object past state old before × (copy ≡ Some (scheme.target_of state object old)) × (made ≡ present (lists_of past))
LeadsTo {S} {W} {T} scheme object (Neighboured ∷ past) state copy made =
    (old : Option W) × (before : ℕ) × LeadsTo scheme object past state old before × (copy ≡ Some (scheme.neighbour_of state object old)) × (made ≡ beside (lists_of past) before)
LeadsTo {S} {W} {T} scheme object (Wrote ∷ past) state copy made =
    (old : Option W) × (before : ℕ) × LeadsTo scheme object past state old before × (copy ≡ Some (scheme.wrote_of state object)) × (made ≡ present (lists_of past))
LeadsTo {S} {W} {T} scheme object (Evicted ∷ past) state copy made =
    (old : Option W) × (before : ℕ) × LeadsTo scheme object past state old before × (copy ≡ None) × (made ≡ 0)
LeadsTo scheme object (WroteElsewhere other ∷ past) state copy made = LeadsTo scheme object past state copy made
LeadsTo {S} {W} {T} scheme object (Ended written ∷ past) state copy made =
    (last : T) × (old : Option W) × (before : ℕ) × LeadsTo scheme object past last old before × scheme.closes last written state
    × (copy ≡ option_and_then (scheme.keeps_of last written object) old) × (made ≡ left_of copy before)

-- whatever happened to a copy, a marked read uses it only while it is young
abbrev pub CopiesAreYoung : {S W T : Type 0} → Ghosts S W T → Type 0
CopiesAreYoung {S} {W} {T} scheme = (object : ℕ) (past : List Happening) (state : T) (word : W) (made d : ℕ) → ListsWrites object past → LeadsTo scheme object past state (Some word) made
    → 1 ≤ d → IsTrue (scheme.admits_of state object (Time d) word) → IsYoung d (lists_of past) object made
