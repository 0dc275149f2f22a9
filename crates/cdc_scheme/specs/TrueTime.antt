-- How old a cached word is, in epochs.
--
-- Epochs are numbered from 0, and a boundary ends one and begins the next. The written lists of the boundaries so far
-- stand the newest first, so their number is that of the present epoch. A word's true time is the epoch of which its
-- value is known to be right, or -1. Here it is counted from 1: `made` is the true time and 1 more, 0 for -1.
use Rattle.std.specs.Prelude.{◌≡◌, ◌⊎◌, ℕ, ◌+◌, ◌-◌, ◌≤◌, max, List, [], ◌∷◌, length, take, Option, Some, None, Contains}

-- what a processor reads from memory or writes itself is of the present epoch
abbrev pub present : List (List ℕ) → ℕ
present lists = length lists + 1

-- A word that comes in beside the one that was read is right for the epoch before alone, since another processor may
-- be about to write it; where a copy was there already, it is as new as that copy.
abbrev pub beside : List (List ℕ) → ℕ → ℕ
beside lists before = max (length lists) before

-- the true time of the copy that was there; none is as old as can be
abbrev pub WasDated : {W : Type 0} → (W → ℕ → Type 0) → Option W → ℕ → Type 0
WasDated dates None before = before ≡ 0
WasDated dates (Some word) before = dates word before

-- the object stands in one of these lists
abbrev pub IsListed : ℕ → List (List ℕ) → Type 0
IsListed object [] = ⊥
IsListed object (written ∷ lists) = Contains written object ⊎ IsListed object lists

-- A word is young for a mark of d boundaries: it is at most d epochs old, or its object stands in none of the lists of
-- the boundaries that ended an epoch after its own.
abbrev pub IsYoung : ℕ → List (List ℕ) → ℕ → ℕ → Type 0
IsYoung d lists object made = (present lists ≤ d + made) ⊎ ¬ IsListed object (take (length lists - made) lists)

-- the list holds each of these objects
abbrev pub Covers : List ℕ → List ℕ → Type 0
Covers written [] = Unit {0}
Covers written (object ∷ objects) = Contains written object × Covers written objects
