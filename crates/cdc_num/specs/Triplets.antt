-- Triplets of positions.
use Rattle.std.specs.Prelude.{◌≡◌, ℕ, ◌+◌, ◌*◌, ◌-◌, ◌≤◌, Option, Some, None}
use Rattle.cdc_num.specs.declared.triplet.Triplet.{Triplet}

-- a position of a triplet: lo and some steps, and not above hi
pub record HasPosition (t : Triplet) (z : ℕ) : Type 0 where
  pub steps : ℕ
  pub is : z ≡ steps * t.step + t.lo
  pub high : z ≤ t.hi

-- some position is in both
pub record Meet (a b : Triplet) : Type 0 where
  pub at : ℕ
  pub left : HasPosition a at
  pub right : HasPosition b at

-- x steps of a and d more are some steps of m
abbrev pub AreSteps : (a d m x : ℕ) → Type 0
AreSteps a d m x = (k : ℕ) × (x * a + d ≡ k * m)

-- the least number of steps, below m where m is not 0
pub record IsLeast (a d m x : ℕ) : Type 0 where
  pub steps : AreSteps a d m x
  pub least : (y : ℕ) → AreSteps a d m y → x ≤ y
  pub bound : x ≤ m - 1

-- the least number of steps, or that there is none
abbrev pub IsLeastOf : (a d m : ℕ) → Option ℕ → Type 0
IsLeastOf a d m None = (y : ℕ) → AreSteps a d m y → ⊥
IsLeastOf a d m (Some x) = IsLeast a d m x
