-- Which tasks of an epoch were taken.
use Rattle.std.specs.Prelude.{◌≡◌, ℕ, ◌<◌, nat_lt, List, get_or, Bool, true, false, not, ◌&&◌, Option, Some, None}

abbrev pub AreTaken : List Bool → (n : ℕ) → Type 0
AreTaken taken n = (i : ℕ) → i < n → get_or taken i true ≡ true

-- task i is one of so many, and was not taken
abbrev pub is_waiting : List Bool → (count i : ℕ) → Bool
is_waiting taken count i = nat_lt i count && not (get_or taken i true)

-- the least of so many tasks that was not taken, if there is one
abbrev pub IsLeast : List Bool → (count : ℕ) → Option ℕ → Type 0
IsLeast taken count None = AreTaken taken count
IsLeast taken count (Some i) = (i < count) × (get_or taken i true ≡ false) × AreTaken taken i
