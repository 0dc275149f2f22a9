-- The iterations of a DOALL: how many there are, and their indexes.
use Rattle.std.specs.Prelude.{ℕ, ◌<◌, ℤ, pos, ◌+ℤ◌, ◌*ℤ◌, IsTrue, Ok, Err}
use Rattle.cdc_prog.specs.Value.{Got, is_value, few}

-- the index of each of so many iterations is a value
abbrev pub HasIndexes : (count : ℕ) → (from by : ℤ) → Type 0
HasIndexes count from by = (j : ℕ) → j < count → IsTrue (is_value (from +ℤ (pos j *ℤ by)))

-- a number of turns that a DOALL may have
abbrev pub few_of : Got ℕ → Got ℕ
few_of (Ok n) = few n
few_of (Err kind) = Err kind
