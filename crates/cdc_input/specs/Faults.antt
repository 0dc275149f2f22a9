-- What is wrong in a line, and where. A place is a number of bytes that stand before it.
use Rattle.std.specs.Prelude.{◌≡◌, ◌⊎◌, ℕ, ◌+◌, ◌<◌, ◌≤◌, true, false, List, length, slice_index, slice_range}
use Rattle.cdc_input.specs.Records.{is_separator, IsValue}

-- A run stands from one place up to another: bytes that are no blank and no comma, as many as there are.
pub record IsRun (line : List ℕ) (from to : ℕ) : Type 0 where
  pub some : from < to
  pub within : to ≤ length line
  pub plain : (k : ℕ) → from ≤ k → k < to → is_separator (slice_index line k) ≡ false
  pub begins : (k : ℕ) → k + 1 ≡ from → is_separator (slice_index line k) ≡ true
  pub ends : to < length line → is_separator (slice_index line to) ≡ true

-- A value stands from one place up to another.
pub record HasValue (line : List ℕ) (from to : ℕ) : Type 0 where
  pub run : IsRun line from to
  pub value : IsValue (slice_range line from to)

-- a comma stands at one of the places from one up to another
abbrev pub HasComma : List ℕ → ℕ → ℕ → Type 0
HasComma line from to = (k : ℕ) × (from ≤ k) × (k < to) × (slice_index line k ≡ 44)

-- A run that is no value begins at the place.
abbrev pub IsBadRun : List ℕ → ℕ → Type 0
IsBadRun line at = (to : ℕ) × IsRun line at to × (IsValue (slice_range line at to) → ⊥)

-- A comma stands at the place, and each value before it has a comma behind it before this one.
pub record IsBareComma (line : List ℕ) (at : ℕ) : Type 0 where
  pub within : at < length line
  pub comma : slice_index line at ≡ 44
  pub bare : (from to : ℕ) → HasValue line from to → to ≤ at → HasComma line to at

abbrev pub IsFault : List ℕ → ℕ → Type 0
IsFault line at = IsBadRun line at ⊎ IsBareComma line at

abbrev pub HasNoFaultIn : List ℕ → Type 0
HasNoFaultIn line = (at : ℕ) → IsFault line at → ⊥
