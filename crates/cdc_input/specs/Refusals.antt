-- Where a file is refused.
use Rattle.std.specs.Prelude.{◌≡◌, ◌⊎◌, ℕ, ◌+◌, ◌<◌, ◌≤◌, List, slice_get, Some}
use Rattle.std.specs.Str.Lines.{lines}
use Rattle.cdc_base.specs.declared.place.Place.{Place}
use Rattle.cdc_input.specs.declared.file.InputRefusal.{InputRefusal}
use Rattle.cdc_input.specs.declared.file.InputRefusal.TheVariants.{BadNumber, Memory}
use Rattle.cdc_input.specs.Faults.{IsFault}

-- a fault of a line that stands so many lines and bytes in; a place counts both from 1
abbrev pub IsFaultAt : List ℕ → Place → Type 0
IsFaultAt bytes p = (above at : ℕ) × (line : List ℕ) × (slice_get (lines bytes) above ≡ Some line) × IsFault line at
    × (p.line ≡ above + 1) × (p.column ≡ at + 1)

abbrev pub IsNotAfter : Place → Place → Type 0
IsNotAfter p q = (p.line < q.line) ⊎ ((p.line ≡ q.line) × (p.column ≤ q.column))

abbrev pub HasNoFault : List ℕ → Type 0
HasNoFault bytes = (p : Place) → IsFaultAt bytes p → ⊥

-- A number is bad at the first fault of the file; memory may always run out.
abbrev pub Fails : List ℕ → InputRefusal → Type 0
Fails bytes (BadNumber p) = IsFaultAt bytes p × ((q : Place) → IsFaultAt bytes q → IsNotAfter p q)
Fails bytes Memory = Unit {0}

-- the same of the line of this number
abbrev pub FailsIn : ℕ → List ℕ → InputRefusal → Type 0
FailsIn number line (BadNumber p) = (at : ℕ) × IsFault line at × ((c : ℕ) → IsFault line c → at ≤ c) × (p.line ≡ number) × (p.column ≡ at + 1)
FailsIn number line Memory = Unit {0}
