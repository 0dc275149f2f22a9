-- What is left of the input, as code holds it.
use Rattle.std.specs.Prelude.{◌≡◌, ℕ, ℤ, List, [], ◌∷◌, drop, Ok, Err}
use Rattle.cdc_prog.specs.Value.{Got}
use Rattle.cdc_prog.specs.Input.{Input, take, end_record}
use Rattle.cdc_prog.specs.declared.unread.Unread.{Unread}

-- records of whose first so many values are used
abbrev pub without : (used : ℕ) → List (List ℤ) → Input
without used [] = []
without used (first ∷ others) = drop used first ∷ others

abbrev pub left_of : Unread → Input
left_of u = without u.used u.records.now

-- the next value, and what is left after it
abbrev pub Takes : Input → Got ℤ → Input → Type 0
Takes before (Ok v) after = take before ≡ Ok (v, after)
Takes before (Err kind) after = take before ≡ Err kind

-- the rest of the record is skipped
abbrev pub Skips : Input → Got (Unit {0}) → Input → Type 0
Skips before (Ok u) after = end_record before ≡ Ok after
Skips before (Err kind) after = end_record before ≡ Err kind
