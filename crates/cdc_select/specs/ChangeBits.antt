-- Selective invalidation: a change bit with each cached word, and no state.
use Rattle.std.specs.Prelude.{◌≡◌, ℕ, ◌+◌, ◌≤◌, List, length, Bool, true, false, not, Option, Some}
use Rattle.cdc_prog.specs.declared.program.Mark.{Mark}
use Rattle.cdc_prog.specs.declared.program.Mark.TheVariants.{Ordinary, Time}

-- the bit of a copy that is read from memory, that comes in beside it, or that its processor writes
abbrev pub new_bit : Bool
new_bit = false

-- a marked read uses a copy whose bit is not set
abbrev pub si_admits : Mark → Bool → Bool
si_admits Ordinary bit = true
si_admits (Time d) bit = not bit

-- a boundary sets the bit of every copy
abbrev pub si_keeps : Bool → Option Bool
si_keeps bit = Some true

-- a copy of the present epoch, or one that came in beside such a copy, has no bit
pub record IsStamped (lists : List (List ℕ)) (bit : Bool) (made : ℕ) : Type 0 where
  pub past : made ≤ length lists + 1
  pub recent : bit ≡ false → length lists ≤ made
