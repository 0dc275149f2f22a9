-- Subscripts that are folded one by one into the number of their element.
use Rattle.std.specs.Prelude.{ℕ, ◌+◌, ℤ, Bool, true, false, List, Ok, Err}
use Rattle.cdc_prog.specs.declared.program.Dim.{Dim}
use Rattle.cdc_prog.specs.declared.program.FaultKind.TheVariants.{Subscript}
use Rattle.cdc_prog.specs.Value.{Got}
use Rattle.cdc_prog.specs.Data.{with_position, element_from}
use Rattle.cdc_meaning.specs.declared.folded.Folded.{Folded}

-- the number with what the subscripts that are left add to it; where one before them is outside its bounds, a fault
abbrev pub number_behind : (inside : Bool) → (number stride : ℕ) → List Dim → List ℤ → Got ℕ
number_behind true number stride dims subs = with_position (element_from stride dims subs) (λ m. Ok (number + m))
number_behind false number stride dims subs = Err Subscript

abbrev pub number_of : Folded → List Dim → List ℤ → Got ℕ
number_of f dims subs = number_behind f.is_inside f.number f.stride dims subs
