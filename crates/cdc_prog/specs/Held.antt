-- What code holds of a store and of surroundings, and processes that do the same.
use Rattle.std.specs.Prelude.{◌≡◌, ℤ, pos, List, get_or}
use Rattle.cdc_prog.specs.Data.{Store}
use Rattle.cdc_prog.specs.Input.{Input}
use Rattle.cdc_prog.specs.Process.{Process}
use Rattle.cdc_prog.specs.Expressions.{Surroundings}
use Rattle.cdc_prog.specs.InOrder.{output, ends}

-- the store that words hold
abbrev pub store_of : List ℤ → Store
store_of words w = get_or words w (pos 0)

-- the surroundings that slots and what is left of the input make
abbrev pub around : (slots : List ℤ) → Input → Surroundings
around slots left = record { slots = store_of slots; input = left }

-- one process on its store prints what the other does on its own, and ends as it does
pub record Same (p : Process) (s : Store) (q : Process) (t : Store) : Type 0 where
  pub output : output p s ≡ output q t
  pub ends : ends p s ≡ ends q t
