-- Cells, as code holds them.
use Rattle.std.specs.Prelude.{ℕ, ◌<◌, ℤ, List}
use Rattle.cdc_prog.specs.Data.{Store}
use Rattle.cdc_prog.specs.Input.{Input}
use Rattle.cdc_prog.specs.Process.{Process}
use Rattle.cdc_prog.specs.Expressions as process
use Rattle.cdc_prog.specs.Held.{around, Same}
use Rattle.cdc_meaning.specs.declared.cell.Cell.{Cell}
use Rattle.cdc_meaning.specs.declared.cell.Cell.TheVariants.{Slot, Word}

-- the cell that an access at this site under this call path reaches
abbrev pub reached : (path : List ℕ) → (site : ℕ) → Cell → process.Cell
reached path site (Slot k) = process.InSlot k
reached path site (Word w) = process.InWord path site w

-- the cell is one of so many words or slots
abbrev pub IsWithin : (words slots : ℕ) → Cell → Type 0
IsWithin words slots (Slot k) = k < slots
IsWithin words slots (Word w) = w < words

-- a cell hands its value to the rest
abbrev pub Fetches : Cell → (slots : List ℤ) → Store → ℤ → Type 0
Fetches cell slots s v = (path : List ℕ) (site : ℕ) (left : Input) (rest : ℤ → Process) → Same (process.fetch (reached path site cell) (around slots left) rest) s (rest v) s

-- a value is stored in a cell
abbrev pub Keeps : Cell → ℤ → (slots : List ℤ) → Store → (after : List ℤ) → Store → Type 0
Keeps cell v slots s after t =
    (path : List ℕ) (site : ℕ) (left : Input) (rest : process.Surroundings → Process) → Same (process.keep (reached path site cell) v (around slots left) rest) s (rest (around after left)) t
