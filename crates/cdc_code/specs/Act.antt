-- What a task does next, whatever a task is: a place in the code, or a process.
use Rattle.std.specs.Prelude.{ℕ, ℤ, List, Ok, Err}
use Rattle.cdc_prog.specs.declared.program.Mark.{Mark}
use Rattle.cdc_prog.specs.declared.program.FaultKind.{FaultKind}
use Rattle.cdc_prog.specs.Value.{Got}
use Rattle.cdc_prog.specs.declared.piece.Piece.{Piece}

-- it goes on without touching anything else; it reads a word at a site under a call path, with a mark, or writes one; it prints a piece; it forks the iterations of a DOALL, which has a number, with the index of the first and the step, and goes on after them; or it ends. Stuck is what no code of a program comes to
pub data Act (T : Type 0) : Type 0 where
  Goes : (next : T) → Act T
  Reads : (path : List ℕ) → (site : ℕ) → (mark : Mark) → (word : ℕ) → (next : ℤ → T) → Act T
  Writes : (path : List ℕ) → (site word : ℕ) → (value : ℤ) → (next : T) → Act T
  Prints : (piece : Piece) → (next : T) → Act T
  Forks : (path : List ℕ) → (number count : ℕ) → (from by : ℤ) → (body : ℕ → T) → (next : T) → Act T
  Joins : Act T
  Halts : Act T
  Faults : (kind : FaultKind) → (line : ℕ) → Act T
  Stuck : Act T

-- goes on with what was got, or faults at the line
abbrev pub or_fault : {A T : Type 0} → (line : ℕ) → Got A → (A → Act T) → Act T
or_fault line (Ok a) go = go a
or_fault line (Err kind) go = Faults kind line
