-- When a task does what a process does.
use Rattle.std.specs.Prelude.{ℕ, ◌+◌, ◌≤◌, ℤ, List}
use Rattle.cdc_prog.specs.declared.piece.Piece.{Piece}
use Rattle.cdc_prog.specs.declared.program.FaultKind.{FaultKind}
use Rattle.cdc_prog.specs.declared.program.Mark.{Mark}
use Rattle.cdc_prog.specs.Process.{Process, Load, Save, Say, Tick, Fork, Join, Halt, Fail}
use Rattle.cdc_code.specs.Act.{Act, Goes, Reads, Writes, Prints, Forks, Joins, Halts, Faults}

-- `Does budget q at`: a task that stands there does the process q within so many instructions, where a tick allows eight more.
-- Its end counts for its taking too, and a fork for two closings. `mark` gives the mark of a site
module _ {T : Type 0} (Does : (budget : ℕ) → Process → T → Type 0) (mark : (site : ℕ) → Mark) where
  -- the act with which a task ends, and the process that ends with it
  pub data Stops : (budget : ℕ) → Process → Act T → Type 0 where
    forks : (b c : ℕ) (path : List ℕ) (number count : ℕ) (from by : ℤ) (body : ℕ → Process) (begin : ℕ → T) (next : Process) (on : T) → c + 4 ≤ b → ((k : ℕ) → Does 0 (body k) (begin k)) → Does c next on →
        Stops b (Fork path number count from by body next) (Forks path number count from by begin on)
    joins : (b : ℕ) → 2 ≤ b → Stops b Join Joins
    halts : (b : ℕ) → 2 ≤ b → Stops b Halt Halts
    faults : (b : ℕ) (kind : FaultKind) (line : ℕ) → 2 ≤ b → Stops b (Fail kind line) (Faults kind line)
    later : (b : ℕ) (next : Process) (a : Act T) → Stops (b + 8) next a → Stops b (Tick next) a

  -- the act of a task: one that touches nothing else, or what the process does first
  pub data Now : (budget : ℕ) → Process → Act T → Type 0 where
    quiet : (b c : ℕ) (q : Process) (g : T) → c + 1 ≤ b → Does c q g → Now b q (Goes g)
    reads : (b c : ℕ) (path : List ℕ) (site word : ℕ) (next : ℤ → Process) (h : ℤ → T) → c + 1 ≤ b → ((v : ℤ) → Does c (next v) (h v)) → Now b (Load path site word next) (Reads path site (mark site) word h)
    writes : (b c : ℕ) (path : List ℕ) (site word : ℕ) (value : ℤ) (next : Process) (g : T) → c + 1 ≤ b → Does c next g → Now b (Save path site word value next) (Writes path site word value g)
    prints : (b c : ℕ) (piece : Piece) (next : Process) (g : T) → c + 1 ≤ b → Does c next g → Now b (Say piece next) (Prints piece g)
    stops : (b : ℕ) (q : Process) (a : Act T) → Stops b q a → Now b q a
    ticks : (b : ℕ) (next : Process) (a : Act T) → Now (b + 8) next a → Now b (Tick next) a
