-- Code that does what a process does within a number of instructions.
use Rattle.std.specs.Prelude.{◌≡◌, ℕ, suc, ◌+◌, ◌≤◌, ℤ, List}
use Rattle.cdc_prog.specs.declared.program.Mark.{Mark}
use Rattle.cdc_prog.specs.Marked.{mark_of}
use Rattle.cdc_prog.specs.Process.{Process, Load, Save, Say, Tick, Fork, Join, Halt, Fail}
use Rattle.cdc_code.specs.declared.code.Code.{Code}
use Rattle.cdc_code.specs.Act.{Goes, Reads, Writes, Prints, Forks, Joins, Halts, Faults}
use Rattle.cdc_code.specs.Frames.{Frame}
use Rattle.cdc_code.specs.Rows.{act}

-- `Fits` says how much room a task may take
module _ (code : Code) (marks : List Mark) (Fits : Frame → Type 0) where
  -- in n instructions that touch nothing but the frame, and keep to the room
  pub data Comes : ℕ → Frame → Frame → Type 0 where
    here : (f : Frame) → Fits f → Comes 0 f f
    after : (n : ℕ) → (f g h : Frame) → Fits f → act code f ≡ Goes g → Comes n g h → Comes (suc n) f h

  -- such instructions and one more, which counts as this price and is as P says, with what is left of the budget
  pub record Reach (price budget : ℕ) (f : Frame) (P : ℕ → Frame → Type 0) : Type 0 where
    pub steps : ℕ
    pub left : ℕ
    pub within : steps + price + left ≤ budget
    pub place : Frame
    pub comes : Comes steps f place
    pub does : P left place

  -- the code does from a frame what the process does, whatever its loads give, where a tick allows eight more instructions than the budget; each read has the mark of its site.
  -- What ends a task counts for its taking too, and a fork for the closings of the two epochs before what goes on
  abbrev pub Does : (budget : ℕ) → Process → Frame → Type 0
  Does n (Tick next) f = Does (n + 8) next f
  Does n (Load path site word next) f =
      Reach 1 n f (λ m g. (h : ℤ → Frame) × (act code g ≡ Reads path site (mark_of marks site) word h) × ((v : ℤ) → Does m (next v) (h v)))
  Does n (Save path site word v next) f = Reach 1 n f (λ m g. (h : Frame) × (act code g ≡ Writes path site word v h) × Does m next h)
  Does n (Say piece next) f = Reach 1 n f (λ m g. (h : Frame) × (act code g ≡ Prints piece h) × Does m next h)
  Does n (Fork path number count from by body next) f =
      Reach 4 n f (λ m g. (e : ℕ → Frame) × (h : Frame) × (act code g ≡ Forks path number count from by e h) × ((k : ℕ) → Does 0 (body k) (e k)) × Does m next h)
  Does n Join f = Reach 2 n f (λ m g. act code g ≡ Joins)
  Does n Halt f = Reach 2 n f (λ m g. act code g ≡ Halts)
  Does n (Fail kind line) f = Reach 2 n f (λ m g. act code g ≡ Faults kind line)
