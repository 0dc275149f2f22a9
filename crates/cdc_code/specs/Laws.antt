-- What the code of a program does.
use Rattle.std.specs.Prelude.{◌≡◌, ℕ, ◌+◌, ◌*◌, ◌≤◌, List, Some}
use Rattle.cdc_prog.specs.declared.program.Mark.{Mark}
use Rattle.cdc_prog.specs.declared.program.Marks.{Marks}
use Rattle.cdc_prog.specs.Plain.{Program}
use Rattle.cdc_prog.specs.Data.{Store}
use Rattle.cdc_prog.specs.Input.{Input}
use Rattle.cdc_prog.specs.Process.{Process, Fork, Join, Halt, Fail}
use Rattle.cdc_prog.specs.Alone.{accesses, left, said, ending, ticks}
use Rattle.cdc_prog.specs.InOrder.{run}
use Rattle.cdc_prog.specs.Meaning.{Meaning, meaning}
use Rattle.cdc_prog.specs.Units.{process_of}
use Rattle.cdc_prog.specs.Resolved.{IsResolved}
use Rattle.cdc_prog.specs.Premises.{IsUnaliased}
use Rattle.cdc_prog.specs.Apart.{IsApart}
use Rattle.cdc_code.specs.declared.code.Code.{Code}
use Rattle.cdc_code.specs.Act.{Act, Forks, Joins, Halts, Faults}
use Rattle.cdc_code.specs.Frames.{Frame}
use Rattle.cdc_code.specs.Rows.{first_frame}
use Rattle.cdc_code.specs.Template.{HasCallNumbers, code_of}
use Rattle.cdc_code.specs.Room.{HasRoom, IsWithin, NamesWithin}
use Rattle.cdc_code.specs.Does.{Does}
use Rattle.cdc_code.specs.Alone.{alone, Runs, RunsTo}
use Rattle.cdc_code.specs.Sound.{IsSound}

-- any room
abbrev pub Anywhere : Frame → Type 0
Anywhere f = Unit {0}

-- the code of a resolved program does what its process does, whatever its marks are, with at most eight instructions for each tick and eight more; where the program keeps to the room of a task, each of its tasks does
pub record CodeFollows : Type 0 where
  pub follows : (p : Program) (marks : Marks) (records : Input) → IsResolved p → HasCallNumbers p →
      Does (code_of p marks) marks.reads Anywhere 8 (process_of p records) (first_frame (code_of p marks) records)
  pub within : (p : Program) (marks : Marks) (records : Input) → IsResolved p → HasCallNumbers p → HasRoom p →
      Does (code_of p marks) marks.reads IsWithin 8 (process_of p records) (first_frame (code_of p marks) records)

-- its instructions name slots and texts that are there
abbrev pub CodeNames : Type 0
CodeNames = (p : Program) (marks : Marks) → IsResolved p → HasRoom p → NamesWithin (code_of p marks)

-- a task of the code ends as the process ends that it does; where both fork, the code does what the iterations do, and the process that goes on after them
abbrev pub EndsAs : Code → List Mark → (Frame → Type 0) → Process → Act Frame → Type 0
EndsAs code marks Fits (Fork path number count from by body next) a =
    (m : ℕ) × (e : ℕ → Frame) × (h : Frame) × (a ≡ Forks path number count from by e h) × ((k : ℕ) → Does code marks Fits 0 (body k) (e k)) × Does code marks Fits m next h
EndsAs code marks Fits Join a = a ≡ Joins
EndsAs code marks Fits Halt a = a ≡ Halts
EndsAs code marks Fits (Fail kind line) a = a ≡ Faults kind line
EndsAs code marks Fits q a = ⊥

-- a task of code that does a process, alone on a store: it ends within its budget and eight instructions a tick, makes the accesses of the process, prints its pieces, and leaves its store
pub record TaskFollows (code : Code) (marks : List Mark) (Fits : Frame → Type 0) (budget : ℕ) (q : Process) (f : Frame) (s : Store) : Type 0 where
  pub steps : ℕ
  pub within : steps ≤ 8 * ticks q s + budget
  pub last : Act Frame
  pub alone : alone code steps f s ≡ Some (record { accesses = accesses q s; said = said q s; left = left q s; ending = last })
  pub ends : EndsAs code marks Fits (ending q s) last

pub record CodeRuns : Type 0 where
  -- on every store
  pub task : (code : Code) (marks : List Mark) (budget : ℕ) (q : Process) (f : Frame) (s : Store) → Does code marks IsWithin budget q f → TaskFollows code marks IsWithin budget q f s
  pub task_anywhere : (code : Code) (marks : List Mark) (budget : ℕ) (q : Process) (f : Frame) (s : Store) → Does code marks Anywhere budget q f → TaskFollows code marks Anywhere budget q f s
  -- in order, on one memory
  pub in_order : (code : Code) (marks : List Mark) (budget : ℕ) (q : Process) (f : Frame) (s : Store) → Does code marks Anywhere budget q f → Runs code f s (run q s)
  pub program : (p : Program) (marks : Marks) (records : Input) → IsResolved p → HasCallNumbers p → RunsTo (code_of p marks) records (meaning p records)
  -- code has one one-memory run
  pub one : (code : Code) (records : Input) (m m' : Meaning) → RunsTo code records m → RunsTo code records m' → m ≡ m'

-- the code of such a program is sound
abbrev pub CodeIsSound : Type 0
CodeIsSound = (p : Program) (marks : Marks) → IsResolved p → HasCallNumbers p → HasRoom p → IsUnaliased p → ((records : Input) → IsApart (process_of p records)) → IsSound (code_of p marks)
