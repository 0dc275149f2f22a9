-- What a run on one memory owes.
use Rattle.std.specs.Prelude.{ℕ, ◌≤◌, ◌<◌, ℤ, pos, ◌+ℤ◌, ◌*ℤ◌, List, [], ◌∷◌, ◌++◌, zero, suc, Option, Result}
use Rattle.cdc_prog.specs.declared.program.Mark.{Mark}
use Rattle.cdc_prog.specs.declared.fault.Fault.{Fault}
use Rattle.cdc_prog.specs.declared.piece.Piece.{Piece}
use Rattle.cdc_prog.specs.Data.{Store}
use Rattle.cdc_prog.specs.Input.{Input}
use Rattle.cdc_prog.specs.Process.{Process}
use Rattle.cdc_prog.specs.Alone.{left, said, ending}
use Rattle.cdc_prog.specs.InOrder.{Done, Faulted, fault_of, choose, Run, run}
use Rattle.cdc_prog.specs.Output as output
use Rattle.cdc_prog.specs.Output.{Output, output_of, meaning_of}
use Rattle.cdc_prog.specs.declared.stop.Stop.{Stop}
use Rattle.cdc_code.specs.declared.code.Code.{Code}
use Rattle.cdc_code.specs.Does.{Does}
use Rattle.cdc_code.specs.Frames.{Frame}
use Rattle.cdc_task.specs.declared.run.Fork.{Fork}
use Rattle.cdc_task.specs.declared.run.Shared.{Shared}
use Rattle.cdc_task.specs.Memory.{memory_of}
use Rattle.cdc_task.specs.Held.{Held, frame_of, resumed, begun}
use Rattle.cdc_task.specs.Steps.{GoesOn}
use Rattle.cdc_task.specs.Course.{Spot, Serial, Before, Inside, Place, Lasts}

-- ---- what tasks do
-- a task does a process, and goes on wherever that comes to
pub record Doing (code : Code) (records : Input) (h : Held) : Type 0 where
  pub marks : List Mark
  pub path : List ℕ
  pub budget : ℕ
  pub process : Process
  pub does : Does code marks (GoesOn code) budget process (frame_of path records h)

-- the iterations of the DOALL that a task has forked do processes
pub record Forking (code : Code) (records : Input) (h : Held) (from by : ℤ) : Type 0 where
  pub marks : List Mark
  pub path : List ℕ
  pub body : ℕ → Process
  pub each : (k : ℕ) → Does code marks (GoesOn code) 0 (body k) (begun path records h (from +ℤ (pos k *ℤ by)))

-- the iterations of a fork
abbrev pub bodies : Input → Held → Fork → ℕ → Frame
bodies records serial fork k = begun [] records serial (fork.from +ℤ (pos k *ℤ fork.by))

-- before iteration k, and in it
abbrev pub before : Input → (serial : Held) → Fork → (k : ℕ) → Spot
before records serial fork k = Before k fork.count (bodies records serial fork) (frame_of [] records (resumed serial))

abbrev pub inside : Input → (serial : Held) → Fork → (k : ℕ) → (lane : Held) → Spot
inside records serial fork k lane = Inside (frame_of [] records lane) k fork.count (bodies records serial fork) (frame_of [] records (resumed serial))

-- behind the fork
abbrev pub beyond : Input → (serial : Held) → Spot
beyond records serial = Serial (frame_of [] records (resumed serial))

-- the run ends from there, after so much at most
abbrev pub EndsWithin : Code → (most : ℕ) → Place → Type 0
EndsWithin code most p = (n : ℕ) × (n ≤ most) × Lasts code n p

-- less is left than before
abbrev pub IsNearer : Code → Place → Place → Type 0
IsNearer code p q = (n : ℕ) → Lasts code n p → (m : ℕ) × (m < n) × Lasts code m q

-- ---- runs
-- pieces before a run
abbrev pub behind : List Piece → Run → Run
behind pieces r = record { printed = pieces ++ r.printed; end = r.end }

abbrev pub stopped : Fault → Run
stopped f = record { printed = []; end = Faulted f }

-- nothing is left
abbrev pub nothing : Run
nothing = record { printed = []; end = Done }

-- an iteration on a store, and what follows it where it has no fault
abbrev pub turn : Process → Store → (rest : Run) → Run
turn q s rest = behind (said q s) (choose (fault_of (ending q s)) stopped rest)

-- so many iterations from iteration k on, and then what follows
abbrev pub turns : (m k : ℕ) → (ℕ → Process) → Store → (rest : Store → Run) → Run
turns zero k body s rest = rest s
turns (suc m) k body s rest = turn (body k) s (turns m (suc k) body (left (body k) s) rest)

-- ---- output
-- one run goes on with what the other still has to print, beside what was printed between, and has its end
abbrev pub Follows : (texts : List (List ℕ)) → Run → Output → (rest : Run) → Output → Type 0
Follows texts r x rest y = output.Follows (meaning_of texts r) x (meaning_of texts rest) y

-- what a run comes to, a fault, or a failure of the sink
abbrev pub Comes : (texts : List (List ℕ)) → Run → Output → Result (Unit {0}) Stop → (rest : Run) → Output → Type 0
Comes texts r x result rest y = output.Comes (meaning_of texts r) x result (meaning_of texts rest) y

-- a piece is printed, and whatever follows
abbrev pub Says : (texts : List (List ℕ)) → Piece → Output → Result (Unit {0}) Stop → Output → Type 0
Says texts piece x result y = (rest : Run) → Comes texts (behind (piece ∷ []) rest) x result rest y

-- ---- what is carried out
-- what tasks work on: the store, and where output goes
pub record State : Type 0 where
  pub store : Store
  pub output : Output

abbrev pub state_of : (taken : Option (List ℕ)) → Shared → (faults : ℕ) → State
state_of taken shared faults = record { store = memory_of shared.words; output = output_of taken shared.gathered faults }

-- iteration k comes to what follows it
abbrev pub RunsTurn : Code → Input → Held → Fork → (k : ℕ) → State → Result (Unit {0}) Stop → State → Type 0
RunsTurn code records serial fork k x result y =
    (d : Forking code records serial fork.from fork.by) (rest : Run) → Comes code.texts (turn (d.body k) x.store rest) x.output result rest y.output

-- so do all iterations of a fork, whatever follows on the store that they leave
abbrev pub RunsTurns : Code → Input → Held → Fork → State → Result (Unit {0}) Stop → State → Type 0
RunsTurns code records serial fork x result y =
    (d : Forking code records serial fork.from fork.by) (rest : Store → Run) → Comes code.texts (turns fork.count 0 d.body x.store rest) x.output result (rest y.store) y.output

-- a serial task comes to its end
abbrev pub RunsSerial : Code → Input → Held → State → Result (Unit {0}) Stop → State → Type 0
RunsSerial code records serial x result y = (d : Doing code records serial) → Comes code.texts (run d.process x.store) x.output result nothing y.output
