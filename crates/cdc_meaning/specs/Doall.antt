-- DOALL loops.
use Rattle.std.specs.Prelude.{ℕ, ◌≤◌, ℤ, List, Result, Ok, Err}
use Rattle.cdc_prog.specs.Plain.{Control, Stmt, Skip, Seq, Assign, If, Arm, Do, Doall, Call, Print, Read}
use Rattle.cdc_prog.specs.Data.{Store, Binding}
use Rattle.cdc_prog.specs.Input.{Input}
use Rattle.cdc_prog.specs.Process as process
use Rattle.cdc_prog.specs.Process.{Process, Tick, Join, Fail}
use Rattle.cdc_prog.specs.Expressions.{Surroundings}
use Rattle.cdc_prog.specs.Statements.{Calls, Work, beginning, parallel, stmt}
use Rattle.cdc_prog.specs.declared.fault.Fault.{Fault}
use Rattle.cdc_prog.specs.Held.{Same, around}
use Rattle.cdc_meaning.specs.declared.doall.Fork.{Fork}
use Rattle.cdc_meaning.specs.declared.frame.Frame.{Frame}
use Rattle.cdc_prog.specs.declared.stop.Stop.{Stop}
use Rattle.cdc_meaning.specs.Frames.{binding}
use Rattle.cdc_meaning.specs.Carried.{State, Carried}

-- the iterations fork, each in its own beginning, and what follows when all have joined
abbrev pub forked : Binding → (number : ℕ) → Fork → (body : Work) → Work
forked b number f body c rest = process.Fork b.path number f.count f.from f.by (λ i. Tick (body (beginning f.from f.by i c) (λ d. Join))) (rest c)

-- a DOALL leads to its fork, whatever its body is, or a fault of its controls ends the program
abbrev pub Forks : Binding → Control → (slots : List ℤ) → Store → Result Fork Fault → Type 0
Forks b k slots s (Ok f) =
    (number : ℕ) (left : Input) (body : Work) (rest : Surroundings → Process) → Same (parallel b k number body (around slots left) rest) s (forked b number f body (around slots left) rest) s
Forks b k slots s (Err f) =
    (number : ℕ) (left : Input) (body : Work) (rest : Surroundings → Process) → Same (parallel b k number body (around slots left) rest) s (Fail f.kind f.line) s

-- the iterations of a body come to what follows, whatever the slots around them are
abbrev pub DoesFork : Frame → Fork → (body : Stmt) → (before : List ℤ → State) → Result (Unit {0}) Stop → (after : List ℤ → State) → Type 0
DoesFork f t body x result y =
    (slots : List ℤ) (calls : Calls) (number : ℕ) → Carried f.program.now.texts (forked (binding f) number t (stmt calls (binding f) body)) (x slots) result (y slots)

-- each DOALL of the statements has so many slots at most
abbrev pub SlotsWithin : (most : ℕ) → Stmt → Type 0
SlotsWithin most Skip = Unit {0}
SlotsWithin most (Seq a b) = SlotsWithin most a × SlotsWithin most b
SlotsWithin most (Assign line target value) = Unit {0}
SlotsWithin most (If arms) = SlotsWithin most arms
SlotsWithin most (Arm line cond body other) = SlotsWithin most body × SlotsWithin most other
SlotsWithin most (Do k first body again bump) = SlotsWithin most body
SlotsWithin most (Doall k number slots body) = slots ≤ most
SlotsWithin most (Call line number u actuals) = Unit {0}
SlotsWithin most (Print line items) = Unit {0}
SlotsWithin most (Read line targets) = Unit {0}
