-- DO loops.
use Rattle.std.specs.Prelude.{◌≡◌, ℕ, ℤ, List, Result, Ok, Err}
use Rattle.cdc_prog.specs.declared.expr.Ref.{Ref}
use Rattle.cdc_prog.specs.Plain.{Control, Stmt}
use Rattle.cdc_prog.specs.Data.{Store, Binding}
use Rattle.cdc_prog.specs.Input.{Input}
use Rattle.cdc_prog.specs.Process.{Process, Fail}
use Rattle.cdc_prog.specs.Expressions.{Surroundings, scalar_of}
use Rattle.cdc_prog.specs.Statements.{Calls, Work, raise, turns, counted, stmt}
use Rattle.cdc_prog.specs.declared.fault.Fault.{Fault}
use Rattle.cdc_meaning.specs.declared.frame.Frame.{Frame}
use Rattle.cdc_prog.specs.declared.stop.Stop.{Stop}
use Rattle.cdc_meaning.specs.declared.steps.Turns.{Turns}
use Rattle.cdc_meaning.specs.Frames.{binding}
use Rattle.cdc_meaning.specs.Cells.{reached, IsWithin}
use Rattle.cdc_meaning.specs.Carried.{State, Carried}
use Rattle.cdc_prog.specs.Held.{Same, around}

-- what raises the variable
abbrev pub raised_by : Binding → Turns → Work
raised_by b t = raise b t.line t.again t.bump t.by

-- the cell that the turns keep is that of their variable, at each load and each store, and is one of the words or slots
pub record HasCell (f : Frame) (slots : ℕ) (t : Turns) : Type 0 where
  pub again : (site : ℕ) → reached (binding f).path site t.cell ≡ scalar_of (binding f) site t.again.var
  pub bump : (site : ℕ) → reached (binding f).path site t.cell ≡ scalar_of (binding f) site t.bump.var
  pub within : IsWithin f.program.now.words slots t.cell

-- so many turns of a body, each followed by what raises the variable
abbrev pub turns_left : (count : ℕ) → Binding → Turns → (body : Work) → Work
turns_left count b t body = turns count body (raised_by b t)

-- a loop leads to its turns, whatever its body is, or a fault of its controls ends the program
abbrev pub Begins : Binding → Control → (first again bump : Ref) → (slots : List ℤ) → Store → Result Turns Fault → (after : List ℤ) → Store → Type 0
Begins b k first again bump slots s (Ok x) after t =
    (left : Input) (body : Work) (rest : Surroundings → Process) → Same (counted b k first again bump body (around slots left) rest) s (turns_left x.count b x body (around after left) rest) t
Begins b k first again bump slots s (Err f) after t =
    (left : Input) (body : Work) (rest : Surroundings → Process) → Same (counted b k first again bump body (around slots left) rest) s (Fail f.kind f.line) s

-- the turns of a loop come to what follows
abbrev pub DoesTurns : Frame → Turns → (body : Stmt) → State → Result (Unit {0}) Stop → State → Type 0
DoesTurns f t body x result y = (calls : Calls) → Carried f.program.now.texts (turns_left t.count (binding f) t (stmt calls (binding f) body)) x result y
