-- What code that carries out statements owes to the sink: the bytes that are taken go on with those that the process prints.
use Rattle.std.specs.Prelude.{◌≡◌, ℕ, ℤ, Bool, true, false, List, ◌∷◌, Option, Result, Ok, Err}
use Rattle.cdc_prog.specs.Data.{Store}
use Rattle.cdc_prog.specs.Input.{Input}
use Rattle.cdc_prog.specs.Process.{Process, Fail}
use Rattle.cdc_prog.specs.Expressions.{Surroundings}
use Rattle.cdc_prog.specs.Plain.{Item, Stmt}
use Rattle.cdc_prog.specs.Statements.{Calls, Work, items, stmt}
use Rattle.cdc_prog.specs.InOrder.{run}
use Rattle.cdc_prog.specs.Lines.{opened}
use Rattle.cdc_prog.specs.Meaning.{Meaning}
use Rattle.cdc_prog.specs.Output as sink
use Rattle.cdc_prog.specs.Output.{meaning_of}
use Rattle.cdc_prog.specs.declared.stmt.Stmt as code
use Rattle.cdc_prog.specs.declared.stmt.Stmt.TheVariants.{Assign}
use Rattle.cdc_prog.specs.declared.stop.Stop.{Stop}
use Rattle.cdc_prog.specs.declared.stop.Stop.TheVariants.{Faulted, Sink}
use Rattle.cdc_prog.specs.Held.{store_of, around}
use Rattle.cdc_prog.specs.Unread.{left_of}
use Rattle.cdc_meaning.specs.declared.exec.Streams.{Streams}
use Rattle.cdc_meaning.specs.declared.print.Page.{Page}
use Rattle.cdc_meaning.specs.declared.frame.Frame.{Frame}
use Rattle.cdc_meaning.specs.Frames.{binding}

-- where output goes, and whether the last line that was printed is open
pub record Output : Type 0 where
  pub sent : sink.Output
  pub is_open : Bool

abbrev pub output_of : (taken : Option (List ℕ)) → Page → (faults : ℕ) → Output
output_of taken page faults = record { sent = sink.output_of taken page.gathered faults; is_open = page.is_open }

-- what statements work on: the store, the surroundings, and where output goes
pub record State : Type 0 where
  pub store : Store
  pub around : Surroundings
  pub output : Output

abbrev pub state : (words slots : List ℤ) → Input → Output → State
state words slots left output = record { store = store_of words; around = around slots left; output = output }

-- the streams are what is left of the input, and what was printed
abbrev pub state_of : (words slots : List ℤ) → Streams → (taken : Option (List ℕ)) → (faults : ℕ) → State
state_of words slots streams taken faults = state words slots (left_of streams.unread) (output_of taken streams.page faults)

-- the same, whatever the slots are
abbrev pub states_of : (words : List ℤ) → Streams → (taken : Option (List ℕ)) → (faults : ℕ) → (slots : List ℤ) → State
states_of words streams taken faults slots = state_of words slots streams taken faults

-- what a process prints on a store, and its end
abbrev pub meant : (texts : List (List ℕ)) → Process → Store → Meaning
meant texts p s = meaning_of texts (run p s)

-- one process in its state goes on with what the other still has to print in its own, beside what was printed between, and ends as it does and with such a line
pub record Follows (texts : List (List ℕ)) (p : Process) (x : State) (q : Process) (y : State) : Type 0 where
  pub goes_on : sink.Follows (meant texts p x.store) x.output.sent (meant texts q y.store) y.output.sent
  pub line : opened x.output.is_open (meant texts p x.store).bytes ≡ opened y.output.is_open (meant texts q y.store).bytes

-- what a process comes to, a fault, or a failure of the sink
abbrev pub Comes : (texts : List (List ℕ)) → Process → State → Result (Unit {0}) Stop → Process → State → Type 0
Comes texts p x (Ok u) q y = Follows texts p x q y
Comes texts p x (Err (Faulted f)) q y = Follows texts p x (Fail f.kind f.line) y
Comes texts p x (Err Sink) q y = sink.IsCut (meant texts p x.store) x.output.sent y.output.sent

-- whatever follows
abbrev pub Carried : (texts : List (List ℕ)) → Work → State → Result (Unit {0}) Stop → State → Type 0
Carried texts runs x result y = (rest : Surroundings → Process) → Comes texts (runs x.around rest) x result (rest y.around) y

-- so do statements, in a frame
abbrev pub DoesStmt : Frame → Stmt → State → Result (Unit {0}) Stop → State → Type 0
DoesStmt f s x result y = (calls : Calls) → Carried f.program.now.texts (stmt calls (binding f) s) x result y

-- a statement that is no assignment
abbrev pub IsOther : code.Stmt → Type 0
IsOther (Assign line target value) = ⊥
IsOther _ = Unit {0}

-- what prints alone comes to what follows, whatever the store and the surroundings are
abbrev pub Says : (texts : List (List ℕ)) → (Process → Process) → Output → Result (Unit {0}) Stop → Output → Type 0
Says texts p x result y =
    (words slots : List ℤ) (left : Input) (rest : Process) → Comes texts (p rest) (state words slots left x) result rest (state words slots left y)

-- an item of a PRINT comes to the items after it
abbrev pub ShowsItem : Frame → (words slots : List ℤ) → (line : ℕ) → (first : Bool) → Item → Output → Result (Unit {0}) Stop → Output → Type 0
ShowsItem f words slots line first i x result y =
    (left : Input) (more : List Item) (rest : Process) → let c = around slots left in Comes f.program.now.texts (items (binding f) line first (i ∷ more) c rest) (state words slots left x)
    result (items (binding f) line false more c rest) (state words slots left y)

-- the items of a PRINT and the end of their line come to what follows
abbrev pub ShowsItems : Frame → (words slots : List ℤ) → (line : ℕ) → List Item → Output → Result (Unit {0}) Stop → Output → Type 0
ShowsItems f words slots line shown x result y =
    (left : Input) (rest : Process) → Comes f.program.now.texts (items (binding f) line true shown (around slots left) rest) (state words slots left x) result rest (state words slots left y)
