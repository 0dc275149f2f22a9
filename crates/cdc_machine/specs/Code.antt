-- The machine on code, and what a run of it owes the sequential program.
use Rattle.std.specs.Prelude.{◌≡◌, ℕ, zero, suc, ◌-◌, List, [], ◌++◌, get_or, Option, Some, None}
use Rattle.cdc_prog.specs.Input.{Input}
use Rattle.cdc_prog.specs.InOrder.{End}
use Rattle.cdc_prog.specs.Meaning.{Meaning, bytes_of}
use Rattle.cdc_code.specs.declared.code.Code.{Code}
use Rattle.cdc_code.specs.Frames.{Frame}
use Rattle.cdc_code.specs.Rows.{act, first_frame}
use Rattle.cdc_sched.specs.declared.event.Event.{Event}
use Rattle.cdc_sched.specs.declared.header.TailKind.{TailKind}
use Rattle.cdc_sched.specs.Tail.{tail_event}
use Rattle.cdc_machine.specs.Machine.{PhaseOf, Over, StateOf}
use Rattle.cdc_machine.specs.History as history
use Rattle.cdc_machine.specs.History.{HistoryOf, noted}

-- DOALLs are numbered from 1; the objects that the epoch before one writes, and those that its iterations write
abbrev pub entry_of : Code → (number : ℕ) → List ℕ
entry_of code number = get_or code.entries (number - 1) []

abbrev pub exit_of : Code → (number : ℕ) → List ℕ
exit_of code number = get_or code.exits (number - 1) []

abbrev pub State : Type 0
State = StateOf Frame

-- the machine on code and records after these events, the newest first, where each load gives the last stored value
abbrev pub run : Code → Input → List Event → HistoryOf Frame
run code records events = history.after (act code) (entry_of code) (exit_of code) (first_frame code records) events

-- how many of these events were enabled, other than evictions: the steps, takings and closings
abbrev pub spent : Code → Input → List Event → ℕ
spent code records events = history.spent (act code) (entry_of code) (exit_of code) (first_frame code records) events

-- the first n events of a tail, the newest first
abbrev pub tail_events : TailKind → (procs lines n : ℕ) → List Event
tail_events kind procs lines zero = []
tail_events kind procs lines (suc n) = noted (tail_event kind procs lines n) (tail_events kind procs lines n)

-- the first list begins the second
pub record IsFront (front whole : List ℕ) : Type 0 where
  pub rest : List ℕ
  pub split : front ++ rest ≡ whole

abbrev pub ended_with : PhaseOf Frame → Option End
ended_with (Over end) = Some end
ended_with phase = None

-- the output is a front of what is meant; where the machine has ended it is all of it, with the end that is meant
pub record IsMeant (texts : List (List ℕ)) (meant : Meaning) (m : State) : Type 0 where
  pub running : ended_with m.phase ≡ None → IsFront (bytes_of texts m.printed) meant.bytes
  pub over : (end : End) → ended_with m.phase ≡ Some end → (bytes_of texts m.printed ≡ meant.bytes) × (end ≡ meant.end)
