-- What the machine on sound code owes the sequential program, over every list of events.
use Rattle.std.specs.Prelude.{◌≡◌, ℕ, ◌+◌, ◌*◌, ◌<◌, ◌≤◌, List, ◌++◌, None}
use Rattle.std.specs.List.{All}
use Rattle.cdc_prog.specs.Data.{Store}
use Rattle.cdc_prog.specs.Input.{Input}
use Rattle.cdc_prog.specs.Alone.{Access}
use Rattle.cdc_prog.specs.Meaning.{meaning, full_cost}
use Rattle.cdc_code.specs.declared.code.Code.{Code}
use Rattle.cdc_code.specs.Frames.{Frame}
use Rattle.cdc_code.specs.Rows.{act}
use Rattle.cdc_code.specs.Alone.{Ran, IsAlone, Turned, Iterates}
use Rattle.cdc_code.specs.Sound.{IsSound}
use Rattle.cdc_sched.specs.declared.event.Event.{Event}
use Rattle.cdc_sched.specs.declared.header.TailKind.TheVariants.{RoundRobin}
use Rattle.cdc_sched.specs.Events.{processor}
use Rattle.cdc_machine.specs.Machine.{Ended, Doall, Over, PhaseOf, StateOf, least_fault}
use Rattle.cdc_machine.specs.History.{memory}
use Rattle.cdc_machine.specs.Code.{entry_of, exit_of, run, spent, tail_events, IsMeant}

-- the accesses that a task has made are the first of those that it makes alone on the store on which its epoch opened
pub record MadeFront (code : Code) (first : Frame) (opening : Store) (made : List Access) : Type 0 where
  pub ran : Ran
  pub alone : IsAlone code first opening ran
  pub rest : List Access
  pub front : ran.accesses ≡ made ++ rest

abbrev pub IsOver : {T : Type 0} → PhaseOf T → Type 0
IsOver (Over end) = Unit {0}
IsOver phase = ⊥

-- each task of the epoch has ended
abbrev pub IsComplete : StateOf Frame → Type 0
IsComplete m = (i : ℕ) → i < m.count → (p : ℕ) × (at : Frame) × (m.tasks i ≡ Ended p at)

pub record EveryInterleaving : Type 0 where
  -- the machine prints the sequential output: all of it, with the same end, where it has ended, else a front of it
  pub meaning : (code : Code) (sound : IsSound code) (records : Input) (events : List Event) → IsMeant code.texts (meaning sound.program records) (run code records events).machine
  -- each task has made a front of what it does alone
  pub alone : (code : Code) (sound : IsSound code) (records : Input) (events : List Event) → let h = run code records events in
      (IsOver h.machine.phase → ⊥) → (i : ℕ) → i < h.machine.count → MadeFront code (h.epoch.first i) (memory h.epoch.before) (h.epoch.made i)
  -- where the iterations of a DOALL have all ended and none has faulted, memory is what they leave in order
  pub in_order : (code : Code) (sound : IsSound code) (records : Input) (events : List Event) (number : ℕ) (next : Frame) → let h = run code records events in
      h.machine.phase ≡ Doall number next → IsComplete h.machine → least_fault (act code) (entry_of code) (exit_of code) h.machine ≡ None →
      (turned : Turned) × Iterates code h.epoch.first (memory h.epoch.before) h.machine.count turned × (turned.left ≡ memory h.calls)

-- each event is of a processor that is there
abbrev pub AreOf : (procs : ℕ) → List Event → Type 0
AreOf procs events = All (λ e. processor e < procs) events

pub record EveryRunEnds : Type 0 where
  -- steps, takings and closings are at most eight for each tick of the full cost, and eight more
  pub bounded : (code : Code) (sound : IsSound code) (records : Input) (events : List Event) → spent code records events ≤ 8 * full_cost sound.program records + 8
  -- where the machine has not ended after n turns of the processors, one of the next ones of all of them is enabled
  pub moves : (code : Code) (records : Input) (procs lines n : ℕ) (events : List Event) → 1 ≤ procs → AreOf procs events → let turns = λ (n : ℕ). tail_events RoundRobin procs lines n ++ events in
      (IsOver (run code records (turns n)).machine.phase → ⊥) → spent code records (turns n) < spent code records (turns (n + procs))
  -- so many turns end it, whatever was before
  pub ends : (code : Code) (sound : IsSound code) (records : Input) (procs lines n : ℕ) (events : List Event) → 1 ≤ procs → AreOf procs events → procs * (8 * full_cost sound.program records + 8) ≤ n →
      IsOver (run code records (tail_events RoundRobin procs lines n ++ events)).machine.phase
