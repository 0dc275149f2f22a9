-- What an engine stands for.
use Rattle.std.specs.Prelude.{◌≡◌, ℕ, ◌<◌, ℤ, pos, ◌+ℤ◌, ◌*ℤ◌, List, Bool, true, false, length, get_or, Option, Some, None}
use Rattle.std.specs.List.{slice_get}
use Rattle.cdc_prog.specs.declared.fault.Fault.{Fault}
use Rattle.cdc_prog.specs.Input.{Input}
use Rattle.cdc_code.specs.declared.code.Code.{Code}
use Rattle.cdc_code.specs.Frames.{Frame}
use Rattle.cdc_code.specs.Rows.{act}
use Rattle.cdc_fabric.specs.Calls.{Call}
use Rattle.cdc_fabric.specs.declared.counts.Counts.{Counts}
use Rattle.cdc_fabric.specs.declared.fabric.Fabric.{Ghosts}
use Rattle.cdc_fabric.specs.Made.{IsWrittenList}
use Rattle.cdc_sched.specs.declared.event.Event.{Event}
use Rattle.cdc_sched.specs.declared.event.Event.TheVariants as event
use Rattle.cdc_task.specs.declared.end.StepEnd.TheVariants.{Forked as HasForked}
use Rattle.cdc_task.specs.Held.{Held, StandsIn, resumed, begun}
use Rattle.cdc_prog.specs.Trips.{HasIndexes}
use Rattle.cdc_task.specs.Steps.{GoesOn, Quiet}
use Rattle.cdc_machine.specs.declared.effect.Effect.{Effect}
use Rattle.cdc_machine.specs.declared.effect.Effect.TheVariants.{Stepped}
use Rattle.cdc_machine.specs.Machine.{TaskOf, Waiting, Running, Ended, PhaseOf, Serial, Doall, Over, DeedOf, Drops, task_fault, call_by, call, acted, done, act_effect, told}
use Rattle.cdc_machine.specs.Laws.{IsOver}
use Rattle.cdc_machine.specs.Code.{State, entry_of, exit_of, run}
use Rattle.cdc_epoch.specs.declared.engine.Engine.{Engine}
use Rattle.cdc_epoch.specs.declared.engine.Epoch.{Epoch}
use Rattle.cdc_epoch.specs.declared.engine.Epoch.TheVariants as epoch
use Rattle.cdc_epoch.specs.declared.engine.Fork.{Fork}
use Rattle.cdc_epoch.specs.declared.engine.Faulting.{Faulting}
use Rattle.cdc_epoch.specs.declared.roster.Roster.{Roster}
use Rattle.cdc_epoch.specs.Side.{Stays, Made}

-- the processor that an event names
abbrev pub processor : Event → ℕ
processor (event.Take p i) = p
processor (event.Step p) = p
processor (event.Next p) = p
processor (event.Evict p line) = p

-- ---- the tasks by their numbers
abbrev pub was_taken : {T : Type 0} → TaskOf T → Bool
was_taken (Waiting at) = false
was_taken t = true

abbrev pub holder : {T : Type 0} → TaskOf T → Option ℕ
holder (Running p at) = Some p
holder t = None

-- the roster says which tasks were taken and which each processor holds
pub record Keeps (roster : Roster) (m : State) : Type 0 where
  pub count : roster.count ≡ m.count
  pub taken : (i : ℕ) → i < m.count → get_or roster.taken i true ≡ was_taken (m.tasks i)
  pub holds : (p i : ℕ) → get_or roster.held p None ≡ Some i → (i < m.count) × (holder (m.tasks i) ≡ Some p)
  pub is_held : (p i : ℕ) → i < m.count → holder (m.tasks i) ≡ Some p → (p < length roster.held) × (get_or roster.held p None ≡ Some i)

module _ (code : Code) (records : Input) (serial : Held) (lanes : List Held) where
  -- the index of an iteration
  abbrev pub index_of : Fork → ℕ → ℤ
  index_of fork i = fork.from +ℤ (pos i *ℤ fork.by)

  -- where the phase of the machine is held
  abbrev pub PhaseTied : Epoch → PhaseOf Frame → Type 0
  PhaseTied epoch.Serial Serial = Unit {0}
  PhaseTied (epoch.Forked fork) Serial = Unit {0}
  PhaseTied (epoch.Doall fork) (Doall number next) = (number ≡ fork.number) × StandsIn records (resumed serial) next × HasIndexes fork.count fork.from fork.by
  PhaseTied epoch.Over (Over end) = Unit {0}
  PhaseTied e phase = ⊥

  -- where a task stands
  abbrev pub TaskTied : Epoch → (i : ℕ) → TaskOf Frame → Type 0
  TaskTied epoch.Serial i (Waiting f) = StandsIn records serial f
  TaskTied epoch.Serial i (Running p f) = StandsIn records serial f
  TaskTied epoch.Serial i (Ended p f) = ⊥
  TaskTied (epoch.Forked fork) i (Ended p f) = Quiet records (act code f) (HasForked fork.number fork.count fork.from fork.by) serial
  TaskTied (epoch.Forked fork) i t = ⊥
  TaskTied (epoch.Doall fork) i (Waiting f) = begun f.kept.path records serial (index_of fork i) ≡ f
  TaskTied (epoch.Doall fork) i (Running p f) = (lane : Held) × (slice_get lanes p ≡ Some lane) × StandsIn records lane f
  TaskTied (epoch.Doall fork) i (Ended p f) = Unit {0}
  TaskTied epoch.Over i t = Unit {0}

  abbrev pub fault_at : State → ℕ → Option Fault
  fault_at m i = task_fault (act code) (entry_of code) (exit_of code) (m.tasks i)

  -- the fault of the least task that has faulted
  abbrev pub FaultTied : Option Faulting → State → Type 0
  FaultTied None m = (i : ℕ) → i < m.count → fault_at m i ≡ None
  FaultTied (Some least) m = (least.task < m.count) × (fault_at m least.task ≡ Some least.fault) × ((i : ℕ) → i < least.task → fault_at m i ≡ None)

abbrev pub CountTied : Epoch → (count : ℕ) → Type 0
CountTied (epoch.Doall fork) count = count ≡ fork.count
CountTied epoch.Over count = Unit {0}
CountTied e count = count ≡ 1

abbrev pub is_over : Epoch → Type 0
is_over epoch.Over = Unit {0}
is_over e = ⊥

-- a machine that has not ended
pub record Live {F : Type 0} (side : Ghosts F) (engine : Engine F side) (m : State) : Type 0 where
  pub count : CountTied engine.epoch m.count
  pub roster : Keeps engine.roster m
  pub tasks : (i : ℕ) → i < m.count → TaskTied engine.code engine.records.records engine.serial engine.lanes.items engine.epoch i (m.tasks i)
  pub fault : FaultTied engine.code engine.records.records engine.serial engine.lanes.items engine.fault m

-- the engine stands where the machine stands
pub record Ties {F : Type 0} (side : Ghosts F) (engine : Engine F side) (m : State) : Type 0 where
  pub phase : PhaseTied engine.code engine.records.records engine.serial engine.lanes.items engine.epoch m.phase
  pub live : (is_over engine.epoch → ⊥) → Live side engine m
  pub steps : (p : ℕ) → p < side.procs engine.side → get_or engine.steps p 0 ≡ m.steps p
  pub boundaries : engine.boundaries ≡ m.boundaries

abbrev pub CanGo : Code → TaskOf Frame → Type 0
CanGo code (Running p at) = GoesOn code at
CanGo code t = Unit {0}

-- an event can be applied: until the machine has ended each task that is held goes on or ends, and the lists of the code are lists for the memory side
pub record IsReady {F : Type 0} (side : Ghosts F) (engine : Engine F side) (m : State) : Type 0 where
  pub tasks : (IsOver m.phase → ⊥) → (i : ℕ) → i < m.count → CanGo engine.code (m.tasks i)
  pub entries : (number : ℕ) → IsWrittenList (side.made engine.side) (entry_of engine.code number)
  pub exits : (number : ℕ) → IsWrittenList (side.made engine.side) (exit_of engine.code number)

-- the engine stands where the machine stands, which has not ended, and an event can be applied
pub record CanApply {F : Type 0} (side : Ghosts F) (engine : Engine F side) (m : State) : Type 0 where
  pub ties : Ties side engine m
  pub ready : IsReady side engine m
  pub live : is_over engine.epoch → ⊥

-- a processor holds no task, and this task, which stands there, was not taken
pub record IsFree {F : Type 0} (side : Ghosts F) (engine : Engine F side) (m : State) (p i : ℕ) (at : Frame) : Type 0 where
  pub hand : get_or engine.roster.held p None ≡ None
  pub there : i < m.count
  pub waits : m.tasks i ≡ Waiting at

-- a processor holds this task, which stands there
pub record IsHeld (m : State) (p i : ℕ) (at : Frame) : Type 0 where
  pub there : i < m.count
  pub runs : m.tasks i ≡ Running p at

abbrev pub AllEnded : State → Type 0
AllEnded m = (i : ℕ) → i < m.count → (p : ℕ) × (at : Frame) × (m.tasks i ≡ Ended p at)

-- whether a line that is to be dropped is there
abbrev pub is_there : {F : Type 0} → Ghosts F → F → DeedOf Frame → Bool
is_there side f (Drops p line) = side.present f p line
is_there side f d = false

-- the engine came to a state by one call on its memory side at most, which gave v where it was a load, and tells this
pub record Comes {F : Type 0} (side : Ghosts F) (c : Option Call) (to : (v : ℤ) → State) (tells : Effect) (old : Engine F side) (answer : Effect) (new : Engine F side) : Type 0 where
  pub code : new.code ≡ old.code
  pub records : new.records ≡ old.records
  pub v : ℤ
  pub made : Made side c old.side v new.side
  pub stays : Stays side old.side new.side
  pub stands : Ties side new (to v)
  pub effect : answer ≡ tells

-- what is told of an instruction: a step, or this
abbrev pub told_by : (stepped : Bool) → Effect → Effect
told_by true e = Stepped
told_by false e = e

-- the engine did what is enabled
abbrev pub DoesDeed : {F : Type 0} (side : Ghosts F) → DeedOf Frame → State → (old : Engine F side) → Effect → (new : Engine F side) → Type 0
DoesDeed side d m old effect new =
    let entry = entry_of old.code in
    let exit = exit_of old.code in
    Comes side (call (act old.code) entry exit d m) (λ v. done (act old.code) entry exit v d m) (told (act old.code) entry exit d m (is_there side old.side d)) old effect new

-- the engine carried out an instruction, which is not counted yet
abbrev pub DoesAct : {F : Type 0} (side : Ghosts F) → (p i : ℕ) → Frame → State → (old : Engine F side) → Effect → (new : Engine F side) → Type 0
DoesAct side p i at m old effect new =
    let entry = entry_of old.code in
    let exit = exit_of old.code in
    let a = act old.code at in
    Comes side (call_by (act old.code) entry exit p a) (λ v. record (acted (act old.code) entry exit v p i at a m) { steps = m.steps }) (act_effect (act old.code) entry exit m.phase a) old effect new

-- ---- events
-- the engine stands where its code and records lead after these events, the newest first, where each load gives the last stored value, and its memory side stands for the calls that they make
pub record StandsFor {F : Type 0} (side : Ghosts F) (engine : Engine F side) (events : List Event) : Type 0 where
  pub ties : Ties side engine (run engine.code engine.records.records events).machine
  pub calls : side.stands engine.side (run engine.code engine.records.records events).calls

-- what was counted of a processor, steps and accesses
abbrev pub counts_of : {F : Type 0} (side : Ghosts F) → Engine F side → (p : ℕ) → Counts
counts_of side engine p = record (side.counts engine.side p) { steps = get_or engine.steps p 0 }
