-- A run that prints as it goes.
use Rattle.std.specs.Prelude.{◌≡◌, ◌≢◌, ◌⊎◌, ℕ, true, ◌+◌, ◌^◌, ◌<◌, ◌≤◌, ℤ, List, [], ◌∷◌, ◌++◌, length, replicate, Option, Some, None, Result, Ok, Err, unwrap_or}
use Rattle.std.specs.Option.{option_map}
use Rattle.cdc_base.specs.Causes.{Rose}
use Rattle.cdc_base.specs.Gathered.{HandsOn}
use Rattle.cdc_base.specs.Outside.{grown, GrewInPart}
use Rattle.cdc_text.specs.Pieces.{GrewByFront}
use Rattle.cdc_prog.specs.Input.{Input}
use Rattle.cdc_prog.specs.Lines.{is_open}
use Rattle.cdc_code.specs.declared.code.Code.{Code}
use Rattle.cdc_code.specs.Rows.{act}
use Rattle.cdc_fabric.specs.declared.fabric.Fabric.{Ghosts}
use Rattle.cdc_fabric.specs.Made.{IsWrittenList, IsInOrder}
use Rattle.cdc_sched.specs.declared.event.Event.{Event}
use Rattle.cdc_sched.specs.Told.{Told, Answer, told_of}
use Rattle.cdc_sched.specs.declared.events.Events.{Ghosts as EventsOf}
use Rattle.cdc_sched.specs.declared.events.EventRefusal.TheVariants as refusal
use Rattle.cdc_machine.specs.declared.effect.Effect.{Effect}
use Rattle.cdc_machine.specs.Machine.{deed, call, told}
use Rattle.cdc_machine.specs.Laws.{IsOver}
use Rattle.cdc_machine.specs.Code.{entry_of, exit_of, run, ended_with}
use Rattle.cdc_epoch.specs.declared.engine.Engine.{Engine}
use Rattle.cdc_replay.specs.declared.progress.Progress.{Progress}
use Rattle.cdc_replay.specs.declared.run.Played.{Played}
use Rattle.cdc_epoch.specs.Side.{Made}
use Rattle.cdc_epoch.specs.Ties.{CanGo, StandsFor, is_there}
use Rattle.cdc_replay.specs.Effects.{idles}
use Rattle.cdc_replay.specs.Refused.{end_of}
use Rattle.cdc_epoch.specs.declared.outcome.Outcome.{Outcome}
use Rattle.cdc_epoch.specs.declared.outcome.Outcome.TheVariants.{Stopped, BadEvent, ReadFault, SinkFault}
use Rattle.cdc_replay.specs.Applied.{with_listed, with_tail, behind_listed, has_ended, applied_events, output_after}

-- ---- what the events ask of an engine
-- each event can be applied: each task that is held goes on or ends, and the calls and lists of the code are such as the memory side takes
pub record CanReplay {F : Type 0} (side : Ghosts F) (engine : Engine F side) : Type 0 where
  pub tasks : (events : List Event) → let m = (run engine.code engine.records.records events).machine in (IsOver m.phase → ⊥) → (i : ℕ) → i < m.count → CanGo engine.code (m.tasks i)
  pub entries : (number : ℕ) → IsWrittenList (side.made engine.side) (entry_of engine.code number)
  pub exits : (number : ℕ) → IsWrittenList (side.made engine.side) (exit_of engine.code number)
  pub order : (events : List Event) → IsInOrder (side.plain engine.side) (side.made engine.side) (run engine.code engine.records.records events).calls

-- ---- what they do
-- these events led the memory side from its start to where it is now, by the calls that they make, and so many of them were idle
abbrev pub Led : {F : Type 0} (side : Ghosts F) → Code → Input → List Event → (start now : F) → (idle : ℕ) → Type 0
Led side code records [] start now idle = (now ≡ start) × (idle ≡ 0)
Led {F} side code records (e ∷ events) start now idle =
    let m = (run code records events).machine in
    let d = deed e m in
    (mid : F) × (before : ℕ) × (v : ℤ) × Led side code records events start mid before
    × Made side (call (act code) (entry_of code) (exit_of code) d m) mid v now
    × (idle ≡ before + idles (told (act code) (entry_of code) (exit_of code) d m (is_there side mid d)))

-- where a run begins: its code and records, the memory side, the bound on events, and what the sink took
pub record Opening (F : Type 0) : Type 0 where
  pub code : Code
  pub records : Input
  pub side : F
  pub bound : ℕ
  pub taken : Option (List ℕ)

-- the engine has applied these events since
pub record HasApplied {F : Type 0} (side : Ghosts F) (o : Opening F) (applied : List Event) (engine : Engine F side) (progress : Progress) : Type 0 where
  pub code_is : engine.code ≡ o.code
  pub records_are : engine.records.records ≡ o.records
  pub stands : StandsFor side engine applied
  pub led : Led side o.code o.records applied o.side engine.side progress.idle
  pub left : progress.left + length applied ≡ o.bound
  pub idle : progress.idle ≤ length applied
  pub bounded : o.bound < 2 ^ 64

-- and all that they print is gathered
pub record Playing {F : Type 0} (side : Ghosts F) (o : Opening F) (applied : List Event) (engine : Engine F side) (progress : Progress) (waits : List ℕ) (now : Option (List ℕ)) : Type 0 where
  pub has : HasApplied side o applied engine progress
  pub hands : HandsOn o.taken now (output_after o.code o.records applied) waits
  pub line : progress.is_open ≡ is_open (output_after o.code o.records applied)
  pub ended : progress.end ≡ option_map end_of (ended_with (run o.code o.records applied).machine.phase)

-- or the sink failed when it had taken a front of that
pub record Broken {F : Type 0} (side : Ghosts F) (o : Opening F) (applied : List Event) (engine : Engine F side) (progress : Progress) (now : Option (List ℕ)) : Type 0 where
  pub has : HasApplied side o applied engine progress
  pub cut : GrewByFront o.taken now (output_after o.code o.records applied)

-- what an event does next
abbrev pub effect_of : {F : Type 0} (side : Ghosts F) → Opening F → List Event → F → Event → Effect
effect_of side o applied f e =
    let m = (run o.code o.records applied).machine in
    let d = deed e m in
    told (act o.code) (entry_of o.code) (exit_of o.code) d m (is_there side f d)

-- the events that a run applies in all, which has applied some and has listed ones and a tail still to come
abbrev pub whole : {F : Type 0} → Opening F → List Event → (bad : Option ℕ) → (tail : ℕ → Option Event) → (left : ℕ) → List Event → List Event
whole o listed bad tail left applied = let ended = has_ended o.code o.records in with_listed ended listed (behind_listed ended bad tail) left applied

-- they are the same further on
abbrev pub LeadsTo : {F : Type 0} → Opening F → List Event → (bad : Option ℕ) → (left : ℕ) → List Event → List Event → (later : ℕ) → List Event → Type 0
LeadsTo o listed bad left applied rest later more = (tail : ℕ → Option Event) → whole o listed bad tail left applied ≡ whole o rest bad tail later more

-- what was told of listed events, after one of them was given, and what is told later
abbrev pub TakesOn : {F : Type 0} → Opening F → Event → (told now : Option Told) → (left : ℕ) → List Event → (later : ℕ) → List Event → Type 0
TakesOn o event None now left applied later more = now ≡ None
TakesOn o event (Some t) now left applied later more = (rest : List Event) × (now ≡ told_of rest t.bad) × LeadsTo o (event ∷ t.events) t.bad left applied rest later more

-- so does what was told at first
abbrev pub GoesOnWith : {F : Type 0} → Opening F → (told now : Option Told) → (left : ℕ) → List Event → (later : ℕ) → List Event → Type 0
GoesOnWith o None now left applied later more = now ≡ None
GoesOnWith o (Some t) now left applied later more = (rest : List Event) × (now ≡ told_of rest t.bad) × LeadsTo o t.events t.bad left applied rest later more

-- a run that goes on so has applied these and more of them in all
abbrev pub Begins : {F : Type 0} → Opening F → List Event → (bad : Option ℕ) → (left : ℕ) → List Event → List Event → Type 0
Begins o listed bad left applied events = (tail : ℕ → Option Event) → (more : List Event) × (whole o listed bad tail left applied ≡ more ++ events)

abbrev pub BeginsAs : {F : Type 0} → Opening F → Option Told → (left : ℕ) → List Event → List Event → Type 0
BeginsAs o None left applied events = Unit {0}
BeginsAs o (Some t) left applied events = Begins o t.events t.bad left applied events

-- so many of the same events were passed over
abbrev pub Skipped : Event → (told now : Option Told) → ℕ → Type 0
Skipped event None now n = now ≡ None
Skipped event (Some t) now n = (rest : List Event) × (t.events ≡ replicate n event ++ rest) × (now ≡ told_of rest t.bad)

-- ---- the listed events
-- all were read, and the tail goes on
abbrev pub ReadAll : {F : Type 0} → Opening F → Option Told → (left : ℕ) → List Event → (later : ℕ) → List Event → Type 0
ReadAll o None left applied later events = Unit {0}
ReadAll o (Some t) left applied later events = (t.bad ≡ None) × ((tail : ℕ → Option Event) → whole o t.events t.bad tail left applied ≡ with_tail (has_ended o.code o.records) tail later 0 events)

-- up to a bad line
abbrev pub ReadTo : {F : Type 0} → Opening F → Option Told → (bad : ℕ) → (left : ℕ) → List Event → List Event → Type 0
ReadTo o None bad left applied events = Unit {0}
ReadTo o (Some t) bad left applied events = (t.bad ≡ Some bad) × ((tail : ℕ → Option Event) → whole o t.events t.bad tail left applied ≡ events)

-- where the reading of the listed events ended
abbrev pub ListedEnd : {F : Type 0} (side : Ghosts F) → Opening F → Option Told → (left : ℕ) → List Event → Result (Unit {0}) Outcome → Engine F side → Progress → (waits : List ℕ) → (now : Option (List ℕ)) → Type 0
ListedEnd side o told left applied (Ok u) engine progress waits now = (events : List Event) × Playing side o events engine progress waits now × ReadAll o told left applied progress.left events
ListedEnd side o told left applied (Err (BadEvent line)) engine progress waits now = (events : List Event) × Playing side o events engine progress waits now × ReadTo o told line left applied events
ListedEnd side o told left applied (Err ReadFault) engine progress waits now = (events : List Event) × Playing side o events engine progress waits now × BeginsAs o told left applied events
ListedEnd side o told left applied (Err SinkFault) engine progress waits now = (events : List Event) × Broken side o events engine progress now × BeginsAs o told left applied events
ListedEnd side o told left applied (Err end) engine progress waits now = ⊥

-- ---- what the calls on events leave
-- the processors, the faults and the last answer stay
pub record SameEvents {E : Type 0} (events : EventsOf E) (old new : E) : Type 0 where
  pub procs : events.procs new ≡ events.procs old
  pub failed : events.failed new ≡ events.failed old
  pub faults : events.faults new ≡ events.faults old
  pub last : events.last new ≡ events.last old

-- the answer with which a reading ended
abbrev pub LastIs : Outcome → Option Answer → Type 0
LastIs (BadEvent line) last = last ≡ Some (Err (refusal.BadEvent line))
LastIs ReadFault last = last ≡ Some (Err refusal.ReadFault)
LastIs SinkFault last = Unit {0}
LastIs end last = last ≡ Some (Ok None)

-- a fault of reading comes only where the count rose, or one was answered before
pub record EndsReading {E : Type 0} (events : EventsOf E) (old new : E) (end : Outcome) : Type 0 where
  pub procs : events.procs new ≡ events.procs old
  pub last : LastIs end (events.last new)
  pub later : events.faults old ≤ events.faults new
  pub fault : end ≡ ReadFault → (events.failed old ≡ true) ⊎ Rose (events.faults old) (events.faults new)
  pub kept : end ≢ ReadFault → events.faults new ≡ events.faults old

-- the sink's count rose where the run ended with it, and stayed else
pub record HasSinkCause (before now : ℕ) (end : Outcome) : Type 0 where
  pub later : before ≤ now
  pub failed : end ≡ SinkFault → Rose before now
  pub kept : end ≢ SinkFault → now ≡ before

-- ---- a whole run
-- what ended it before the machine did
abbrev pub end_by : Result (Unit {0}) Outcome → Option Outcome → Outcome
end_by (Ok u) end = unwrap_or end Stopped
end_by (Err end) machine = end

-- how the machine ended after these events, or that it was stopped
abbrev pub machine_end : {F : Type 0} → Opening F → List Event → Outcome
machine_end o events = unwrap_or (option_map end_of (ended_with (run o.code o.records events).machine.phase)) Stopped

-- these events are all that the schedule has the run apply
abbrev pub AreApplied : {F : Type 0} → Opening F → Option Told → (bad : Option ℕ) → (tail : ℕ → Option Event) → List Event → Type 0
AreApplied o None bad tail events = Unit {0}
AreApplied o (Some t) bad tail events = (t.bad ≡ bad) × (applied_events o.code o.records t tail o.bound ≡ events)

-- or the first of them
abbrev pub AreFirst : {F : Type 0} → Opening F → Option Told → (tail : ℕ → Option Event) → List Event → Type 0
AreFirst o None tail events = Unit {0}
AreFirst o (Some t) tail events = (more : List Event) × (applied_events o.code o.records t tail o.bound ≡ more ++ events)

abbrev pub PlayedOut : {F : Type 0} (side : Ghosts F) → Opening F → Option Told → (tail : ℕ → Option Event) → Result (Unit {0}) Outcome → Engine F side → Progress → (waits : List ℕ) → (now : Option (List ℕ)) → Type 0
PlayedOut side o told tail (Ok u) engine progress waits now = (events : List Event) × Playing side o events engine progress waits now × AreApplied o told None tail events
PlayedOut side o told tail (Err (BadEvent line)) engine progress waits now = (events : List Event) × Playing side o events engine progress waits now × AreApplied o told (Some line) tail events
PlayedOut side o told tail (Err ReadFault) engine progress waits now = (events : List Event) × Playing side o events engine progress waits now × AreFirst o told tail events
PlayedOut side o told tail (Err SinkFault) engine progress waits now = (events : List Event) × Broken side o events engine progress now × AreFirst o told tail events
PlayedOut side o told tail (Err end) engine progress waits now = ⊥

-- what waits was handed out, or the sink failed in it; where reading or writing had failed nothing is handed out
abbrev pub HandsOut : Outcome → (answer : Outcome) → (taken now : Option (List ℕ)) → (waits : List ℕ) → (before after : ℕ) → Type 0
HandsOut ReadFault answer taken now waits before after = (answer ≡ ReadFault) × (now ≡ taken) × (after ≡ before)
HandsOut SinkFault answer taken now waits before after = (answer ≡ SinkFault) × (now ≡ taken) × (after ≡ before)
HandsOut end answer taken now waits before after =
    ((answer ≡ end) × (now ≡ grown taken waits) × (after ≡ before)) ⊎ ((answer ≡ SinkFault) × GrewInPart taken now waits × Rose before after × (before ≤ after))

-- all that the events print was written, and whether its last line is open is told
abbrev pub WroteAll : {F : Type 0} → Opening F → List Event → Played → (now : Option (List ℕ)) → Type 0
WroteAll o events played now = (now ≡ grown o.taken (output_after o.code o.records events)) × (played.is_open ≡ is_open (output_after o.code o.records events))

-- or a front of it
abbrev pub WroteFront : {F : Type 0} → Opening F → List Event → (now : Option (List ℕ)) → Type 0
WroteFront o events now = GrewByFront o.taken now (output_after o.code o.records events)

abbrev pub EndsAs : {F : Type 0} → Opening F → Option Told → (tail : ℕ → Option Event) → List Event → Outcome → Played → (now : Option (List ℕ)) → Type 0
EndsAs o told tail events (BadEvent line) played now = WroteAll o events played now × AreApplied o told (Some line) tail events
EndsAs o told tail events ReadFault played now = WroteFront o events now × AreFirst o told tail events
EndsAs o told tail events SinkFault played now = WroteFront o events now × AreFirst o told tail events
EndsAs o told tail events end played now = WroteAll o events played now × AreApplied o told None tail events × (end ≡ machine_end o events)

abbrev pub opening_of : {F : Type 0} {side : Ghosts F} → Engine F side → (bound : ℕ) → Option (List ℕ) → Opening F
opening_of engine bound taken = record { code = engine.code; records = engine.records.records; side = engine.side; bound = bound; taken = taken }

-- a run applied these events and no more than its bound, and the engine stands where they lead
pub record Replays {F : Type 0} (side : Ghosts F) (o : Opening F) (told : Option Told) (tail : ℕ → Option Event) (played : Played) (engine : Engine F side) (now : Option (List ℕ)) : Type 0 where
  pub events : List Event
  pub code_is : engine.code ≡ o.code
  pub records_are : engine.records.records ≡ o.records
  pub stands : StandsFor side engine events
  pub led : Led side o.code o.records events o.side engine.side played.tally.idle
  pub counted : played.tally.events ≡ length events
  pub within : length events ≤ o.bound
  pub ends : EndsAs o told tail events played.end played now
