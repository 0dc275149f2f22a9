-- What a list of events tells of itself, and what its calls do.
use Rattle.std.specs.Prelude.{◌≡◌, ◌⊎◌, ℕ, ◌<◌, ◌≤◌, Bool, true, false, List, [], ◌∷◌, ◌++◌, replicate, Option, Some, None, Result, Ok, Err}
use Rattle.cdc_base.specs.Causes.{Rose}
use Rattle.cdc_sched.specs.declared.event.Event.{Event}
use Rattle.cdc_sched.specs.declared.events.EventRefusal.{EventRefusal}
use Rattle.cdc_sched.specs.declared.events.EventRefusal.TheVariants.{BadEvent, ReadFault}
use Rattle.cdc_sched.specs.Events.{processor}

-- what `next_event` answers
abbrev pub Answer : Type 0
Answer = Result (Option Event) EventRefusal

abbrev pub is_read_fault : Answer → Bool
is_read_fault (Ok event) = false
is_read_fault (Err ReadFault) = true
is_read_fault (Err (BadEvent line)) = false

-- the events that are still to be given, and the number of the bad line after them, where there is one
pub record Told : Type 0 where
  pub events : List Event
  pub bad : Option ℕ

abbrev pub told_of : List Event → Option ℕ → Option Told
told_of events bad = Some (record { events = events; bad = bad })

-- an event names a processor that is there
abbrev pub NamesProcessor : ℕ → Answer → Type 0
NamesProcessor procs (Ok (Some event)) = processor event < procs
NamesProcessor procs (Ok None) = Unit {0}
NamesProcessor procs (Err refusal) = Unit {0}

-- fewer are to come after an event, and no more after any other answer
abbrev pub ComesDown : ℕ → ℕ → Answer → Type 0
ComesDown before now (Ok (Some event)) = now < before
ComesDown before now (Ok None) = now ≤ before
ComesDown before now (Err refusal) = now ≤ before

-- the next of these events, none behind the last, or the bad line
abbrev pub GivesNext : List Event → Option ℕ → Option Told → Answer → Type 0
GivesNext (event ∷ events) bad now answer = (answer ≡ Ok (Some event)) × (now ≡ told_of events bad)
GivesNext [] None now answer = (answer ≡ Ok None) × (now ≡ told_of [] None)
GivesNext [] (Some line) now answer = (answer ≡ Err (BadEvent line)) × (now ≡ told_of [] (Some line))

-- an answer other than a read fault is the one that was told
abbrev pub Gives : Option Told → Option Told → Answer → Type 0
Gives None now answer = now ≡ None
Gives (Some told) now answer = (is_read_fault answer ≡ true) ⊎ GivesNext told.events told.bad now answer

-- a read fault has raised the count, or one was answered before; no other answer changes the count
pub record HasEventCause (failed : Bool) (before now : ℕ) (answer : Answer) : Type 0 where
  pub later : before ≤ now
  pub fault : is_read_fault answer ≡ true → (failed ≡ true) ⊎ Rose before now
  pub kept : is_read_fault answer ≡ false → now ≡ before

-- so many events were passed over, each the same as the one that was given last
abbrev pub PassedOver : Option Answer → Option Told → Option Told → ℕ → Type 0
PassedOver last None now n = now ≡ None
PassedOver last (Some told) now n = ((n ≡ 0) × (now ≡ Some told))
    ⊎ ((event : Event) × (events : List Event) × (last ≡ Some (Ok (Some event))) × (told.events ≡ replicate n event ++ events) × (now ≡ told_of events told.bad))
