-- The reading of listed events.
use Rattle.std.proofs.Common.{◌≡◌, ◌⊎◌, ℕ, ◌≤◌, List, [], ◌∷◌, refl, sym, ap, ◌∙◌, subst, arith, Bool, true, false, inl, inr}
use Rattle.std.specs.Prelude.{Option, Some, None, Ok, Err}
use Rattle.cdc_base.specs.Causes.{Rose}
use Rattle.cdc_fabric.specs.declared.fabric.Fabric.{Ghosts}
use Rattle.cdc_sched.specs.declared.event.Event.{Event}
use Rattle.cdc_sched.specs.declared.events.Events.{Ghosts as EventsOf}
use Rattle.cdc_sched.specs.declared.events.EventRefusal.{EventRefusal}
use Rattle.cdc_sched.specs.declared.events.EventRefusal.TheVariants as refusal
use Rattle.cdc_sched.specs.Told.{Told, Answer, told_of, Gives, HasEventCause}
use Rattle.cdc_epoch.specs.declared.engine.Engine.{Engine}
use Rattle.cdc_replay.specs.declared.progress.Progress.{Progress}
use Rattle.cdc_epoch.specs.declared.outcome.Outcome.TheVariants.{Stopped, BadEvent, ReadFault, SinkFault}
use Rattle.cdc_replay.specs.Refused.{refused_end}
use Rattle.cdc_replay.specs.Applied.{has_ended}
use Rattle.cdc_replay.specs.Replays.{Opening, Playing, TakesOn, GoesOnWith, Begins, BeginsAs, ListedEnd, ReadAll, ReadTo, EndsReading, whole}
use Rattle.cdc_replay.proofs.Leads.{grows}

-- ---- what is told of the next event
abbrev event_in : Event → Answer → Event
event_in e (Ok (Some event)) = event
event_in e answer = e

abbrev is_event : Answer → Bool
is_event (Ok (Some event)) = true
is_event answer = false

abbrev is_none : Answer → Bool
is_none (Ok None) = true
is_none answer = false

abbrev bad_in : Answer → Option ℕ
bad_in (Err (refusal.BadEvent line)) = Some line
bad_in answer = None

-- an event was given
gives_event : (rest : List Event) (bad : Option ℕ) (mid : Option Told) (e : Event) → Gives (told_of rest bad) mid (Ok (Some e)) → (es : List Event) × (rest ≡ e ∷ es) × (mid ≡ told_of es bad)
gives_event rest bad mid e (inl fault) = absurd (cc fault)
gives_event [] None mid e (inr h) = absurd (cc (ap is_event h.0))
gives_event [] (Some line) mid e (inr h) = absurd (cc (ap is_event h.0))
gives_event (f ∷ es) bad mid e (inr h) = (es, ap (λ (x : Event). x ∷ es) (sym (ap (event_in e) h.0)), h.1)

-- none was left
gives_none : (rest : List Event) (bad : Option ℕ) (mid : Option Told) → Gives (told_of rest bad) mid (Ok None) → (rest ≡ []) × (bad ≡ None)
gives_none rest bad mid (inl fault) = absurd (cc fault)
gives_none [] None mid (inr h) = (refl, refl)
gives_none [] (Some line) mid (inr h) = absurd (cc (ap is_none h.0))
gives_none (f ∷ es) bad mid (inr h) = absurd (cc (ap is_none h.0))

-- a bad line came
gives_bad : (rest : List Event) (bad : Option ℕ) (mid : Option Told) (line : ℕ) → Gives (told_of rest bad) mid (Err (refusal.BadEvent line)) → (rest ≡ []) × (bad ≡ Some line)
gives_bad rest bad mid line (inl fault) = absurd (cc fault)
gives_bad [] None mid line (inr h) = absurd (cc (ap bad_in h.0))
gives_bad [] (Some at) mid line (inr h) = (refl, sym (ap bad_in h.0))
gives_bad (f ∷ es) bad mid line (inr h) = absurd (cc (ap bad_in h.0))

module _ {F : Type 0} (side : Ghosts F) (o : Opening F) where
  abbrev ended : List Event → Bool
  ended = has_ended o.code o.records

  pub starts : (told : Option Told) (left : ℕ) (applied : List Event) → GoesOnWith o told told left applied left applied
  starts None left applied = refl
  starts (Some t) left applied = (t.events, refl, λ tail. refl)

  -- one event more
  pub takes_on : (told now mid later : Option Told) (e : Event) (left l1 l2 : ℕ) (applied more most : List Event) → GoesOnWith o told now left applied l1 more → Gives now mid (Ok (Some e)) → TakesOn o e mid later l1 more l2 most
      → GoesOnWith o told later left applied l2 most
  takes_on None now mid later e left l1 l2 applied more most goes gives takes =
      let none : mid ≡ None = subst (λ (x : Option Told). Gives x mid (Ok (Some e))) goes gives in
      subst (λ (x : Option Told). TakesOn o e x later l1 more l2 most) none takes
  takes_on (Some t) now mid later e left l1 l2 applied more most goes gives takes =
      let next = gives_event goes.0 t.bad mid e (subst (λ (x : Option Told). Gives x mid (Ok (Some e))) goes.1 gives) in
      let on : TakesOn o e (told_of next.0 t.bad) later l1 more l2 most = subst (λ (x : Option Told). TakesOn o e x later l1 more l2 most) next.2 takes in
      (on.0, on.1, λ tail. goes.2 tail ∙ (ap (λ (l : List Event). whole o l t.bad tail l1 more) next.1 ∙ on.2 tail))

  -- the sink failed in one
  pub begins_on : (told now mid : Option Told) (e : Event) (left l1 : ℕ) (applied more : List Event) → GoesOnWith o told now left applied l1 more → Gives now mid (Ok (Some e))
      → ((t : Told) → mid ≡ Some t → Begins o (e ∷ t.events) t.bad l1 more (e ∷ more)) → BeginsAs o told left applied (e ∷ more)
  begins_on None now mid e left l1 applied more goes gives begins = tt
  begins_on (Some t) now mid e left l1 applied more goes gives begins =
      let next = gives_event goes.0 t.bad mid e (subst (λ (x : Option Told). Gives x mid (Ok (Some e))) goes.1 gives) in
      λ tail.
      let from = begins (record { events = next.0; bad = t.bad }) next.2 tail in
      (from.0, goes.2 tail ∙ (ap (λ (l : List Event). whole o l t.bad tail l1 more) next.1 ∙ from.1))

  -- ---- the end of the reading
  pub reads_all : (told now mid : Option Told) (left l1 : ℕ) (applied more : List Event) → GoesOnWith o told now left applied l1 more → Gives now mid (Ok None) → ReadAll o told left applied l1 more
  reads_all None now mid left l1 applied more goes gives = tt
  reads_all (Some t) now mid left l1 applied more goes gives =
      let at = gives_none goes.0 t.bad mid (subst (λ (x : Option Told). Gives x mid (Ok None)) goes.1 gives) in
      (at.1, λ tail. goes.2 tail ∙ (ap (λ (l : List Event). whole o l t.bad tail l1 more) at.0 ∙ ap (λ (b : Option ℕ). whole o [] b tail l1 more) at.1))

  reads_to : (told now mid : Option Told) (line left l1 : ℕ) (applied more : List Event) → GoesOnWith o told now left applied l1 more → Gives now mid (Err (refusal.BadEvent line)) → ReadTo o told line left applied more
  reads_to None now mid line left l1 applied more goes gives = tt
  reads_to (Some t) now mid line left l1 applied more goes gives =
      let at = gives_bad goes.0 t.bad mid line (subst (λ (x : Option Told). Gives x mid (Err (refusal.BadEvent line))) goes.1 gives) in
      (at.1, λ tail. goes.2 tail ∙ (ap (λ (l : List Event). whole o l t.bad tail l1 more) at.0 ∙ ap (λ (b : Option ℕ). whole o [] b tail l1 more) at.1))

  begins_as : (told now : Option Told) (left l1 : ℕ) (applied more : List Event) → GoesOnWith o told now left applied l1 more → BeginsAs o told left applied more
  begins_as None now left l1 applied more goes = tt
  begins_as (Some t) now left l1 applied more goes = λ tail. let from = grows ended goes.0 t.bad tail l1 more in (from.0, goes.2 tail ∙ from.1)

  pub refused_there : (told now mid : Option Told) (r : EventRefusal) (left : ℕ) (applied more : List Event) (engine : Engine F side) (p : Progress) (waits : List ℕ) (taken : Option (List ℕ)) → Playing side o more engine p waits taken
      → GoesOnWith o told now left applied p.left more → Gives now mid (Err r) → ListedEnd side o told left applied (Err (refused_end r)) engine p waits taken
  refused_there told now mid (refusal.BadEvent line) left applied more engine p waits taken h goes gives = (more, h, reads_to told now mid line left p.left applied more goes gives)
  refused_there told now mid refusal.ReadFault left applied more engine p waits taken h goes gives = (more, h, begins_as told now left p.left applied more goes)

-- ---- the answers of the events
module _ {E : Type 0} (events : EventsOf E) where
  abbrev none_failed : {A : Type 0} → A → Bool
  none_failed a = false

  pub read_all : (first old new : E) → events.procs old ≡ events.procs first → events.failed old ≡ events.failed first → events.faults old ≡ events.faults first → events.procs new ≡ events.procs old → events.last new ≡ Some (Ok None)
      → HasEventCause (events.failed old) (events.faults old) (events.faults new) (Ok None) → EndsReading events first new Stopped
  read_all first old new procs failed faults procs_now last cause =
      let same : events.faults new ≡ events.faults first = cause.kept refl ∙ faults in
      record { procs = procs_now ∙ procs; last = last; later = subst (λ n. events.faults first ≤ n) (sym same) (omega arith); fault = λ is. absurd (cc is); kept = λ other. same }

  read_to : (line : ℕ) (first old new : E) → events.procs old ≡ events.procs first → events.failed old ≡ events.failed first → events.faults old ≡ events.faults first → events.procs new ≡ events.procs old → events.last new ≡ Some (Err (refusal.BadEvent line))
      → HasEventCause (events.failed old) (events.faults old) (events.faults new) (Err (refusal.BadEvent line)) → EndsReading events first new (BadEvent line)
  read_to line first old new procs failed faults procs_now last cause =
      let same : events.faults new ≡ events.faults first = cause.kept refl ∙ faults in
      record { procs = procs_now ∙ procs; last = last; later = subst (λ n. events.faults first ≤ n) (sym same) (omega arith); fault = λ is. absurd (cc is); kept = λ other. same }

  read_fault : (first old new : E) → events.procs old ≡ events.procs first → events.failed old ≡ events.failed first → events.faults old ≡ events.faults first → events.procs new ≡ events.procs old → events.last new ≡ Some (Err refusal.ReadFault)
      → HasEventCause (events.failed old) (events.faults old) (events.faults new) (Err refusal.ReadFault) → EndsReading events first new ReadFault
  read_fault first old new procs failed faults procs_now last cause =
      record {
        procs = procs_now ∙ procs;
        last = last;
        later = subst (λ n. n ≤ events.faults new) faults cause.later;
        fault = λ is. by_case (cause.fault refl);
        kept = λ other. absurd (other refl);
      }
    where
      by_case : (events.failed old ≡ true) ⊎ Rose (events.faults old) (events.faults new) → (events.failed first ≡ true) ⊎ Rose (events.faults first) (events.faults new)
      by_case (inl f) = inl (sym failed ∙ f)
      by_case (inr rose) = inr (subst (λ n. Rose n (events.faults new)) faults rose)

  pub read_refused : (r : EventRefusal) (first old new : E) → events.procs old ≡ events.procs first → events.failed old ≡ events.failed first → events.faults old ≡ events.faults first → events.procs new ≡ events.procs old → events.last new ≡ Some (Err r)
      → HasEventCause (events.failed old) (events.faults old) (events.faults new) (Err r) → EndsReading events first new (refused_end r)
  read_refused (refusal.BadEvent line) first old new procs failed faults procs_now last cause = read_to line first old new procs failed faults procs_now last cause
  read_refused refusal.ReadFault first old new procs failed faults procs_now last cause = read_fault first old new procs failed faults procs_now last cause

  pub read_cut : (first new : E) → events.procs new ≡ events.procs first → events.faults new ≡ events.faults first → EndsReading events first new SinkFault
  read_cut first new procs same =
      record { procs = procs; last = tt; later = subst (λ n. events.faults first ≤ n) (sym same) (omega arith); fault = λ is. absurd (cc is); kept = λ other. same }
