-- The end of a run.
use Rattle.std.proofs.Common.{◌≡◌, ◌≢◌, ◌⊎◌, ℕ, ◌+◌, ◌-◌, ◌<◌, ◌≤◌, ◌^◌, List, [], ◌++◌, length, refl, sym, ap, ◌∙◌, subst, arith, inl, inr, append-nil}
use Rattle.std.specs.Prelude.{Option, Some, None, Result, Ok, Err, unwrap_or}
use Rattle.std.specs.Option.{option_map}
use Rattle.cdc_base.specs.Causes.{Rose}
use Rattle.cdc_base.specs.Outside.{grown, GrewInPart}
use Rattle.cdc_base.proofs.Grown.{grown-grown}
use Rattle.cdc_text.specs.Pieces.{GrewByFront}
use Rattle.cdc_text.proofs.Pieces.{front_second, front_of_part}
use Rattle.cdc_prog.specs.InOrder as sequential
use Rattle.cdc_prog.specs.InOrder.{End}
use Rattle.cdc_fabric.specs.declared.fabric.Fabric.{Ghosts}
use Rattle.cdc_sched.specs.declared.event.Event.{Event}
use Rattle.cdc_sched.specs.declared.events.Events.{Ghosts as EventsOf}
use Rattle.cdc_sched.specs.Told.{Told}
use Rattle.cdc_machine.specs.Code.{run, ended_with}
use Rattle.cdc_epoch.specs.declared.engine.Engine.{Engine}
use Rattle.cdc_replay.specs.declared.progress.Progress.{Progress}
use Rattle.cdc_replay.specs.declared.run.Played.{Played}
use Rattle.cdc_epoch.specs.declared.outcome.Outcome.{Outcome}
use Rattle.cdc_epoch.specs.declared.outcome.Outcome.TheVariants.{Done, Fault, Stopped, BadEvent, ReadFault, SinkFault}
use Rattle.cdc_epoch.specs.Ties.{StandsFor}
use Rattle.cdc_replay.specs.Refused.{end_of}
use Rattle.cdc_replay.specs.Effects.{at_start}
use Rattle.cdc_replay.specs.Applied.{has_ended, output_after, with_tail}
use Rattle.cdc_replay.specs.Replays.{Opening, HasApplied, Playing, BeginsAs, ReadAll, ReadTo, ListedEnd, PlayedOut, AreApplied, AreFirst, EndsAs, EndsReading, HasSinkCause, HandsOut, Replays, WroteAll, WroteFront, machine_end, end_by, whole}

abbrev played_as : {F : Type 0} → Opening F → Progress → Outcome → Played
played_as o p answer = record { end = answer; tally = record { events = o.bound - p.left; idle = p.idle }; is_open = p.is_open }

module _ {F : Type 0} (side : Ghosts F) (o : Opening F) where
  -- ---- before the first event
  pub begins : (engine : Engine F side) (p : Progress) (waits : List ℕ) → engine.code ≡ o.code → engine.records.records ≡ o.records → engine.side ≡ o.side → StandsFor side engine [] → o.bound < 2 ^ 64 → p ≡ at_start o.bound → waits ≡ []
      → Playing side o [] engine p waits o.taken
  begins engine p waits code records sides stands bounded is none =
      let start : Playing side o [] engine (at_start o.bound) [] o.taken = record {
        has = record { code_is = code; records_are = records; stands = stands; led = (sides, refl); left = omega arith; idle = omega arith; bounded = bounded };
        hands = record { front = []; took = nothing o.taken; split = refl };
        line = refl;
        ended = refl;
      } in
      subst (λ (q : Progress). Playing side o [] engine q waits o.taken) (sym is) (subst (λ (w : List ℕ). Playing side o [] engine (at_start o.bound) w o.taken) (sym none) start)
    where
      nothing : (x : Option (List ℕ)) → x ≡ grown x []
      nothing None = refl
      nothing (Some bytes) = ap Some (sym (append-nil bytes))

  -- ---- behind the listed events
  at_bound : (engine : Engine F side) (p : Progress) (waits : List ℕ) (now : Option (List ℕ)) → Playing side o [] engine p waits now → p.left ≡ o.bound
  at_bound engine p waits now h = count p.left o.bound h.has.left
    where
      count : (a b : ℕ) → a + 0 ≡ b → a ≡ b
      count a b is = omega (arith, is)

  first_from : (told : Option Told) (left : ℕ) (events : List Event) (tail : ℕ → Option Event) → left ≡ o.bound → BeginsAs o told left [] events → AreFirst o told tail events
  first_from None left events tail is h = tt
  first_from (Some t) left events tail is h = let from = h tail in (from.0, ap (λ (l : ℕ). whole o t.events t.bad tail l []) (sym is) ∙ from.1)

  bad_from : (told : Option Told) (line left : ℕ) (events : List Event) (tail : ℕ → Option Event) → left ≡ o.bound → ReadTo o told line left [] events → AreApplied o told (Some line) tail events
  bad_from None line left events tail is h = tt
  bad_from (Some t) line left events tail is h = (h.0, ap (λ (l : ℕ). whole o t.events t.bad tail l []) (sym is) ∙ h.1 tail)

  all_from : (told : Option Told) (left later : ℕ) (events : List Event) (tail : ℕ → Option Event) → left ≡ o.bound → ReadAll o told left [] later events → AreApplied o told None tail (with_tail (has_ended o.code o.records) tail later 0 events)
  all_from None left later events tail is h = tt
  all_from (Some t) left later events tail is h = (h.0, ap (λ (l : ℕ). whole o t.events t.bad tail l []) (sym is) ∙ h.1 tail)

  first_of_tail : (told : Option Told) (left later : ℕ) (events most more : List Event) (tail : ℕ → Option Event) → left ≡ o.bound → ReadAll o told left [] later events → with_tail (has_ended o.code o.records) tail later 0 events ≡ more ++ most → AreFirst o told tail most
  first_of_tail None left later events most more tail is h front = tt
  first_of_tail (Some t) left later events most more tail is h front = (more, ap (λ (l : ℕ). whole o t.events t.bad tail l []) (sym is) ∙ (h.1 tail ∙ front))

  pub listed_out : (told : Option Told) (tail : ℕ → Option Event) (end : Outcome) (first : Engine F side) (start : Progress) (waited : List ℕ) (then : Option (List ℕ)) (engine : Engine F side) (p : Progress) (waits : List ℕ) (now : Option (List ℕ))
      → Playing side o [] first start waited then → ListedEnd side o told start.left [] (Err end) engine p waits now → PlayedOut side o told tail (Err end) engine p waits now
  listed_out told tail Done first start waited then engine p waits now h at = absurd at
  listed_out told tail (Fault kind line) first start waited then engine p waits now h at = absurd at
  listed_out told tail Stopped first start waited then engine p waits now h at = absurd at
  listed_out told tail (BadEvent line) first start waited then engine p waits now h at = (at.0, at.1, bad_from told line start.left at.0 tail (at_bound first start waited then h) at.2)
  listed_out told tail ReadFault first start waited then engine p waits now h at = (at.0, at.1, first_from told start.left at.0 tail (at_bound first start waited then h) at.2)
  listed_out told tail SinkFault first start waited then engine p waits now h at = (at.0, at.1, first_from told start.left at.0 tail (at_bound first start waited then h) at.2)

  pub tail_out : (told : Option Told) (tail : ℕ → Option Event) (first : Engine F side) (start : Progress) (waited : List ℕ) (then : Option (List ℕ)) (later : ℕ) (events : List Event)
      → Playing side o [] first start waited then → ReadAll o told start.left [] later events → AreApplied o told None tail (with_tail (has_ended o.code o.records) tail later 0 events)
  tail_out told tail first start waited then later events h all = all_from told start.left later events tail (at_bound first start waited then h) all

  pub tail_cut : (told : Option Told) (tail : ℕ → Option Event) (first : Engine F side) (start : Progress) (waited : List ℕ) (then : Option (List ℕ)) (later : ℕ) (events most more : List Event)
      → Playing side o [] first start waited then → ReadAll o told start.left [] later events → with_tail (has_ended o.code o.records) tail later 0 events ≡ more ++ most → AreFirst o told tail most
  tail_cut told tail first start waited then later events most more h all front = first_of_tail told start.left later events most more tail (at_bound first start waited then h) all front

  -- ---- what was written
  wrote : (events : List Event) (engine : Engine F side) (p : Progress) (waits : List ℕ) (mid now : Option (List ℕ)) (answer : Outcome) → Playing side o events engine p waits mid → now ≡ grown mid waits → WroteAll o events (played_as o p answer) now
  wrote events engine p waits mid now answer h is =
      (is ∙ (ap (λ x. grown x waits) h.hands.took ∙ (grown-grown o.taken h.hands.front waits ∙ ap (grown o.taken) h.hands.split)), h.line)

  wrote_part : (events : List Event) (engine : Engine F side) (p : Progress) (waits : List ℕ) (mid now : Option (List ℕ)) → Playing side o events engine p waits mid → GrewInPart mid now waits → WroteFront o events now
  wrote_part events engine p waits mid now h part = subst (GrewByFront o.taken now) h.hands.split (front_second h.hands.front h.hands.took (front_of_part part))

  wrote_front : (events : List Event) (engine : Engine F side) (p : Progress) (waits : List ℕ) (mid now : Option (List ℕ)) → Playing side o events engine p waits mid → now ≡ mid → WroteFront o events now
  wrote_front events engine p waits mid now h is = record { front = h.hands.front; rest = waits; split = h.hands.split; took = is ∙ h.hands.took }

  first_applied : (told : Option Told) (bad : Option ℕ) (tail : ℕ → Option Event) (events : List Event) → AreApplied o told bad tail events → AreFirst o told tail events
  first_applied None bad tail events h = tt
  first_applied (Some t) bad tail events h = ([], h.1)

  -- ---- the whole run
  make : (told : Option Told) (tail : ℕ → Option Event) (events : List Event) (engine : Engine F side) (p : Progress) (now : Option (List ℕ)) (answer : Outcome) → HasApplied side o events engine p → EndsAs o told tail events answer (played_as o p answer) now
      → Replays side o told tail (played_as o p answer) engine now
  make told tail events engine p now answer has ends = record {
    events = events;
    code_is = has.code_is;
    records_are = has.records_are;
    stands = has.stands;
    led = has.led;
    counted = count p.left (length events) o.bound has.left;
    within = within p.left (length events) o.bound has.left;
    ends = ends;
  }
    where
      count : (a n b : ℕ) → a + n ≡ b → b - a ≡ n
      count a n b is = omega (arith, is)

      within : (a n b : ℕ) → a + n ≡ b → n ≤ b
      within a n b is = omega (arith, is)

  -- an end that is not one of reading or writing
  abbrev IsPlain : Outcome → Type 0
  IsPlain ReadFault = ⊥
  IsPlain SinkFault = ⊥
  IsPlain end = Unit {0}

  abbrev OutAs : Outcome → (answer : Outcome) → (mid now : Option (List ℕ)) → List ℕ → (before after : ℕ) → Type 0
  OutAs end answer mid now waits before after = ((answer ≡ end) × (now ≡ grown mid waits) × (after ≡ before)) ⊎ ((answer ≡ SinkFault) × GrewInPart mid now waits × Rose before after × (before ≤ after))

  -- it ended so where all was handed out, and else with the sink
  ends_or_cut : (told : Option Told) (bad : Option ℕ) (tail : ℕ → Option Event) (events : List Event) (engine : Engine F side) (p : Progress) (waits : List ℕ) (mid now : Option (List ℕ)) (end answer : Outcome) (before after : ℕ)
      → Playing side o events engine p waits mid → AreApplied o told bad tail events → (WroteAll o events (played_as o p end) now → EndsAs o told tail events end (played_as o p end) now) → OutAs end answer mid now waits before after
      → Replays side o told tail (played_as o p answer) engine now
  ends_or_cut told bad tail events engine p waits mid now end answer before after h applied ends (inl out) =
      subst (λ (a : Outcome). Replays side o told tail (played_as o p a) engine now) (sym out.0) (make told tail events engine p now end h.has (ends (wrote events engine p waits mid now end h out.1)))
  ends_or_cut told bad tail events engine p waits mid now end answer before after h applied ends (inr out) =
      subst (λ (a : Outcome). Replays side o told tail (played_as o p a) engine now) (sym out.0) (make told tail events engine p now SinkFault h.has (wrote_part events engine p waits mid now h out.1, first_applied told bad tail events applied))

  by_machine : (told : Option Told) (tail : ℕ → Option Event) (events : List Event) (engine : Engine F side) (p : Progress) (waits : List ℕ) (mid now : Option (List ℕ)) (answer : Outcome) (before after : ℕ) (x : Option End)
      → Playing side o events engine p waits mid → AreApplied o told None tail events → unwrap_or (option_map end_of x) Stopped ≡ machine_end o events → HandsOut (unwrap_or (option_map end_of x) Stopped) answer mid now waits before after
      → Replays side o told tail (played_as o p answer) engine now
  by_machine told tail events engine p waits mid now answer before after None h applied is out =
      ends_or_cut told None tail events engine p waits mid now Stopped answer before after h applied (λ w. (w, applied, is)) out
  by_machine told tail events engine p waits mid now answer before after (Some sequential.Done) h applied is out =
      ends_or_cut told None tail events engine p waits mid now Done answer before after h applied (λ w. (w, applied, is)) out
  by_machine told tail events engine p waits mid now answer before after (Some (sequential.Faulted f)) h applied is out =
      ends_or_cut told None tail events engine p waits mid now (Fault f.kind f.line) answer before after h applied (λ w. (w, applied, is)) out

  pub finishes : (told : Option Told) (tail : ℕ → Option Event) (result : Result (Unit {0}) Outcome) (engine : Engine F side) (p : Progress) (waits : List ℕ) (mid now : Option (List ℕ)) (answer : Outcome) (before after : ℕ)
      → PlayedOut side o told tail result engine p waits mid → HandsOut (end_by result p.end) answer mid now waits before after → Replays side o told tail (played_as o p answer) engine now
  finishes told tail (Ok u) engine p waits mid now answer before after h out =
      by_machine told tail h.0 engine p waits mid now answer before after (ended_with (run o.code o.records h.0).machine.phase) h.1 h.2 refl
      (subst (λ (e : Option Outcome). HandsOut (unwrap_or e Stopped) answer mid now waits before after) h.1.ended out)
  finishes told tail (Err (BadEvent line)) engine p waits mid now answer before after h out =
      ends_or_cut told (Some line) tail h.0 engine p waits mid now (BadEvent line) answer before after h.1 h.2 (λ w. (w, h.2)) out
  finishes told tail (Err ReadFault) engine p waits mid now answer before after h out =
      subst (λ (a : Outcome). Replays side o told tail (played_as o p a) engine now) (sym out.0) (make told tail h.0 engine p now ReadFault h.1.has (wrote_front h.0 engine p waits mid now h.1 out.1, h.2))
  finishes told tail (Err SinkFault) engine p waits mid now answer before after h out =
      subst (λ (a : Outcome). Replays side o told tail (played_as o p a) engine now) (sym out.0) (make told tail h.0 engine p now SinkFault h.1.has
      (subst (λ (x : Option (List ℕ)). GrewByFront o.taken x (output_after o.code o.records h.0)) (sym out.1) h.1.cut, h.2))
  finishes told tail (Err Done) engine p waits mid now answer before after h out = absurd h
  finishes told tail (Err (Fault kind line)) engine p waits mid now answer before after h out = absurd h
  finishes told tail (Err Stopped) engine p waits mid now answer before after h out = absurd h

  -- no more events were applied than may be
  pub left_within : (told : Option Told) (tail : ℕ → Option Event) (result : Result (Unit {0}) Outcome) (engine : Engine F side) (p : Progress) (waits : List ℕ) (mid : Option (List ℕ)) → PlayedOut side o told tail result engine p waits mid → p.left ≤ o.bound
  left_within told tail result engine p waits mid h = by_case result h
    where
      count : (a n b : ℕ) → a + n ≡ b → a ≤ b
      count a n b is = omega (arith, is)

      by_case : (result : Result (Unit {0}) Outcome) → PlayedOut side o told tail result engine p waits mid → p.left ≤ o.bound
      by_case (Ok u) h = count p.left (length h.0) o.bound h.1.has.left
      by_case (Err (BadEvent line)) h = count p.left (length h.0) o.bound h.1.has.left
      by_case (Err ReadFault) h = count p.left (length h.0) o.bound h.1.has.left
      by_case (Err SinkFault) h = count p.left (length h.0) o.bound h.1.has.left
      by_case (Err Done) h = absurd h
      by_case (Err (Fault kind line)) h = absurd h
      by_case (Err Stopped) h = absurd h

  -- ---- the causes
  reads_cut : {E : Type 0} (events : EventsOf E) (old new : E) (end answer : Outcome) → end ≢ ReadFault → EndsReading events old new end → answer ≡ SinkFault → EndsReading events old new answer
  reads_cut events old new end answer other h is =
      subst (EndsReading events old new) (sym is) (record { procs = h.procs; last = tt; later = h.later; fault = λ x. absurd (cc x); kept = λ x. h.kept other })

  reads_machine : {E : Type 0} (events : EventsOf E) (old new : E) (x : Option End) → EndsReading events old new Stopped → EndsReading events old new (unwrap_or (option_map end_of x) Stopped)
  reads_machine events old new None h = h
  reads_machine events old new (Some sequential.Done) h = record { procs = h.procs; last = h.last; later = h.later; fault = λ x. absurd (cc x); kept = λ x. h.kept (λ y. absurd (cc y)) }
  reads_machine events old new (Some (sequential.Faulted f)) h = record { procs = h.procs; last = h.last; later = h.later; fault = λ x. absurd (cc x); kept = λ x. h.kept (λ y. absurd (cc y)) }

  -- what is handed out, where the end is plain
  abbrev Handed : Outcome → (answer : Outcome) → (mid now : Option (List ℕ)) → List ℕ → (before after : ℕ) → Type 0
  Handed end answer mid now waits before after = OutAs end answer mid now waits before after × (end ≢ ReadFault) × (end ≢ SinkFault)

  handed_machine : (x : Option End) (answer : Outcome) (mid now : Option (List ℕ)) (waits : List ℕ) (before after : ℕ) → HandsOut (unwrap_or (option_map end_of x) Stopped) answer mid now waits before after → Handed (unwrap_or (option_map end_of x) Stopped) answer mid now waits before after
  handed_machine None answer mid now waits before after h = (h, λ x. absurd (cc x), λ x. absurd (cc x))
  handed_machine (Some sequential.Done) answer mid now waits before after h = (h, λ x. absurd (cc x), λ x. absurd (cc x))
  handed_machine (Some (sequential.Faulted f)) answer mid now waits before after h = (h, λ x. absurd (cc x), λ x. absurd (cc x))

  reads_handed : {E : Type 0} (events : EventsOf E) (old new : E) (end answer : Outcome) (mid now : Option (List ℕ)) (waits : List ℕ) (before after : ℕ) → Handed end answer mid now waits before after → EndsReading events old new end → EndsReading events old new answer
  reads_handed events old new end answer mid now waits before after (inl h, a, b) r = subst (EndsReading events old new) (sym h.0) r
  reads_handed events old new end answer mid now waits before after (inr h, a, b) r = reads_cut events old new end answer a r h.0

  pub reads_end : {E : Type 0} (events : EventsOf E) (old new : E) (told : Option Told) (tail : ℕ → Option Event) (result : Result (Unit {0}) Outcome) (engine : Engine F side) (p : Progress) (waits : List ℕ) (mid now : Option (List ℕ)) (answer : Outcome) (before after : ℕ)
      → PlayedOut side o told tail result engine p waits mid → EndsReading events old new (end_by result None) → HandsOut (end_by result p.end) answer mid now waits before after → EndsReading events old new answer
  reads_end events old new told tail (Ok u) engine p waits mid now answer before after h r out =
      let x = ended_with (run o.code o.records h.0).machine.phase in
      reads_handed events old new (unwrap_or (option_map end_of x) Stopped) answer mid now waits before after
      (handed_machine x answer mid now waits before after (subst (λ (e : Option Outcome). HandsOut (unwrap_or e Stopped) answer mid now waits before after) h.1.ended out)) (reads_machine events old new x r)
  reads_end events old new told tail (Err (BadEvent line)) engine p waits mid now answer before after h r out =
      reads_handed events old new (BadEvent line) answer mid now waits before after (out, λ x. absurd (cc x), λ x. absurd (cc x)) r
  reads_end events old new told tail (Err ReadFault) engine p waits mid now answer before after h r out = subst (EndsReading events old new) (sym out.0) r
  reads_end events old new told tail (Err SinkFault) engine p waits mid now answer before after h r out = subst (EndsReading events old new) (sym out.0) r
  reads_end events old new told tail (Err Done) engine p waits mid now answer before after h r out = absurd h
  reads_end events old new told tail (Err (Fault kind line)) engine p waits mid now answer before after h r out = absurd h
  reads_end events old new told tail (Err Stopped) engine p waits mid now answer before after h r out = absurd h

  cause_handed : (end answer : Outcome) (mid now : Option (List ℕ)) (waits : List ℕ) (first before after : ℕ) → Handed end answer mid now waits before after → HasSinkCause first before end → HasSinkCause first after answer
  cause_handed end answer mid now waits first before after (inl h, a, b) r =
      let same : before ≡ first = r.kept b in
      subst (HasSinkCause first after) (sym h.0) (record { later = subst (λ n. first ≤ n) (sym h.2) r.later; failed = λ x. absurd (b x); kept = λ x. h.2 ∙ same })
  cause_handed end answer mid now waits first before after (inr h, a, b) r =
      let same : before ≡ first = r.kept b in
      let rose : Rose first after = subst (λ n. Rose n after) same h.2 in
      subst (HasSinkCause first after) (sym h.0) (record { later = subst (λ n. n ≤ after) same h.3; failed = λ x. rose; kept = λ x. absurd (x refl) })

  cause_machine : (x : Option End) (first before : ℕ) → HasSinkCause first before Stopped → HasSinkCause first before (unwrap_or (option_map end_of x) Stopped)
  cause_machine None first before h = h
  cause_machine (Some sequential.Done) first before h = record { later = h.later; failed = λ x. absurd (cc x); kept = λ x. h.kept (λ y. absurd (cc y)) }
  cause_machine (Some (sequential.Faulted f)) first before h = record { later = h.later; failed = λ x. absurd (cc x); kept = λ x. h.kept (λ y. absurd (cc y)) }

  pub cause_end : (first : ℕ) (told : Option Told) (tail : ℕ → Option Event) (result : Result (Unit {0}) Outcome) (engine : Engine F side) (p : Progress) (waits : List ℕ) (mid now : Option (List ℕ)) (answer : Outcome) (before after : ℕ)
      → PlayedOut side o told tail result engine p waits mid → HasSinkCause first before (end_by result None) → HandsOut (end_by result p.end) answer mid now waits before after → HasSinkCause first after answer
  cause_end first told tail (Ok u) engine p waits mid now answer before after h r out =
      let x = ended_with (run o.code o.records h.0).machine.phase in
      cause_handed (unwrap_or (option_map end_of x) Stopped) answer mid now waits first before after
      (handed_machine x answer mid now waits before after (subst (λ (e : Option Outcome). HandsOut (unwrap_or e Stopped) answer mid now waits before after) h.1.ended out)) (cause_machine x first before r)
  cause_end first told tail (Err (BadEvent line)) engine p waits mid now answer before after h r out =
      cause_handed (BadEvent line) answer mid now waits first before after (out, λ x. absurd (cc x), λ x. absurd (cc x)) r
  cause_end first told tail (Err ReadFault) engine p waits mid now answer before after h r out = subst (HasSinkCause first after) (sym out.0) (subst (λ n. HasSinkCause first n ReadFault) (sym out.2) r)
  cause_end first told tail (Err SinkFault) engine p waits mid now answer before after h r out = subst (HasSinkCause first after) (sym out.0) (subst (λ n. HasSinkCause first n SinkFault) (sym out.2) r)
  cause_end first told tail (Err Done) engine p waits mid now answer before after h r out = absurd h
  cause_end first told tail (Err (Fault kind line)) engine p waits mid now answer before after h r out = absurd h
  cause_end first told tail (Err Stopped) engine p waits mid now answer before after h r out = absurd h
