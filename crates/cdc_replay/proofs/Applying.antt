-- An event that is applied in a run.
use Rattle.std.proofs.Common.{◌≡◌, ℕ, ◌<◌, ◌≤◌, List, ◌∷◌, ◌++◌, sym, ap, ◌∙◌, subst, Bool}
use Rattle.std.specs.Prelude.{Option, None}
use Rattle.cdc_base.specs.Gathered.{HandsOn}
use Rattle.cdc_base.specs.Outside.{GrewInPart}
use Rattle.cdc_prog.specs.Input.{Input}
use Rattle.cdc_prog.specs.Lines.{opened}
use Rattle.cdc_prog.specs.Meaning.{bytes_of}
use Rattle.cdc_code.specs.declared.code.Code.{Code}
use Rattle.cdc_fabric.specs.declared.fabric.Fabric.{Ghosts}
use Rattle.cdc_fabric.specs.Made.{Layout, IsWrittenList, IsInOrder}
use Rattle.cdc_sched.specs.declared.event.Event.{Event}
use Rattle.cdc_machine.specs.declared.effect.Effect.{Effect}
use Rattle.cdc_machine.specs.Machine.{deed}
use Rattle.cdc_machine.specs.Laws.{IsOver}
use Rattle.cdc_machine.specs.Code.{State, entry_of, exit_of, run}
use Rattle.cdc_epoch.specs.declared.engine.Engine.{Engine}
use Rattle.cdc_replay.specs.declared.progress.Progress.{Progress}
use Rattle.cdc_epoch.specs.Side.{Stays}
use Rattle.cdc_epoch.specs.Ties.{CanGo, Ties, IsReady, DoesDeed, StandsFor}
use Rattle.cdc_replay.specs.Effects.{piece_in, counted}
use Rattle.cdc_replay.specs.Replays.{CanReplay, Opening, HasApplied, Playing, Broken, effect_of}
use Rattle.cdc_replay.proofs.Plays.{did, has_on, plays_on, breaks}

-- what events ask of an engine, by its parts
abbrev CanAs : Code → Input → Bool → Option Layout → Type 0
CanAs code records plain made =
    ((events : List Event) → let m = (run code records events).machine in (IsOver m.phase → ⊥) → (i : ℕ) → i < m.count → CanGo code (m.tasks i))
    × ((number : ℕ) → IsWrittenList made (entry_of code number))
    × ((number : ℕ) → IsWrittenList made (exit_of code number))
    × ((events : List Event) → IsInOrder plain made (run code records events).calls)

module _ {F : Type 0} (side : Ghosts F) where
  pub can_after : (old new : Engine F side) → new.code ≡ old.code → new.records.records ≡ old.records.records → Stays side old.side new.side → CanReplay side old → CanReplay side new
  can_after old new code records stays can =
      let before : CanAs old.code old.records.records (side.plain old.side) (side.made old.side) = (can.tasks, can.entries, can.exits, can.order) in
      let a : CanAs new.code old.records.records (side.plain old.side) (side.made old.side) = subst (λ (c : Code). CanAs c old.records.records (side.plain old.side) (side.made old.side)) (sym code) before in
      let b : CanAs new.code new.records.records (side.plain old.side) (side.made old.side) = subst (λ (r : Input). CanAs new.code r (side.plain old.side) (side.made old.side)) (sym records) a in
      let c : CanAs new.code new.records.records (side.plain new.side) (side.made old.side) = subst (λ (p : Bool). CanAs new.code new.records.records p (side.made old.side)) (sym stays.plain) b in
      let d : CanAs new.code new.records.records (side.plain new.side) (side.made new.side) = subst (λ (l : Option Layout). CanAs new.code new.records.records (side.plain new.side) l) (sym stays.made) c in
      record { tasks = d.0; entries = d.1; exits = d.2; order = d.3 }

  -- the clauses of the call that applies an event
  abbrev StepOf : Event → Engine F side → Effect → Engine F side → Type 0
  StepOf event old e new = (m : State) → Ties side old m → IsReady side old m → DoesDeed side (deed event m) m old e new

  abbrev CarryOf : Event → Engine F side → Engine F side → Type 0
  CarryOf event old new = (events : List Event) → StandsFor side old events → IsReady side old (run old.code old.records.records events).machine
      → IsInOrder (side.plain old.side) (side.made old.side) (run old.code old.records.records (event ∷ events)).calls → StandsFor side new (event ∷ events)

  ready : (applied : List Event) (old : Engine F side) → CanReplay side old → IsReady side old (run old.code old.records.records applied).machine
  ready applied old can = record { tasks = can.tasks applied; entries = can.entries; exits = can.exits }

  pub steps_on : (event : Event) (o : Opening F) (applied : List Event) (old new : Engine F side) (p : Progress) (e : Effect) (waits : List ℕ) (now : Option (List ℕ))
      → CanReplay side old → StepOf event old e new → Playing side o applied old p waits now → p.end ≡ None
      → DoesDeed side (deed event (run old.code old.records.records applied).machine) (run old.code old.records.records applied).machine old e new
  steps_on event o applied old new p e waits now can step h running =
      step (run old.code old.records.records applied).machine h.has.stands.ties (ready applied old can)

  has_next : (event : Event) (o : Opening F) (applied : List Event) (old new : Engine F side) (p : Progress) (e : Effect) (waits : List ℕ) (now : Option (List ℕ))
      → CanReplay side old → StepOf event old e new → CarryOf event old new → Playing side o applied old p waits now → p.end ≡ None → 1 ≤ p.left
      → HasApplied side o (event ∷ applied) new (counted e p) × (e ≡ effect_of side o applied old.side event)
  has_next event o applied old new p e waits now can step carry h running some =
      let does = steps_on event o applied old new p e waits now can step h running in
      let stands = carry applied h.has.stands (ready applied old can) (can.order (event ∷ applied)) in
      (has_on side o event applied old new p e h.has does stands some, (did side o event applied old new p e h.has does).1)

  pub can_next : (event : Event) (o : Opening F) (applied : List Event) (old new : Engine F side) (p : Progress) (e : Effect) (waits : List ℕ) (now : Option (List ℕ))
      → CanReplay side old → StepOf event old e new → Playing side o applied old p waits now → p.end ≡ None → CanReplay side new × (side.procs new.side ≡ side.procs old.side)
  can_next event o applied old new p e waits now can step h running =
      let does = steps_on event o applied old new p e waits now can step h running in
      (can_after old new does.code (ap (λ r. r.records) does.records) does.stays can, does.stays.procs)

  pub plays_next : (event : Event) (o : Opening F) (applied : List Event) (old new : Engine F side) (p after : Progress) (e : Effect) (waits waits_now : List ℕ) (mid now : Option (List ℕ)) (open_now : Bool) (texts : List (List ℕ))
      → CanReplay side old → StepOf event old e new → CarryOf event old new → Playing side o applied old p waits mid → p.end ≡ None → 1 ≤ p.left → after ≡ counted e p → texts ≡ new.code.texts
      → HandsOn mid now (waits ++ bytes_of texts (piece_in e)) waits_now → open_now ≡ opened p.is_open (bytes_of texts (piece_in e))
      → Playing side o (event ∷ applied) new (record after { is_open = open_now }) waits_now now
  plays_next event o applied old new p after e waits waits_now mid now open_now texts can step carry h running some counts texts_are hands line =
      let next = has_next event o applied old new p e waits mid can step carry h running some in
      let is : texts ≡ o.code.texts = texts_are ∙ ap (λ (c : Code). c.texts) next.0.code_is in
      let hands_on : HandsOn mid now (waits ++ bytes_of o.code.texts (piece_in e)) waits_now = subst (λ (t : List (List ℕ)). HandsOn mid now (waits ++ bytes_of t (piece_in e)) waits_now) is hands in
      let line_is : open_now ≡ opened p.is_open (bytes_of o.code.texts (piece_in e)) = line ∙ ap (λ (t : List (List ℕ)). opened p.is_open (bytes_of t (piece_in e))) is in
      subst (λ (q : Progress). Playing side o (event ∷ applied) new (record q { is_open = open_now }) waits_now now) (sym counts)
      (plays_on side o event applied old new p e waits waits_now mid now open_now h next.0 next.1 hands_on line_is)

  pub breaks_next : (event : Event) (o : Opening F) (applied : List Event) (old new : Engine F side) (p after : Progress) (e : Effect) (waits : List ℕ) (mid now : Option (List ℕ)) (texts : List (List ℕ))
      → CanReplay side old → StepOf event old e new → CarryOf event old new → Playing side o applied old p waits mid → p.end ≡ None → 1 ≤ p.left → after ≡ counted e p → texts ≡ new.code.texts
      → GrewInPart mid now (waits ++ bytes_of texts (piece_in e)) → Broken side o (event ∷ applied) new after now
  breaks_next event o applied old new p after e waits mid now texts can step carry h running some counts texts_are part =
      let next = has_next event o applied old new p e waits mid can step carry h running some in
      let is : texts ≡ o.code.texts = texts_are ∙ ap (λ (c : Code). c.texts) next.0.code_is in
      let cut : GrewInPart mid now (waits ++ bytes_of o.code.texts (piece_in e)) = subst (λ (t : List (List ℕ)). GrewInPart mid now (waits ++ bytes_of t (piece_in e))) is part in
      subst (λ (q : Progress). Broken side o (event ∷ applied) new q now) (sym counts) (breaks side o event applied old new p e waits mid now h next.0 next.1 cut)

  pub tells_next : (event : Event) (o : Opening F) (applied : List Event) (old new : Engine F side) (p : Progress) (e : Effect) (waits : List ℕ) (now : Option (List ℕ))
      → CanReplay side old → StepOf event old e new → Playing side o applied old p waits now → p.end ≡ None → e ≡ effect_of side o applied old.side event
  tells_next event o applied old new p e waits now can step h running =
      (did side o event applied old new p e h.has (steps_on event o applied old new p e waits now can step h running)).1
