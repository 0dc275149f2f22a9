-- Which events find a processor or a task free.
use Rattle.std.proofs.Common.{◌≡◌, ℕ, ◌<◌, pos, get_or, Bool, true, false, Option, Some, None, refl, sym, ap, ◌∙◌, subst, arith, nat_lt, if◌then◌else◌}
use Rattle.std.specs.Prelude.{not, ◌&&◌, is_some}
use Rattle.std.proofs.lemmas.Bool.{ltb-true, lt-ltb}
use Rattle.cdc_prog.specs.InOrder.{choose}
use Rattle.cdc_code.specs.Frames.{Frame}
use Rattle.cdc_fabric.specs.declared.fabric.Fabric.{Ghosts}
use Rattle.cdc_sched.specs.declared.event.Event.TheVariants as event
use Rattle.cdc_machine.specs.declared.effect.Effect.{Effect}
use Rattle.cdc_machine.specs.declared.effect.Effect.TheVariants as effect
use Rattle.cdc_machine.specs.Machine.{TaskOf, Waiting, Running, Ended, DeedOf, Rests, Takes, waiting, free, taking, deed}
use Rattle.cdc_machine.specs.Code.{State}
use Rattle.cdc_epoch.specs.declared.engine.Engine.{Engine}
use Rattle.cdc_epoch.specs.Side.{Stays}
use Rattle.cdc_epoch.specs.Taken.{is_waiting}
use Rattle.cdc_epoch.specs.Ties.{was_taken, Live, CanApply, IsFree, DoesDeed}
use Rattle.cdc_epoch.proofs.Keeping.{hand_some, hand_none}
use Rattle.cdc_epoch.proofs.Ports.{stays_same}
use Rattle.cdc_epoch.proofs.Acting.{parts_of}
use Rattle.cdc_epoch.proofs.Applies.{enabled_then, same_can}
use Rattle.cdc_epoch.proofs.Coming.{Becomes}

module _ {F : Type 0} (side : Ghosts F) (old : Engine F side) (m : State) (can : CanApply side old m) where
  abbrev live : Live side old m
  live = can.ties.live can.live

  -- an event did nothing, and looked at the roster at most
  pub idles : (d : DeedOf Frame) → d ≡ Rests → (new : Engine F side) → Becomes side old new old.side (record (parts_of side old) { roster = new.roster })
      → new.roster.count ≡ old.roster.count → new.roster.taken ≡ old.roster.taken → new.roster.held ≡ old.roster.held
      → DoesDeed side d m old effect.Idle new
  idles d rests new b count taken held = subst (λ (d : DeedOf Frame). DoesDeed side d m old effect.Idle new) (sym rests) (record {
    code = b.code;
    records = b.records;
    v = pos 0;
    made = b.memory;
    stays = subst (Stays side old.side) (sym b.memory) (stays_same side old.side);
    stands = (same_can side old new b.code b.records b.memory m b.parts count taken held can).ties;
    effect = refl;
  })

  -- ---- a taking
  module _ (p i : ℕ) where
    abbrev else_free : DeedOf Frame
    else_free = choose (free i m) (taking p) Rests

    -- the processor holds a task already
    pub busy : (j : ℕ) → get_or old.roster.held p None ≡ Some j → deed (event.Take p i) m ≡ Rests
    busy j e = enabled_then side old m can.ties can.live (event.Take p i) ∙ ap (λ (o : Option (ℕ × Frame)). choose o (λ h. Rests) else_free) (hand_some old.roster m live.roster p j e).2

    idle_hand : get_or old.roster.held p None ≡ None → deed (event.Take p i) m ≡ else_free
    idle_hand e = enabled_then side old m can.ties can.live (event.Take p i) ∙ ap (λ (o : Option (ℕ × Frame)). choose o (λ h. Rests) else_free) (hand_none old.roster m live.roster p e)

    -- the task is not there, or was taken
    pub gone : get_or old.roster.held p None ≡ None → is_waiting old.roster.taken old.roster.count i ≡ false → deed (event.Take p i) m ≡ Rests
    gone e w = idle_hand e ∙ by_place (nat_lt i m.count) refl
      where
        by_place : (b : Bool) → nat_lt i m.count ≡ b → choose (if b then waiting i (m.tasks i) else None) (taking p) Rests ≡ Rests
        by_place false lt = refl
        by_place true lt =
            let within : i < m.count = ltb-true i m.count lt in
            let there : nat_lt i old.roster.count ≡ true = ap (nat_lt i) live.roster.count ∙ lt in
            let not_free : not (get_or old.roster.taken i true) ≡ false = ap (λ b. b && not (get_or old.roster.taken i true)) (sym there) ∙ w in
            by_task (m.tasks i) (ap not (sym (live.roster.taken i within)) ∙ not_free)
          where
            by_task : (t : TaskOf Frame) → not (was_taken t) ≡ false → choose (waiting i t) (taking p) Rests ≡ Rests
            by_task (Waiting at) e = cc
            by_task (Running q at) e = refl
            by_task (Ended q at) e = refl

    -- the task is there
    pub found_free : get_or old.roster.held p None ≡ None → is_waiting old.roster.taken old.roster.count i ≡ true → (at : Frame) × IsFree side old m p i at × (deed (event.Take p i) m ≡ Takes p i at)
    found_free e w = by_task (m.tasks i) refl (sym (live.roster.taken i within) ∙ free_now)
      where
        both : (a b : Bool) → a && not b ≡ true → (a ≡ true) × (b ≡ false)
        both true false e = (refl, refl)
        both true true e = cc
        both false b e = cc

        within : i < m.count
        within = let lt = ltb-true i old.roster.count (both (nat_lt i old.roster.count) (get_or old.roster.taken i true) w).0 in omega (arith, lt, live.roster.count)

        free_now : get_or old.roster.taken i true ≡ false
        free_now = (both (nat_lt i old.roster.count) (get_or old.roster.taken i true) w).1

        by_task : (t : TaskOf Frame) → m.tasks i ≡ t → was_taken t ≡ false → (at : Frame) × IsFree side old m p i at × (deed (event.Take p i) m ≡ Takes p i at)
        by_task (Waiting at) is n =
            let is_there = ap (λ b. choose (if b then waiting i (m.tasks i) else None) (taking p) Rests) (lt-ltb i m.count within) in
            (at, record { hand = e; there = within; waits = is }, idle_hand e ∙ is_there ∙ ap (λ t. choose (waiting i t) (taking p) Rests) is)
        by_task (Running q at) is n = cc
        by_task (Ended q at) is n = cc

    pub some_busy : (o : Option ℕ) → o ≡ get_or old.roster.held p None → is_some o ≡ true → deed (event.Take p i) m ≡ Rests
    some_busy None e s = cc
    some_busy (Some j) e s = busy j (sym e)

    -- p holds no task, and found task i free
    pub does_take : (answer : Effect) (new : Engine F side) → get_or old.roster.held p None ≡ None → is_waiting old.roster.taken old.roster.count i ≡ true
        → ((at : Frame) → IsFree side old m p i at → DoesDeed side (Takes p i at) m old answer new) → DoesDeed side (deed (event.Take p i) m) m old answer new
    does_take answer new e w does = let f = found_free e w in subst (λ (d : DeedOf Frame). DoesDeed side d m old answer new) (sym f.2) (does f.0 f.1)

pub no_hand : (o h : Option ℕ) → o ≡ h → is_some o ≡ false → h ≡ None
no_hand None h e s = sym e
no_hand (Some j) h e s = absurd (cc)
