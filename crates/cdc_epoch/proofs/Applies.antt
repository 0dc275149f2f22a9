-- An engine that begins, and which deed an event asks of it.
use Rattle.std.proofs.Common.{◌≡◌, ℕ, zero, suc, ◌<◌, ◌⊎◌, inl, inr, ℤ, pos, [], length, get_or, set, replicate, true, false, Option, Some, None, refl, sym, ap, ap₂, ◌∙◌, subst, if◌then◌else◌, arith}
use Rattle.std.proofs.lemmas.List.{get_or-set_same, get_or-set_other, get_or-replicate}
use Rattle.cdc_base.specs.Numbers.{one_more}
use Rattle.cdc_prog.specs.InOrder.{first_of, or_else, choose}
use Rattle.cdc_code.specs.declared.code.Code.{Code}
use Rattle.cdc_code.specs.Frames.{Frame}
use Rattle.cdc_code.specs.Rows.{act, first_frame}
use Rattle.cdc_fabric.specs.declared.fabric.Fabric.{Ghosts}
use Rattle.cdc_input.specs.declared.file.InputRecords.{InputRecords}
use Rattle.cdc_sched.specs.declared.event.Event.{Event}
use Rattle.cdc_sched.specs.declared.event.Event.TheVariants as event
use Rattle.cdc_task.specs.Held.{StandsIn}
use Rattle.cdc_task.specs.Steps.{GoesOn}
use Rattle.cdc_machine.specs.Laws.{IsOver}
use Rattle.cdc_machine.specs.declared.effect.Effect.{Effect}
use Rattle.cdc_machine.specs.declared.effect.Effect.TheVariants as effect
use Rattle.cdc_machine.specs.Machine.{TaskOf, Waiting, Running, Ended, PhaseOf, Serial, Doall, Over, DeedOf, Rests, Takes, Acts, Drops, waiting, least_free, closing, taking, acting, enabled, unless_over, deed, begun, call, done, told, acted, with_at}
use Rattle.cdc_machine.specs.Code.{State, entry_of, exit_of}
use Rattle.cdc_machine.proofs.Updates.{everywhere}
use Rattle.cdc_epoch.specs.declared.engine.Engine.{Engine}
use Rattle.cdc_epoch.specs.declared.engine.Epoch.{Epoch}
use Rattle.cdc_epoch.specs.declared.engine.Epoch.TheVariants as epoch
use Rattle.cdc_epoch.specs.declared.engine.Fork.{Fork}
use Rattle.cdc_epoch.specs.Side.{Stays, Made}
use Rattle.cdc_epoch.specs.Taken.{AreTaken, IsLeast}
use Rattle.cdc_epoch.specs.declared.engine.Faulting.{Faulting}
use Rattle.cdc_fabric.specs.Made.{IsWrittenList}
use Rattle.cdc_epoch.specs.Ties.{Ties, Live, IsReady, CanApply, IsFree, IsHeld, PhaseTied, TaskTied, FaultTied, CountTied, DoesDeed, DoesAct, StandsFor, CanGo, is_over, is_there, was_taken}
use Rattle.cdc_epoch.proofs.Ports.{stays_same}
use Rattle.cdc_epoch.proofs.Keeping.{hand_some, hand_none}
use Rattle.cdc_epoch.proofs.Acting.{Parts, parts_of, LiveAt, ties_at, ties_by}

-- ---- an engine that begins
no_hand : (n p : ℕ) → get_or (replicate {A = Option ℕ} n None) p None ≡ None
no_hand zero p = refl
no_hand (suc n) zero = refl
no_hand (suc n) (suc p) = no_hand n p

none_held : (procs p i : ℕ) → get_or (replicate procs None) p None ≡ Some i → ⊥
none_held procs p i e = let none = no_hand procs p in cc

module _ {F : Type 0} (side : Ghosts F) where
  pub begins : (e : Engine F side) (procs : ℕ) → parts_of side e ≡ record (parts_of side e) { epoch = epoch.Serial; fault = None; boundaries = 0 } → side.procs e.side ≡ procs → e.steps ≡ replicate procs 0
      → e.roster.count ≡ 1 → ((i : ℕ) → i < 1 → get_or e.roster.taken i true ≡ false) → e.roster.held ≡ replicate procs None → StandsIn e.records.records e.serial (first_frame e.code e.records.records) → side.stands e.side [] → StandsFor side e []
  begins e procs parts n steps count taken held stands calls = record {
    ties = ties_by side e (begun (first_frame e.code e.records.records)) procs (record (parts_of side e) { epoch = epoch.Serial; fault = None; boundaries = 0 }) n parts (record {
      phase = tt;
      live = λ l. record {
        count = refl;
        roster = record {
          count = count;
          taken = taken;
          holds = λ p i h. absurd (none_held procs p i (ap (λ l. get_or l p None) (sym held) ∙ h));
          is_held = λ p i lt h. absurd (cc);
        };
        tasks = λ i lt. stands;
        fault = λ i lt. refl;
      };
      steps = λ p lt. ap (λ l. get_or l p 0) steps ∙ get_or-replicate procs p 0 0 lt;
      boundaries = refl;
    });
    calls = calls;
  }

-- ---- the first at which something is there
pub no_first : {A : Type 0} (f : ℕ → Option A) (n : ℕ) → ((k : ℕ) → k < n → f k ≡ None) → first_of f n ≡ None
no_first f zero none = refl
no_first f (suc n) none = ap₂ or_else (no_first f n (λ k lt. none k (omega (arith, lt)))) (none n (omega arith))

pub first_at : {A : Type 0} (f : ℕ → Option A) (n i : ℕ) (a : A) → i < n → ((k : ℕ) → k < i → f k ≡ None) → f i ≡ Some a → first_of f n ≡ Some a
first_at f zero i a lt none some = absurd (omega arith)
first_at f (suc n) i a lt none some =
    let last_or_earlier : (i ≡ n) ⊎ (i < n) = grind arith in
    elim last_or_earlier [
      | inl e ↦ ap₂ or_else (no_first f n (λ k l. none k (omega (arith, l, e)))) (ap f (sym e) ∙ some)
      | inr l ↦ ap (λ o. or_else o (f n)) (first_at f n i a l none some)
    ]

waits : (u : TaskOf Frame) → was_taken u ≡ false → (at : Frame) × (u ≡ Waiting at)
waits (Waiting at) e = (at, refl)
waits (Running p at) e = absurd (cc)
waits (Ended p at) e = absurd (cc)

no_wait : (k : ℕ) (u : TaskOf Frame) → was_taken u ≡ true → waiting k u ≡ None
no_wait k (Waiting at) e = absurd (cc)
no_wait k (Running p at) e = refl
no_wait k (Ended p at) e = refl

pub not_is_over : (x : Epoch) → (x ≡ epoch.Over → ⊥) → is_over x → ⊥
not_is_over epoch.Over none o = none refl
not_is_over x none o = o

module _ {F : Type 0} (side : Ghosts F) (old : Engine F side) (m : State) (ties : Ties side old m) where
  pub over : is_over old.epoch → (e : Event) → DoesDeed side (deed e m) m old effect.Idle old
  over o e = subst (λ d. DoesDeed side d m old effect.Idle old) (sym (rests old.epoch m.phase ties.phase o)) (record { code = refl; records = refl; v = pos 0; made = refl; stays = stays_same side old.side; stands = ties; effect = refl })
    where
      rests : (x : Epoch) (phase : PhaseOf Frame) → PhaseTied old.code old.records.records old.serial old.lanes.items x phase → is_over x → unless_over phase (enabled e m) ≡ Rests
      rests epoch.Over (Over end) t o = refl
      rests epoch.Over phase t o = absurd t
      rests x phase t o = absurd o

  module _ (not_over : is_over old.epoch → ⊥) where
    live : Live side old m
    live = ties.live not_over

    pub enabled_then : (e : Event) → deed e m ≡ enabled e m
    enabled_then e = go old.epoch m.phase ties.phase not_over
      where
        go : (x : Epoch) (phase : PhaseOf Frame) → PhaseTied old.code old.records.records old.serial old.lanes.items x phase → (is_over x → ⊥) → unless_over phase (enabled e m) ≡ enabled e m
        go x Serial t l = refl
        go x (Doall number next) t l = refl
        go epoch.Over (Over end) t l = absurd (l tt)
        go x (Over end) t l = absurd t

    -- what p does with the task that it holds
    pub record DoesHeld (p i : ℕ) : Type 0 where
      pub at : Frame
      pub held : IsHeld m p i at
      pub by_step : deed (event.Step p) m ≡ Acts p i at
      pub by_next : deed (event.Next p) m ≡ Acts p i at

    pub does_held : (p i : ℕ) → get_or old.roster.held p None ≡ Some i → DoesHeld p i
    does_held p i e =
        let h = hand_some old.roster m live.roster p i e in
        record {
          at = h.0;
          held = h.1;
          by_step = enabled_then (event.Step p) ∙ ap (λ o. choose o (acting p) (closing m)) h.2;
          by_next = enabled_then (event.Next p) ∙ ap (λ o. choose o (acting p) (choose (least_free m) (taking p) (closing m))) h.2;
        }

    pub step_closes : (p : ℕ) → get_or old.roster.held p None ≡ None → deed (event.Step p) m ≡ closing m
    step_closes p e = enabled_then (event.Step p) ∙ ap (λ o. choose o (acting p) (closing m)) (hand_none old.roster m live.roster p e)

    next_free : (p : ℕ) → get_or old.roster.held p None ≡ None → deed (event.Next p) m ≡ choose (least_free m) (taking p) (closing m)
    next_free p e = enabled_then (event.Next p) ∙ ap (λ o. choose o (acting p) (choose (least_free m) (taking p) (closing m))) (hand_none old.roster m live.roster p e)

    none_below : (i : ℕ) → AreTaken old.roster.taken i → (k : ℕ) → k < i → k < m.count → waiting k (m.tasks k) ≡ None
    none_below i all k lt there = no_wait k (m.tasks k) (sym (live.roster.taken k there) ∙ all k lt)

    pub next_closes : (p : ℕ) → get_or old.roster.held p None ≡ None → IsLeast old.roster.taken old.roster.count None → deed (event.Next p) m ≡ closing m
    next_closes p e least = next_free p e ∙
        ap (λ o. choose o (taking p) (closing m)) (no_first (λ k. waiting k (m.tasks k)) m.count (λ k lt. none_below old.roster.count least k (subst (λ n. k < n) (sym live.roster.count) lt) lt))

    pub record TakesLeast (p i : ℕ) : Type 0 where
      pub at : Frame
      pub free : IsFree side old m p i at
      pub by_next : deed (event.Next p) m ≡ Takes p i at

    pub takes_least : (p i : ℕ) → get_or old.roster.held p None ≡ None → IsLeast old.roster.taken old.roster.count (Some i) → TakesLeast p i
    takes_least p i e least =
        let there : i < m.count = subst (λ n. i < n) live.roster.count least.0 in
        let w = waits (m.tasks i) (sym (live.roster.taken i there) ∙ least.1) in
        record {
          at = w.0;
          free = record { hand = e; there = there; waits = w.1 };
          by_next = next_free p e ∙ ap (λ o. choose o (taking p) (closing m)) (first_at (λ k. waiting k (m.tasks k)) m.count i (i, w.0) there
              (λ k lt. none_below i least.2 k lt (omega (arith, lt, there))) (ap (waiting i) w.1));
        }

-- ---- from the parts of a deed to the deed
-- `Comes` over what it asks of the engine before
record ComesAt {F : Type 0} (side : Ghosts F) (d : DeedOf Frame) (m : State) (answer : Effect) (new : Engine F side) (code : Code) (records : InputRecords) (old : F) : Type 0 where
  code_same : new.code ≡ code
  records_same : new.records ≡ records
  v : ℤ
  made : Made side (call (act code) (entry_of code) (exit_of code) d m) old v new.side
  stays : Stays side old new.side
  stands : Ties side new (done (act code) (entry_of code) (exit_of code) v d m)
  effect : answer ≡ told (act code) (entry_of code) (exit_of code) d m (is_there side old d)

module _ {F : Type 0} (side : Ghosts F) (old mid : Engine F side) (same_code : mid.code ≡ old.code) (same_records : mid.records ≡ old.records) (same_side : mid.side ≡ old.side) where
  -- what an engine does that stands as another does, the other does
  pub from_mid : (d : DeedOf Frame) (m : State) (answer : Effect) (new : Engine F side) → DoesDeed side d m mid answer new → DoesDeed side d m old answer new
  from_mid d m answer new c = back (subst (λ f. ComesAt side d m answer new old.code old.records f) same_side (subst (λ r. ComesAt side d m answer new old.code r mid.side) same_records (subst (λ k. ComesAt side d m answer new k mid.records mid.side) same_code (there c))))
    where
      there : DoesDeed side d m mid answer new → ComesAt side d m answer new mid.code mid.records mid.side
      there c = record { code_same = c.code; records_same = c.records; v = c.v; made = c.made; stays = c.stays; stands = c.stands; effect = c.effect }

      back : ComesAt side d m answer new old.code old.records old.side → DoesDeed side d m old answer new
      back c = record { code = c.code_same; records = c.records_same; v = c.v; made = c.made; stays = c.stays; stands = c.stands; effect = c.effect }

  same_ready : (m : State) → IsReady side old m → IsReady side mid m
  same_ready m r = record {
    tasks = λ live i lt. subst (λ k. CanGo k (m.tasks i)) (sym same_code) (r.tasks live i lt);
    entries = λ number. subst (λ k. IsWrittenList (side.made mid.side) (entry_of k number)) (sym same_code) (subst (λ f. IsWrittenList (side.made f) (entry_of old.code number)) (sym same_side) (r.entries number));
    exits = λ number. subst (λ k. IsWrittenList (side.made mid.side) (exit_of k number)) (sym same_code) (subst (λ f. IsWrittenList (side.made f) (exit_of old.code number)) (sym same_side) (r.exits number));
  }

  pub same_free : mid.roster.held ≡ old.roster.held → (m : State) (p i : ℕ) (at : Frame) → IsFree side old m p i at → IsFree side mid m p i at
  same_free held m p i at free = record { hand = ap (λ l. get_or l p None) held ∙ free.hand; there = free.there; waits = free.waits }

  -- another place from which the least free task is looked for changes nothing
  pub same_can : (m : State) → parts_of side mid ≡ record (parts_of side old) { roster = mid.roster } → mid.roster.count ≡ old.roster.count → mid.roster.taken ≡ old.roster.taken → mid.roster.held ≡ old.roster.held
      → CanApply side old m → CanApply side mid m
  same_can m parts count taken held can = record {
    ties = ties_by side mid m (side.procs old.side) (record (parts_of side old) { roster = mid.roster }) (ap side.procs same_side) parts (record {
      phase = can.ties.phase;
      live = λ l. keeps (can.ties.live l);
      steps = can.ties.steps;
      boundaries = can.ties.boundaries;
    });
    ready = same_ready m can.ready;
    live = λ o. can.live (subst is_over (ap (λ (x : Parts). x.epoch) parts) o);
  }
    where
      keeps : Live side old m → LiveAt (record (parts_of side old) { roster = mid.roster }) m
      keeps l = record {
        count = l.count;
        roster = record {
          count = count ∙ l.roster.count;
          taken = λ i lt. ap (λ x. get_or x i true) taken ∙ l.roster.taken i lt;
          holds = λ p i e. l.roster.holds p i (ap (λ x. get_or x p None) (sym held) ∙ e);
          is_held = λ p i lt e. let h = l.roster.is_held p i lt e in (subst (λ x. p < length x) (sym held) h.0, ap (λ x. get_or x p None) held ∙ h.1);
        };
        tasks = l.tasks;
        fault = l.fault;
      }

-- an instruction is counted before it is carried out
abbrev pub with_count : State → (p : ℕ) → State
with_count m p = record m { steps = with_at m.steps p (one_more (m.steps p)) }

module _ {F : Type 0} (side : Ghosts F) (old mid : Engine F side) (m : State) (p : ℕ) where
  pub counted_can : (same_code : mid.code ≡ old.code) (same_records : mid.records ≡ old.records) (same_side : mid.side ≡ old.side) → mid.steps ≡ set old.steps p (one_more (get_or old.steps p 0)) → parts_of side mid ≡ record (parts_of side old) { steps = mid.steps }
      → p < side.procs old.side → length old.steps ≡ side.procs old.side → CanApply side old m → CanApply side mid (with_count m p)
  counted_can same_code same_records same_side steps parts lt size can = record {
    ties = ties_by side mid (with_count m p) (side.procs old.side) later (ap side.procs same_side) (parts ∙ ap (λ l. record (parts_of side old) { steps = l }) steps) (record {
      phase = can.ties.phase;
      live = λ l. keeps (can.ties.live l);
      steps = everywhere (λ q n. q < side.procs old.side → get_or (set old.steps p (one_more (get_or old.steps p 0))) q 0 ≡ n) m.steps p (one_more (m.steps p))
          (λ l. get_or-set_same old.steps p (one_more (get_or old.steps p 0)) 0 (subst (λ n. p < n) (sym size) lt) ∙ ap one_more (can.ties.steps p lt))
          (λ q ne l. get_or-set_other old.steps p q (one_more (get_or old.steps p 0)) 0 ne ∙ can.ties.steps q l);
      boundaries = can.ties.boundaries;
    });
    ready = let r = same_ready side old mid same_code same_records same_side m can.ready in record { tasks = r.tasks; entries = r.entries; exits = r.exits };
    live = λ o. can.live (subst is_over (ap (λ (x : Parts). x.epoch) parts) o);
  }
    where
      later : Parts
      later = record (parts_of side old) { steps = set old.steps p (one_more (get_or old.steps p 0)) }

      keeps : Live side old m → LiveAt later (with_count m p)
      keeps l = record {
        count = l.count;
        roster = record { count = l.roster.count; taken = l.roster.taken; holds = l.roster.holds; is_held = l.roster.is_held };
        tasks = l.tasks;
        fault = by_fault old.fault l.fault;
      }
        where
          by_fault : (f : Option Faulting) → FaultTied old.code old.records.records old.serial old.lanes.items f m → FaultTied old.code old.records.records old.serial old.lanes.items f (with_count m p)
          by_fault None h = h
          by_fault (Some least) h = h

  -- what was done behind the count is what the machine does
  pub counted : (i : ℕ) (at : Frame) (same_code : mid.code ≡ old.code) (same_records : mid.records ≡ old.records) (same_side : mid.side ≡ old.side) (answer : Effect) (new : Engine F side) → DoesAct side p i at (with_count m p) mid answer new → DoesDeed side (Acts p i at) m old answer new
  counted i at same_code same_records same_side answer new a = from_mid side old mid same_code same_records same_side (Acts p i at) m answer new (record { code = a.code; records = a.records; v = a.v; made = a.made; stays = a.stays; stands = a.stands; effect = a.effect })

pub held_counted : (m : State) (p q i : ℕ) (at : Frame) → IsHeld m p i at → IsHeld (with_count m q) p i at
held_counted m p q i at h = record { there = h.there; runs = h.runs }

-- a line is dropped, or was not there
module _ {F : Type 0} (side : Ghosts F) (old new : Engine F side) (m : State) (can : CanApply side old m) where
  pub drops : (p line : ℕ) (answer : Effect) → new.code ≡ old.code → new.records ≡ old.records → parts_of side new ≡ parts_of side old → Stays side old.side new.side → side.evicts old.side p line new.side
      → answer ≡ (if side.present old.side p line then effect.Dropped else effect.Idle) → DoesDeed side (Drops p line) m old answer new
  drops p line answer code records parts stays made told = record {
    code = code;
    records = records;
    v = pos 0;
    made = made;
    stays = stays;
    stands = ties_by side new m (side.procs old.side) (parts_of side old) stays.procs parts (ties_at side old m can.ties);
    effect = told;
  }

-- a task that is held goes on or ends
pub held_goes : {F : Type 0} (side : Ghosts F) (old : Engine F side) (m : State) (can : CanApply side old m) (p i : ℕ) (at : Frame) → IsHeld m p i at → GoesOn old.code at
held_goes side old m can p i at held = subst (CanGo old.code) held.runs (can.ready.tasks (go old.epoch m.phase can.ties.phase can.live) i held.there)
  where
    go : (x : Epoch) (phase : PhaseOf Frame) → PhaseTied old.code old.records.records old.serial old.lanes.items x phase → (is_over x → ⊥) → IsOver phase → ⊥
    go x Serial t l o = o
    go x (Doall number next) t l o = o
    go epoch.Over (Over end) t l o = l tt
    go x (Over end) t l o = t

-- a task that is held where no DOALL is open is the one of a serial epoch
module _ {F : Type 0} (side : Ghosts F) (old : Engine F side) (m : State) (can : CanApply side old m) (p i : ℕ) (at : Frame) (held : IsHeld m p i at) (none : (fork : Fork) → old.epoch ≡ epoch.Doall fork → ⊥) where
  pub in_serial : old.epoch ≡ epoch.Serial
  in_serial = go old.epoch refl (subst (TaskTied old.code old.records.records old.serial old.lanes.items old.epoch i) held.runs ((can.ties.live can.live).tasks i held.there))
    where
      go : (x : Epoch) → old.epoch ≡ x → TaskTied old.code old.records.records old.serial old.lanes.items x i (Running p at) → x ≡ epoch.Serial
      go epoch.Serial e t = refl
      go (epoch.Forked fork) e t = absurd t
      go (epoch.Doall fork) e t = absurd (none fork e)
      go epoch.Over e t = absurd (can.live (subst is_over (sym e) tt))

  pub is_first : i ≡ 0
  is_first = let one : m.count ≡ 1 = subst (λ e. CountTied e m.count) in_serial (can.ties.live can.live).count in omega (arith, one, held.there)
