-- A processor takes a task.
use Rattle.std.proofs.Common.{◌≡◌, ◌≢◌, ℕ, ◌<◌, pos, ◌+ℤ◌, ◌*ℤ◌, List, [], ◌∷◌, length, get_or, set, true, Option, Some, None, ◌⊎◌, inl, inr, refl, sym, ap, ◌∙◌, subst, arith, zero, suc, length-set}
use Rattle.std.specs.Prelude.{slice_get}
use Rattle.std.proofs.lemmas.Bool.{cases_eq}
use Rattle.std.proofs.lemmas.List.{get_or-set_same, get_or-set_other}
use Rattle.cdc_prog.specs.Input.{Input}
use Rattle.cdc_prog.specs.declared.fault.Fault.{Fault}
use Rattle.cdc_code.specs.declared.code.Code.{Code}
use Rattle.cdc_code.specs.Frames.{Frame}
use Rattle.cdc_code.specs.Rows.{act}
use Rattle.cdc_fabric.specs.declared.fabric.Fabric.{Ghosts}
use Rattle.cdc_task.specs.Held.{Held, frame_of, begun}
use Rattle.cdc_machine.specs.declared.effect.Effect.TheVariants as effect
use Rattle.cdc_machine.specs.Machine.{TaskOf, Waiting, Running, Ended, PhaseOf, Serial, Doall, Over, with_at, task_fault, Takes}
use Rattle.cdc_machine.specs.Code.{State, entry_of, exit_of}
use Rattle.cdc_machine.proofs.Updates.{at_place, elsewhere, everywhere}
use Rattle.cdc_epoch.specs.declared.engine.Engine.{Engine}
use Rattle.cdc_epoch.specs.declared.engine.Epoch.{Epoch}
use Rattle.cdc_epoch.specs.declared.engine.Epoch.TheVariants as epoch
use Rattle.cdc_epoch.specs.declared.engine.Fork.{Fork}
use Rattle.cdc_epoch.specs.declared.engine.Faulting.{Faulting}
use Rattle.cdc_epoch.specs.declared.roster.Roster.{Roster}
use Rattle.cdc_epoch.specs.Ties.{was_taken, holder, Keeps, index_of, PhaseTied, TaskTied, FaultTied, Live, CanApply, IsFree, DoesDeed}
use Rattle.cdc_epoch.proofs.Keeping.{with_task}
use Rattle.cdc_epoch.proofs.Ports.{stays_same}
use Rattle.cdc_epoch.proofs.Acting.{parts_of}
use Rattle.cdc_epoch.proofs.Coming.{Becomes, came}

got_here : {A : Type 0} (xs : List A) (s : ℕ) (v : A) → s < length xs → slice_get (set xs s v) s ≡ Some v
got_here [] s v lt = absurd (omega arith)
got_here (x ∷ xs) zero v lt = refl
got_here (x ∷ xs) (suc s) v lt = got_here xs s v (omega arith)

got_else : {A : Type 0} (xs : List A) (s t : ℕ) (v : A) → t ≢ s → slice_get (set xs s v) t ≡ slice_get xs t
got_else [] s t v apart = refl
got_else (x ∷ xs) zero zero v apart = absurd (apart refl)
got_else (x ∷ xs) zero (suc t) v apart = refl
got_else (x ∷ xs) (suc s) zero v apart = refl
got_else (x ∷ xs) (suc s) (suc t) v apart = got_else xs s t v (λ e. apart (ap suc e))

-- ---- the roster
-- p took task i
pub record HasTaken (r s : Roster) (p i : ℕ) : Type 0 where
  pub count : s.count ≡ r.count
  pub taken : s.taken ≡ set r.taken i true
  pub held : s.held ≡ set r.held p (Some i)

module _ (r s : Roster) (m : State) (p i : ℕ) (at : Frame) (k : Keeps r m) (there : p < length r.held) (hand : get_or r.held p None ≡ None) (lt : i < m.count) (waits : m.tasks i ≡ Waiting at) (takes : HasTaken r s p i) where
  here_taken : get_or s.taken i true ≡ true
  here_taken = let within : i < length r.taken = omega (arith, r.room, k.count) in ap (λ x. get_or x i true) takes.taken ∙ get_or-set_same r.taken i true true within

  here_held : get_or s.held p None ≡ Some i
  here_held = ap (λ x. get_or x p None) takes.held ∙ get_or-set_same r.held p (Some i) None there

  else_held : (q : ℕ) → q ≢ p → get_or s.held q None ≡ get_or r.held q None
  else_held q ne = ap (λ x. get_or x q None) takes.held ∙ get_or-set_other r.held p q (Some i) None ne

  is_its_holder : (q j : ℕ) → get_or s.held q None ≡ Some j → (j < m.count) × (holder (with_at m.tasks i (Running p at) j) ≡ Some q)
  is_its_holder q j e = by_hand (cases_eq q p)
    where
      by_hand : (q ≡ p) ⊎ (q ≡ p → ⊥) → (j < m.count) × (holder (with_at m.tasks i (Running p at) j) ≡ Some q)
      by_hand (inl same) =
          let both : Some i ≡ Some j = sym here_held ∙ ap (λ x. get_or s.held x None) (sym same) ∙ e in
          let number : i ≡ j = cc in
          (subst (λ x. x < m.count) number lt, ap (λ x. holder (with_at m.tasks i (Running p at) x)) (sym number) ∙ ap holder (at_place m.tasks i (Running p at)) ∙ ap Some (sym same))
      by_hand (inr ne) =
          let h = k.holds q j (sym (else_held q ne) ∙ e) in
          let apart : j ≢ i = λ same. (let none : None ≡ Some q = ap holder (sym waits) ∙ ap (λ x. holder (m.tasks x)) (sym same) ∙ h.1 in cc) in
          (h.0, ap holder (elsewhere m.tasks i (Running p at) j apart) ∙ h.1)

  others_hand : (q j : ℕ) → get_or r.held q None ≡ Some j → q ≢ p
  others_hand q j e same = let none : None ≡ Some j = sym hand ∙ ap (λ x. get_or r.held x None) (sym same) ∙ e in cc

  pub keeps_taken : Keeps s (with_task m i (Running p at))
  keeps_taken = record {
    count = takes.count ∙ k.count;
    taken = everywhere (λ j u. j < m.count → get_or s.taken j true ≡ was_taken u) m.tasks i (Running p at) (λ l. here_taken)
        (λ j ne l. ap (λ x. get_or x j true) takes.taken ∙ get_or-set_other r.taken i j true true ne ∙ k.taken j l);
    holds = is_its_holder;
    is_held = λ q. everywhere (λ j u. j < m.count → holder u ≡ Some q → (q < length s.held) × (get_or s.held q None ≡ Some j)) m.tasks i (Running p at)
        (λ l e. let same : p ≡ q = cc in subst (λ x. (x < length s.held) × (get_or s.held x None ≡ Some i)) same (subst (λ x. p < length x) (sym takes.held) (omega (arith, length-set r.held p (Some i))), here_held))
        (λ j ne l e. let h = k.is_held q j l e in (subst (λ x. q < length x) (sym takes.held) (omega (arith, h.0, length-set r.held p (Some i))), else_held q (others_hand q j h.1) ∙ h.1));
  }

-- ---- the tasks
module _ (code : Code) (records : Input) (serial : Held) (lanes : List Held) (m : State) (p i : ℕ) (at : Frame) (waits : m.tasks i ≡ Waiting at) where
  abbrev TasksTied : Epoch → List Held → (ℕ → TaskOf Frame) → Type 0
  TasksTied e lanes tasks = (j : ℕ) → j < m.count → TaskTied code records serial lanes e j (tasks j)

  abbrev taken : ℕ → TaskOf Frame
  taken = with_at m.tasks i (Running p at)

  -- where iterations are not held in lanes
  abbrev IsPlain : Epoch → Type 0
  IsPlain (epoch.Doall fork) = ⊥
  IsPlain e = Unit {0}

  pub serial_taken : (e : Epoch) → IsPlain e → i < m.count → TasksTied e lanes m.tasks → TasksTied e lanes taken
  serial_taken e plain lt tied = everywhere (λ j u. j < m.count → TaskTied code records serial lanes e j u) m.tasks i (Running p at)
      (λ l. here e plain (subst (TaskTied code records serial lanes e i) waits (tied i lt))) (λ j ne. tied j)
    where
      here : (e : Epoch) → IsPlain e → TaskTied code records serial lanes e i (Waiting at) → TaskTied code records serial lanes e i (Running p at)
      here epoch.Serial plain h = h
      here (epoch.Forked fork) plain h = absurd h
      here (epoch.Doall fork) plain h = absurd plain
      here epoch.Over plain h = tt

  -- the iteration begins in its processor's lane
  pub iteration_taken : (fork : Fork) (lane : Held) (after : List Held) → ((path : List ℕ) → frame_of path records lane ≡ begun path records serial (index_of code records serial lanes fork i))
      → slice_get after p ≡ Some lane → ((q : ℕ) → q ≢ p → slice_get after q ≡ slice_get lanes q)
      → ((q j : ℕ) → j < m.count → holder (m.tasks j) ≡ Some q → q ≢ p) → i < m.count → TasksTied (epoch.Doall fork) lanes m.tasks → TasksTied (epoch.Doall fork) after taken
  iteration_taken fork lane after begins there others apart lt tied = everywhere (λ j u. j < m.count → TaskTied code records serial after (epoch.Doall fork) j u) m.tasks i (Running p at)
      (λ l. (lane, there, begins at.kept.path ∙ subst (TaskTied code records serial lanes (epoch.Doall fork) i) waits (tied i lt))) (λ j ne l. stays j (m.tasks j) (λ q e. apart q j l e) (tied j l))
    where
      stays : (j : ℕ) (t : TaskOf Frame) → ((q : ℕ) → holder t ≡ Some q → q ≢ p) → TaskTied code records serial lanes (epoch.Doall fork) j t → TaskTied code records serial after (epoch.Doall fork) j t
      stays j (Waiting f) ne h = h
      stays j (Running q f) ne h = (h.0, others q (ne q refl) ∙ h.1, h.2)
      stays j (Ended q f) ne h = tt

  abbrev fault_of_task : TaskOf Frame → Option Fault
  fault_of_task = task_fault (act code) (entry_of code) (exit_of code)

  faults_same : (j : ℕ) → fault_of_task (taken j) ≡ fault_of_task (m.tasks j)
  faults_same = everywhere (λ j u. fault_of_task u ≡ fault_of_task (m.tasks j)) m.tasks i (Running p at) (ap fault_of_task (sym waits)) (λ j ne. refl)

  -- nobody has faulted by it
  pub fault_taken : (least : Option Faulting) (after : List Held) → FaultTied code records serial lanes least m → FaultTied code records serial after least (with_task m i (Running p at))
  fault_taken None after h = λ j l. faults_same j ∙ h j l
  fault_taken (Some least) after h = (h.0, faults_same least.task ∙ h.1, λ j l. faults_same j ∙ h.2 j l)

  pub phase_taken : (e : Epoch) (phase : PhaseOf Frame) (after : List Held) → PhaseTied code records serial lanes e phase → PhaseTied code records serial after e phase
  phase_taken epoch.Serial Serial after h = tt
  phase_taken (epoch.Forked fork) Serial after h = tt
  phase_taken (epoch.Doall fork) (Doall number next) after h = h
  phase_taken epoch.Over (Over end) after h = tt
  phase_taken e phase after h = absurd h

-- ---- the engine
module _ {F : Type 0} (side : Ghosts F) (old : Engine F side) (m : State) (p i : ℕ) (at : Frame) (lt : p < side.procs old.side) (can : CanApply side old m) (free : IsFree side old m p i at) (roster : Roster)
    (takes : HasTaken old.roster roster p i) (new : Engine F side) where
  abbrev live : Live side old m
  live = can.ties.live can.live

  there : p < length old.roster.held
  there = subst (λ n. p < n) (sym old.hands) lt

  -- a processor that holds a task is another
  apart : (q j : ℕ) → j < m.count → holder (m.tasks j) ≡ Some q → q ≢ p
  apart q j l e same = let none : None ≡ Some j = sym free.hand ∙ ap (λ x. get_or old.roster.held x None) (sym same) ∙ (live.roster.is_held q j l e).1 in cc

  holds_in : (lanes : List Held) → Becomes side old new old.side (record (parts_of side old) { roster = roster; lanes = lanes })
      → ((j : ℕ) → j < m.count → TaskTied old.code old.records.records old.serial lanes old.epoch j (with_at m.tasks i (Running p at) j)) → DoesDeed side (Takes p i at) m old effect.Took new
  holds_in lanes same tasks = came side None (λ v. with_task m i (Running p at)) effect.Took old effect.Took new old.side (record (parts_of side old) { roster = roster; lanes = lanes }) same
      (pos 0) refl (stays_same side old.side)
      (record {
        phase = phase_taken old.code old.records.records old.serial old.lanes.items m p i at free.waits old.epoch m.phase lanes can.ties.phase;
        live = λ o. record {
          count = live.count;
          roster = keeps_taken old.roster roster m p i at live.roster there free.hand free.there free.waits takes;
          tasks = tasks;
          fault = fault_taken old.code old.records.records old.serial old.lanes.items m p i at free.waits old.fault lanes live.fault;
        };
        steps = can.ties.steps;
        boundaries = can.ties.boundaries;
      }) refl

  -- the task of a serial epoch
  pub holds_serial : Becomes side old new old.side (record (parts_of side old) { roster = roster }) → ((fork : Fork) → old.epoch ≡ epoch.Doall fork → ⊥) → DoesDeed side (Takes p i at) m old effect.Took new
  holds_serial same serial = holds_in old.lanes.items same (serial_taken old.code old.records.records old.serial old.lanes.items m p i at free.waits old.epoch (plain old.epoch serial) free.there live.tasks)
    where
      plain : (e : Epoch) → ((fork : Fork) → e ≡ epoch.Doall fork → ⊥) → IsPlain old.code old.records.records old.serial old.lanes.items m p i at free.waits e
      plain epoch.Serial n = tt
      plain (epoch.Forked fork) n = tt
      plain (epoch.Doall fork) n = n fork refl
      plain epoch.Over n = tt

  -- an iteration, which begins in the processor's lane
  pub holds_iteration : (fork : Fork) (lane : Held) → old.epoch ≡ epoch.Doall fork → Becomes side old new old.side (record (parts_of side old) { roster = roster; lanes = set old.lanes.items p lane })
      → ((path : List ℕ) (records : Input) → frame_of path records lane ≡ begun path records old.serial (fork.from +ℤ (pos i *ℤ fork.by))) → DoesDeed side (Takes p i at) m old effect.Took new
  holds_iteration fork lane is same begins = holds_in (set old.lanes.items p lane) same
      (subst (λ (e : Epoch). (j : ℕ) → j < m.count → TaskTied old.code old.records.records old.serial (set old.lanes.items p lane) e j (with_at m.tasks i (Running p at) j)) (sym is)
      (iteration_taken old.code old.records.records old.serial old.lanes.items m p i at free.waits fork lane (set old.lanes.items p lane) (λ path. begins path old.records.records) in_lane
      (λ q ne. got_else old.lanes.items p q lane ne) apart free.there
      (subst (λ (e : Epoch). (j : ℕ) → j < m.count → TaskTied old.code old.records.records old.serial old.lanes.items e j (m.tasks j)) is live.tasks)))
    where
      in_lane : slice_get (set old.lanes.items p lane) p ≡ Some lane
      in_lane = got_here old.lanes.items p lane (omega (arith, old.laned, lt, old.lanes.ok.0))
