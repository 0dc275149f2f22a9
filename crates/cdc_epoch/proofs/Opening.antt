-- What comes after a complete epoch: the iterations that were forked, the serial task after them, or the end.
use Rattle.std.proofs.Common.{◌≡◌, ℕ, ◌<◌, ◌≤◌, ◌^◌, ℤ, pos, ◌+ℤ◌, ◌*ℤ◌, List, get_or, true, false, Option, Some, None, refl, sym, ap, ◌∙◌, subst, arith}
use Rattle.cdc_base.specs.Numbers.{one_more}
use Rattle.cdc_prog.specs.Input.{Input}
use Rattle.cdc_prog.specs.InOrder.{choose}
use Rattle.cdc_prog.specs.declared.fault.Fault.{Fault}
use Rattle.cdc_code.specs.Act.{Act, Goes, Reads, Writes, Prints, Forks, Joins, Halts, Faults, Stuck}
use Rattle.cdc_code.specs.Frames.{Frame}
use Rattle.cdc_code.specs.Rows.{act}
use Rattle.cdc_fabric.specs.Calls.{Call, Boundary}
use Rattle.cdc_fabric.specs.declared.fabric.Fabric.{Ghosts}
use Rattle.cdc_task.specs.declared.end.StepEnd.TheVariants.{Forked as HasForked}
use Rattle.cdc_task.specs.Held.{Held, StandsIn, resumed, begun}
use Rattle.cdc_prog.specs.Trips.{HasIndexes}
use Rattle.cdc_task.specs.Steps.{Quiet}
use Rattle.cdc_machine.specs.declared.effect.Effect.TheVariants as effect
use Rattle.cdc_machine.specs.Machine.{Ended, PhaseOf, Serial, Doall, Over, Closes, opened, stopped, fault_by, task_fault, least_fault, fork_call_by, fork_call, closing_call, forked_by, forked, closed, closing_effect}
use Rattle.cdc_machine.specs.Code.{State, entry_of, exit_of}
use Rattle.cdc_epoch.specs.declared.engine.Engine.{Engine}
use Rattle.cdc_epoch.specs.declared.engine.Epoch.{Epoch}
use Rattle.cdc_epoch.specs.declared.engine.Epoch.TheVariants as epoch
use Rattle.cdc_epoch.specs.declared.engine.Fork.{Fork}
use Rattle.cdc_epoch.specs.declared.engine.Faulting.{Faulting}
use Rattle.cdc_epoch.specs.declared.roster.Roster.{Roster}
use Rattle.cdc_epoch.specs.Side.{Stays, Made}
use Rattle.cdc_epoch.specs.Ties.{holder, Keeps, PhaseTied, TaskTied, FaultTied, CountTied, Live, CanApply, AllEnded, DoesDeed}
use Rattle.cdc_epoch.proofs.Ports.{stays_same}
use Rattle.cdc_epoch.proofs.FewForks.{few_forks}
use Rattle.cdc_epoch.proofs.Acting.{Parts, parts_of, TiesAt}
use Rattle.cdc_epoch.proofs.Applies.{no_first, first_at}
use Rattle.cdc_epoch.proofs.Coming.{Becomes, came}

-- ---- the roster
-- nobody holds a task of a complete epoch
pub nobody : (r : Roster) (m : State) → Keeps r m → AllEnded m → (p i : ℕ) → get_or r.held p None ≡ Some i → ⊥
nobody r m k ended p i e =
    let h = k.holds p i e in
    let there = ended i h.0 in
    let none : None ≡ Some p = sym (ap holder there.2) ∙ h.1 in
    cc

-- so many tasks, which nobody has taken
pub record HasOpened (r s : Roster) (many : ℕ) : Type 0 where
  pub count : s.count ≡ many
  pub free : (i : ℕ) → i < many → get_or s.taken i true ≡ false
  pub held : s.held ≡ r.held

keeps_opened : (r s : Roster) (m : State) (phase : PhaseOf Frame) (count : ℕ) (begin : ℕ → Frame) → Keeps r m → AllEnded m → HasOpened r s count → Keeps s (opened phase count begin m)
keeps_opened r s m phase count begin k ended o = record {
  count = o.count;
  taken = o.free;
  holds = λ p i e. absurd (nobody r m k ended p i (ap (λ x. get_or x p None) (sym o.held) ∙ e));
  is_held = λ p i l e. absurd (cc);
}

-- ---- a fork
-- a task has forked, and its iterations begin as the fork says
record HasForkedTo (records : Input) (a : Act Frame) (fork : Fork) (serial : Held) : Type 0 where
  path : List ℕ
  body : ℕ → Frame
  next : Frame
  is : a ≡ Forks path fork.number fork.count fork.from fork.by body next
  after : StandsIn records (resumed serial) next
  begins : (j : ℕ) → begun path records serial (fork.from +ℤ (pos j *ℤ fork.by)) ≡ body j
  indexes : HasIndexes fork.count fork.from fork.by

forked_to : (records : Input) (a : Act Frame) (fork : Fork) (serial : Held) → Quiet records a (HasForked fork.number fork.count fork.from fork.by) serial → HasForkedTo records a fork serial
forked_to records (Goes g) fork serial h = absurd h
forked_to records (Reads path site mark word next) fork serial h = absurd h
forked_to records (Writes path site word v g) fork serial h = absurd h
forked_to records (Prints piece g) fork serial h = absurd h
forked_to records Joins fork serial h = absurd h
forked_to records Halts fork serial h = absurd h
forked_to records (Faults kind line) fork serial h = absurd h
forked_to records Stuck fork serial h = absurd h
forked_to records (Forks path number count from by body next) fork serial h = record {
  path = path;
  body = body;
  next = next;
  is = cc;
  after = h.4;
  begins = subst (λ (x : ℤ). (j : ℕ) → begun path records serial (x +ℤ (pos j *ℤ fork.by)) ≡ body j) (sym h.2)
      (subst (λ (x : ℤ). (j : ℕ) → begun path records serial (from +ℤ (pos j *ℤ x)) ≡ body j) (sym h.3) h.5);
  indexes = subst (λ (k : ℕ). HasIndexes k fork.from fork.by) (sym h.1) (subst (λ (x : ℤ). HasIndexes count x fork.by) (sym h.2) (subst (λ (x : ℤ). HasIndexes count from x) (sym h.3) h.6));
}

-- ---- the engine
-- a boundary was called with this list, and counted
pub record HasBoundary {F : Type 0} (side : Ghosts F) (old : Engine F side) (written : List ℕ) (f : F) (boundaries : ℕ) : Type 0 where
  pub made : side.bounds old.side written f
  pub stays : Stays side old.side f
  pub counted : boundaries ≡ one_more old.boundaries

module _ {F : Type 0} (side : Ghosts F) (old : Engine F side) (m : State) (can : CanApply side old m) (ended : AllEnded m) where
  abbrev live : Live side old m
  live = can.ties.live can.live

  abbrev look : Frame → Act Frame
  look = act old.code

  abbrev entry : ℕ → List ℕ
  entry = entry_of old.code

  abbrev exit : ℕ → List ℕ
  exit = exit_of old.code

  -- ---- the iterations of a fork begin
  module _ (fork : Fork) (is : old.epoch ≡ epoch.Forked fork) where
    one : m.count ≡ 1
    one = subst (λ (e : Epoch). CountTied e m.count) is live.count

    last : (p : ℕ) × (at : Frame) × (m.tasks 0 ≡ Ended p at)
    last = ended 0 (omega (arith, one))

    has_forked : HasForkedTo old.records.records (act old.code last.1) fork old.serial
    has_forked =
        let tied = live.tasks 0 (omega (arith, one)) in
        let tied = subst (TaskTied old.code old.records.records old.serial old.lanes.items old.epoch 0) last.2 tied in
        forked_to old.records.records (act old.code last.1) fork old.serial (subst (λ (e : Epoch). TaskTied old.code old.records.records old.serial old.lanes.items e 0 (Ended last.0 last.1)) is tied)

    pub few_opened : fork.count ≤ 2 ^ 20
    few_opened = few_forks old.code last.1 has_forked.path fork.number fork.count fork.from fork.by has_forked.body has_forked.next has_forked.is

    is_serial : (phase : PhaseOf Frame) → PhaseTied old.code old.records.records old.serial old.lanes.items (epoch.Forked fork) phase → phase ≡ Serial
    is_serial Serial h = refl
    is_serial (Doall number next) h = absurd h
    is_serial (Over end) h = absurd h

    phase : m.phase ≡ Serial
    phase = is_serial m.phase (subst (λ (e : Epoch). PhaseTied old.code old.records.records old.serial old.lanes.items e m.phase) is can.ties.phase)

    module _ (new : Engine F side) (f : F) (roster : Roster) (boundaries : ℕ) where
      abbrev to : State
      to = opened (Doall fork.number has_forked.next) fork.count has_forked.body m

      call_is : closing_call look entry exit m.phase m ≡ Some (Boundary (entry fork.number))
      call_is = ap (λ x. closing_call look entry exit x m) phase ∙ ap (fork_call look entry exit) last.2 ∙ ap (fork_call_by look entry exit) has_forked.is

      done_is : closed look entry exit m.phase m ≡ to
      done_is = ap (λ x. closed look entry exit x m) phase ∙ ap (λ t. forked look entry exit t m) last.2 ∙ ap (λ a. forked_by look entry exit a m) has_forked.is

      told_is : closing_effect look entry exit m.phase m ≡ effect.Boundary
      told_is = ap (λ x. closing_effect look entry exit x m) phase

      no_fault : (least : Option Faulting) → FaultTied old.code old.records.records old.serial old.lanes.items least m → FaultTied old.code old.records.records old.serial old.lanes.items least to
      no_fault None h = λ i l. refl
      no_fault (Some least) h =
          let first : least.task ≡ 0 = omega (arith, h.0, one) in
          let none : task_fault look entry exit (m.tasks least.task) ≡ None = ap (λ x. task_fault look entry exit (m.tasks x)) first ∙ ap (task_fault look entry exit) last.2 ∙ ap fault_by has_forked.is in
          let both : None ≡ Some least.fault = sym none ∙ h.1 in
          absurd (cc)

      path_of : (j : ℕ) → has_forked.path ≡ (has_forked.body j).kept.path
      path_of j = ap (λ (x : Frame). x.kept.path) (has_forked.begins j)

      abbrev begun_on : Parts
      begun_on = record (parts_of side old) { roster = roster; epoch = epoch.Doall fork; boundaries = boundaries }

      ties : HasOpened old.roster roster fork.count → HasBoundary side old (entry fork.number) f boundaries → TiesAt (side.procs f) begun_on to
      ties opens bound = record {
        phase = (refl, has_forked.after, has_forked.indexes);
        live = λ o. record {
          count = refl;
          roster = keeps_opened old.roster roster m (Doall fork.number has_forked.next) fork.count has_forked.body live.roster ended opens;
          tasks = λ i l. ap (λ (path : List ℕ). begun path old.records.records old.serial (fork.from +ℤ (pos i *ℤ fork.by))) (sym (path_of i)) ∙ has_forked.begins i;
          fault = no_fault old.fault live.fault;
        };
        steps = λ p l. can.ties.steps p (subst (λ x. p < x) bound.stays.procs l);
        boundaries = bound.counted ∙ ap one_more can.ties.boundaries;
      }

      pub opens_doall : Becomes side old new f begun_on → HasOpened old.roster roster fork.count → HasBoundary side old (entry fork.number) f boundaries → DoesDeed side Closes m old effect.Boundary new
      opens_doall becomes opens bound =
          came side (closing_call look entry exit m.phase m) (λ v. closed look entry exit m.phase m) (closing_effect look entry exit m.phase m) old effect.Boundary new f begun_on becomes
          (pos 0) (subst (λ (c : Option Call). Made side c old.side (pos 0) f) (sym call_is) bound.made) bound.stays (subst (TiesAt (side.procs f) begun_on) (sym done_is) (ties opens bound)) (sym told_is)

  -- ---- a DOALL has ended
  module _ (fork : Fork) (is : old.epoch ≡ epoch.Doall fork) where
    -- what goes on after it
    record After (phase : PhaseOf Frame) : Type 0 where
      next : Frame
      in_doall : phase ≡ Doall fork.number next
      stands : StandsIn old.records.records (resumed old.serial) next

    after_of : (phase : PhaseOf Frame) → PhaseTied old.code old.records.records old.serial old.lanes.items (epoch.Doall fork) phase → After phase
    after_of Serial h = absurd h
    after_of (Doall number next) h = record { next = next; in_doall = ap (λ x. Doall x next) h.0; stands = h.1 }
    after_of (Over end) h = absurd h

    after : After m.phase
    after = after_of m.phase (subst (λ (e : Epoch). PhaseTied old.code old.records.records old.serial old.lanes.items e m.phase) is can.ties.phase)

    module _ (o : Option Fault) (least : least_fault look entry exit m ≡ o) where
      call_by : closing_call look entry exit m.phase m ≡ choose o (λ f. None) (Some (Boundary (exit fork.number)))
      call_by = ap (λ x. closing_call look entry exit x m) after.in_doall ∙ ap (λ x. choose x (λ f. None) (Some (Boundary (exit fork.number)))) least

      done_by : closed look entry exit m.phase m ≡ choose o (λ f. stopped f m) (opened Serial 1 (λ k. after.next) m)
      done_by = ap (λ x. closed look entry exit x m) after.in_doall ∙ ap (λ x. choose x (λ f. stopped f m) (opened Serial 1 (λ k. after.next) m)) least

      told_by : closing_effect look entry exit m.phase m ≡ choose o (λ f. effect.Faulted f.kind f.line) effect.Boundary
      told_by = ap (λ x. closing_effect look entry exit x m) after.in_doall ∙ ap (λ x. choose x (λ f. effect.Faulted f.kind f.line) effect.Boundary) least

    -- the machine ends with the fault of an iteration
    abbrev over : Parts
    over = record (parts_of side old) { epoch = epoch.Over }

    pub stops : (first : Faulting) (new : Engine F side) → old.fault ≡ Some first → Becomes side old new old.side over → DoesDeed side Closes m old (effect.Faulted first.fault.kind first.fault.line) new
    stops first new some becomes =
        let tied = subst (λ (x : Option Faulting). FaultTied old.code old.records.records old.serial old.lanes.items x m) some live.fault in
        let least : least_fault look entry exit m ≡ Some first.fault = first_at (λ k. task_fault look entry exit (m.tasks k)) m.count first.task first.fault tied.0 tied.2 tied.1 in
        let ties : TiesAt (side.procs old.side) over (stopped first.fault m) = record { phase = tt; live = λ o. absurd (o tt); steps = can.ties.steps; boundaries = can.ties.boundaries } in
        came side (closing_call look entry exit m.phase m) (λ v. closed look entry exit m.phase m) (closing_effect look entry exit m.phase m) old (effect.Faulted first.fault.kind first.fault.line) new old.side over becomes
        (pos 0) (subst (λ (c : Option Call). Made side c old.side (pos 0) old.side) (sym (call_by (Some first.fault) least)) refl) (stays_same side old.side)
        (subst (TiesAt (side.procs old.side) over) (sym (done_by (Some first.fault) least)) ties) (sym (told_by (Some first.fault) least))

    -- the serial task goes on
    module _ (new : Engine F side) (f : F) (serial : Held) (roster : Roster) (boundaries : ℕ) where
      abbrev gone_on : Parts
      gone_on = record (parts_of side old) { serial = serial; roster = roster; epoch = epoch.Serial; boundaries = boundaries }

      pub opens_serial : Becomes side old new f gone_on → old.fault ≡ None → serial ≡ resumed old.serial → HasOpened old.roster roster 1 → HasBoundary side old (exit fork.number) f boundaries → DoesDeed side Closes m old effect.Boundary new
      opens_serial becomes none goes opens bound =
          let tied = subst (λ (x : Option Faulting). FaultTied old.code old.records.records old.serial old.lanes.items x m) none live.fault in
          let least : least_fault look entry exit m ≡ None = no_first (λ k. task_fault look entry exit (m.tasks k)) m.count tied in
          let to : State = opened Serial 1 (λ k. after.next) m in
          let ties : TiesAt (side.procs f) gone_on to = record {
            phase = tt;
            live = λ o. record {
              count = refl;
              roster = keeps_opened old.roster roster m Serial 1 (λ k. after.next) live.roster ended opens;
              tasks = λ i l. subst (λ (h : Held). StandsIn old.records.records h after.next) (sym goes) after.stands;
              fault = subst (λ (x : Option Faulting). FaultTied old.code old.records.records serial old.lanes.items x to) (sym none) (λ i l. refl);
            };
            steps = λ p l. can.ties.steps p (subst (λ x. p < x) bound.stays.procs l);
            boundaries = bound.counted ∙ ap one_more can.ties.boundaries;
          } in
          came side (closing_call look entry exit m.phase m) (λ v. closed look entry exit m.phase m) (closing_effect look entry exit m.phase m) old effect.Boundary new f gone_on becomes
          (pos 0) (subst (λ (c : Option Call). Made side c old.side (pos 0) f) (sym (call_by None least)) bound.made) bound.stays
          (subst (TiesAt (side.procs f) gone_on) (sym (done_by None least)) ties) (sym (told_by None least))
