-- An instruction of an iteration leads the engine where it leads the machine.
use Rattle.std.proofs.Common.{◌≡◌, ◌≢◌, ℕ, ◌<◌, ◌⊎◌, inl, inr, ℤ, pos, List, [], ◌++◌, length, get_or, set, Option, Some, None, refl, sym, ap, ◌∙◌, subst, arith}
use Rattle.std.specs.List.{slice_get}
use Rattle.std.proofs.lemmas.List.{get_or-set_same, get_or-set_other, length-set}
use Rattle.std.proofs.lemmas.Option.{slice_get-get_or, get_or_from_slice_get, slice_get_within}
use Rattle.cdc_prog.specs.declared.fault.Fault.{Fault}
use Rattle.cdc_prog.specs.declared.piece.Piece.{Piece}
use Rattle.cdc_prog.specs.Input.{Input}
use Rattle.cdc_code.specs.declared.code.Code.{Code}
use Rattle.cdc_code.specs.Act.{Act, Forks, Joins, Halts, Faults}
use Rattle.cdc_code.specs.Frames.{Frame}
use Rattle.cdc_code.specs.Rows.{act}
use Rattle.cdc_fabric.specs.declared.fabric.Fabric.{Ghosts}
use Rattle.cdc_task.specs.declared.end.StepEnd.{StepEnd}
use Rattle.cdc_task.specs.declared.end.StepEnd.TheVariants.{Forked, Joined, Halted}
use Rattle.cdc_task.specs.Held.{Held, StandsIn, frame_of}
use Rattle.cdc_task.specs.Steps.{Stepped}
use Rattle.cdc_machine.specs.declared.effect.Effect.{Effect}
use Rattle.cdc_machine.specs.declared.effect.Effect.TheVariants as effect
use Rattle.cdc_machine.specs.Machine.{TaskOf, Waiting, Running, Ended, PhaseOf, Serial, Doall, Over, task_after, phase_after, said_by, task_fault, fault_by, call_by, act_effect}
use Rattle.cdc_machine.specs.Code.{State, entry_of, exit_of}
use Rattle.cdc_machine.proofs.Updates.{everywhere}
use Rattle.cdc_epoch.specs.declared.engine.Engine.{Engine}
use Rattle.cdc_epoch.specs.declared.engine.Epoch.TheVariants as epoch
use Rattle.cdc_epoch.specs.declared.engine.Fork.{Fork}
use Rattle.cdc_epoch.specs.declared.engine.Faulting.{Faulting}
use Rattle.cdc_epoch.specs.declared.roster.Roster.{Roster}
use Rattle.cdc_epoch.specs.Faulting.{lesser_fault}
use Rattle.cdc_epoch.specs.Side.{Stays, Made, as_port}
use Rattle.cdc_epoch.specs.Ties.{Ties, Live, Keeps, IsHeld, PhaseTied, TaskTied, FaultTied, CountTied, Comes, DoesAct, is_over, holder}
use Rattle.cdc_epoch.proofs.Acting.{GoesTo, Shows, shows, parts_of, ties_by}
use Rattle.cdc_epoch.proofs.Acts.{moved, EndsHand, other_holder, keeps_going, keeps_end, fault_kept, fault_added}

module _ {F : Type 0} (side : Ghosts F) (old : Engine F side) (m : State) (ties : Ties side old m) (p i : ℕ) (at : Frame) (held : IsHeld m p i at) (fork : Fork) (doall : old.epoch ≡ epoch.Doall fork) where
  abbrev code : Code
  code = old.code

  abbrev records : Input
  records = old.records.records

  abbrev lanes : List Held
  lanes = old.lanes.items

  live : Live side old m
  live = ties.live (λ o. subst is_over doall o)

  -- the lane of the task
  pub lane_there : (lane : Held) × (slice_get lanes p ≡ Some lane) × StandsIn records lane at
  lane_there = subst (λ e. TaskTied code records old.serial lanes e i (Running p at)) doall (subst (TaskTied code records old.serial lanes old.epoch i) held.runs (live.tasks i held.there))

  -- the task stands in its lane
  pub iteration_stands : (before : Held) → before ≡ get_or lanes p before → StandsIn records before at
  iteration_stands before is = subst (λ x. StandsIn records x at) (sym (is ∙ get_or_from_slice_get lanes p lane_there.0 before lane_there.1)) lane_there.2

  -- what a step of the task shows
  pub iteration_shows : (end : StepEnd) (before h : Held) (f : F) → before ≡ get_or lanes p before → ((path : List ℕ) → Stepped (as_port side p) records (act code (frame_of path records before)) old.side end h f) → Shows side code records p end (act code at) old.side h f
  iteration_shows end before h f is step =
      shows side code records p (act code at) end old.side h f (subst (λ x. Stepped (as_port side p) records (act code x) old.side end h f) (iteration_stands before is) (step at.kept.path))

  -- the phase of a DOALL stays
  pub still : (a : Act Frame) → phase_after m.phase a ≡ m.phase
  still a = go m.phase (subst (λ e. PhaseTied code records old.serial lanes e m.phase) doall ties.phase)
    where
      go : (phase : PhaseOf Frame) → PhaseTied code records old.serial lanes (epoch.Doall fork) phase → phase_after phase a ≡ phase
      go (Doall number next) t = refl
      go phase t = absurd t

  effect_of : (a : Act Frame) (tells : Effect) → ((number : ℕ) (next : Frame) → act_effect (act code) (entry_of code) (exit_of code) (Doall number next) a ≡ tells) → act_effect (act code) (entry_of code) (exit_of code) m.phase a ≡ tells
  effect_of a tells h = go m.phase (subst (λ e. PhaseTied code records old.serial lanes e m.phase) doall ties.phase)
    where
      go : (phase : PhaseOf Frame) → PhaseTied code records old.serial lanes (epoch.Doall fork) phase → act_effect (act code) (entry_of code) (exit_of code) phase a ≡ tells
      go (Doall number next) t = h number next
      go phase t = absurd t

  module _ (lane : Held) where
    abbrev other_lanes : List Held
    other_lanes = set lanes p lane

    within : p < length lanes
    within = slice_get_within lanes p lane_there.0 lane_there.1

    own_lane : slice_get other_lanes p ≡ Some lane
    own_lane = slice_get-get_or other_lanes p lane (omega (arith, length-set lanes p lane, within)) ∙ ap Some (get_or-set_same lanes p lane lane within)

    other_lane : (q : ℕ) (l : Held) → q ≢ p → slice_get lanes q ≡ Some l → slice_get other_lanes q ≡ Some l
    other_lane q l ne e =
        let lt : q < length lanes = slice_get_within lanes q l e in
        slice_get-get_or other_lanes q l (omega (arith, length-set lanes p lane, lt)) ∙ ap Some (get_or-set_other lanes p q lane l ne ∙ get_or_from_slice_get lanes q l l e)

    -- the other tasks stand where they stood
    other_task : (j : ℕ) → j ≢ i → j < m.count → TaskTied code records old.serial other_lanes (epoch.Doall fork) j (m.tasks j)
    other_task j ne lt = go (m.tasks j) refl (subst (λ e. TaskTied code records old.serial lanes e j (m.tasks j)) doall (live.tasks j lt))
      where
        go : (u : TaskOf Frame) → m.tasks j ≡ u → TaskTied code records old.serial lanes (epoch.Doall fork) j u → TaskTied code records old.serial other_lanes (epoch.Doall fork) j u
        go (Waiting f) e h = h
        go (Running q f) e h = (h.0, other_lane q h.0 (other_holder old.roster m p i at live.roster held.there held.runs m.phase m.printed q j lt ne (ap holder e)) h.1, h.2)
        go (Ended q f) e h = tt

    phase_tied : (phase : PhaseOf Frame) → phase ≡ m.phase → PhaseTied code records old.serial other_lanes (epoch.Doall fork) phase
    phase_tied phase e = go phase (subst (PhaseTied code records old.serial lanes (epoch.Doall fork)) (sym e) (subst (λ x. PhaseTied code records old.serial lanes x m.phase) doall ties.phase))
      where
        go : (phase : PhaseOf Frame) → PhaseTied code records old.serial lanes (epoch.Doall fork) phase → PhaseTied code records old.serial other_lanes (epoch.Doall fork) phase
        go Serial h = absurd h
        go (Doall number next) h = h
        go (Over end) h = absurd h

    count_tied : CountTied (epoch.Doall fork) m.count
    count_tied = subst (λ e. CountTied e m.count) doall live.count

    module _ (new : Engine F side) (procs : side.procs new.side ≡ side.procs old.side) (t : TaskOf Frame) (phase : PhaseOf Frame) (same : phase ≡ m.phase) (printed : List Piece) where
      tied : (r : Roster) (f : Option Faulting) → Keeps r (moved m phase i t printed) → TaskTied code records old.serial other_lanes (epoch.Doall fork) i t → FaultTied code records old.serial other_lanes f (moved m phase i t printed)
          → parts_of side new ≡ record (parts_of side old) { lanes = other_lanes; roster = r; fault = f } → Ties side new (moved m phase i t printed)
      tied r f keeps here faults parts =
          ties_by side new (moved m phase i t printed) (side.procs old.side) (record (parts_of side old) { lanes = other_lanes; roster = r; fault = f; epoch = epoch.Doall fork }) procs
          (parts ∙ ap (λ e. record (parts_of side old) { lanes = other_lanes; roster = r; fault = f; epoch = e }) doall) (record {
            phase = phase_tied phase same;
            live = λ l. record {
              count = count_tied;
              roster = keeps;
              tasks = everywhere (λ j u. j < m.count → TaskTied code records old.serial other_lanes (epoch.Doall fork) j u) m.tasks i t (λ lt. here) other_task;
              fault = faults;
            };
            steps = ties.steps;
            boundaries = ties.boundaries;
          })

      iteration_went : (g : Frame) → t ≡ Running p g → StandsIn records lane g → parts_of side new ≡ record (parts_of side old) { lanes = other_lanes } → Ties side new (moved m phase i t printed)
      iteration_went g is stands parts =
          tied old.roster old.fault (keeps_going old.roster m p i at live.roster held.there held.runs phase printed t g is)
          (subst (TaskTied code records old.serial other_lanes (epoch.Doall fork) i) (sym is) (lane, own_lane, stands))
          (fault_kept code records old.serial old.serial lanes other_lanes m i t phase printed
          (ap (task_fault (act code) (entry_of code) (exit_of code)) is ∙ sym (ap (task_fault (act code) (entry_of code) (exit_of code)) held.runs)) old.fault live.fault)
          parts

      iteration_ended : t ≡ Ended p at → fault_by (act code at) ≡ None → EndsHand p old.roster new.roster → parts_of side new ≡ record (parts_of side old) { lanes = other_lanes; roster = new.roster } → Ties side new (moved m phase i t printed)
      iteration_ended is none ends parts =
          tied new.roster old.fault (keeps_end old.roster m p i at live.roster held.there held.runs phase printed new.roster ends t is)
          (subst (TaskTied code records old.serial other_lanes (epoch.Doall fork) i) (sym is) tt)
          (fault_kept code records old.serial old.serial lanes other_lanes m i t phase printed
          (ap (task_fault (act code) (entry_of code) (exit_of code)) is ∙ (none ∙ sym (ap (task_fault (act code) (entry_of code) (exit_of code)) held.runs))) old.fault live.fault)
          parts

      iteration_faulted : (f : Fault) → t ≡ Ended p at → fault_by (act code at) ≡ Some f → EndsHand p old.roster new.roster
          → parts_of side new ≡ record (parts_of side old) { lanes = other_lanes; roster = new.roster; fault = Some (lesser_fault old.fault i f) } → Ties side new (moved m phase i t printed)
      iteration_faulted f is some ends parts =
          tied new.roster (Some (lesser_fault old.fault i f)) (keeps_end old.roster m p i at live.roster held.there held.runs phase printed new.roster ends t is)
          (subst (TaskTied code records old.serial other_lanes (epoch.Doall fork) i) (sym is) tt)
          (fault_added code records old.serial old.serial lanes other_lanes m i t phase printed f (ap (task_fault (act code) (entry_of code) (exit_of code)) is ∙ some)
          (ap (task_fault (act code) (entry_of code) (exit_of code)) held.runs) held.there old.fault live.fault)
          parts

  module _ (lane : Held) (answer : Effect) (new : Engine F side) (same_code : new.code ≡ old.code) (same_records : new.records ≡ old.records) (stays : Stays side old.side new.side) where
    abbrev pub IterationLeadsBy : Act Frame → Type 0
    IterationLeadsBy a = Comes side (call_by (act code) (entry_of code) (exit_of code) p a) (λ v. moved m (phase_after m.phase a) i (task_after v p at a) (m.printed ++ said_by a)) (act_effect (act code) (entry_of code) (exit_of code) m.phase a) old answer new

    pub iteration_goes : (tells : Effect) → GoesTo side code records p tells (act code at) old.side new.side lane → answer ≡ tells → parts_of side new ≡ record (parts_of side old) { lanes = set lanes p lane } → DoesAct side p i at m old answer new
    iteration_goes tells g told parts = record {
      code = same_code;
      records = same_records;
      v = g.v;
      made = g.made;
      stays = stays;
      stands = iteration_went lane new stays.procs (task_after g.v p at (act code at)) (phase_after m.phase (act code at)) (still (act code at)) (m.printed ++ said_by (act code at)) g.to (g.task at) g.stands parts;
      effect = told ∙ sym (g.effect m.phase);
    }

    -- an act that ends the task, without a fault
    pub iteration_ends : (a : Act Frame) → act code at ≡ a → call_by (act code) (entry_of code) (exit_of code) p a ≡ None → ((v : ℤ) → task_after v p at a ≡ Ended p at) → fault_by a ≡ None
        → ((number : ℕ) (next : Frame) → act_effect (act code) (entry_of code) (exit_of code) (Doall number next) a ≡ effect.Stepped) → new.side ≡ old.side → answer ≡ effect.Stepped → EndsHand p old.roster new.roster
        → parts_of side new ≡ record (parts_of side old) { lanes = set lanes p lane; roster = new.roster } → DoesAct side p i at m old answer new
    iteration_ends a is none ended fine tells same_side told ends parts = subst IterationLeadsBy (sym is) (record {
      code = same_code;
      records = same_records;
      v = pos 0;
      made = subst (λ c. Made side c old.side (pos 0) new.side) (sym none) same_side;
      stays = stays;
      stands = iteration_ended lane new stays.procs (task_after (pos 0) p at a) (phase_after m.phase a) (still a) (m.printed ++ said_by a) (ended (pos 0)) (ap fault_by is ∙ fine) ends parts;
      effect = told ∙ sym (effect_of a effect.Stepped tells);
    })

    pub iteration_faults : (f : Fault) → act code at ≡ Faults f.kind f.line → new.side ≡ old.side → answer ≡ effect.Stepped → EndsHand p old.roster new.roster
        → new.fault ≡ Some (lesser_fault old.fault i f) → parts_of side new ≡ record (parts_of side old) { lanes = set lanes p lane; roster = new.roster; fault = new.fault } → DoesAct side p i at m old answer new
    iteration_faults f is same_side told ends faulted parts = subst IterationLeadsBy (sym is) (record {
      code = same_code;
      records = same_records;
      v = pos 0;
      made = same_side;
      stays = stays;
      stands = iteration_faulted lane new stays.procs (Ended p at) (phase_after m.phase (Faults f.kind f.line)) (still (Faults f.kind f.line)) (m.printed ++ []) f refl (ap fault_by is) ends (parts ∙ ap (λ o. record (parts_of side old) { lanes = set lanes p lane; roster = new.roster; fault = o }) faulted);
      effect = told ∙ sym (effect_of (Faults f.kind f.line) effect.Stepped (λ number next. refl));
    })

    -- an iteration forks nothing and does not halt; were it to, it would end
    pub iteration_stops : (end : StepEnd) → ((n : ℕ) × (k : ℕ) × (from : ℤ) × (by : ℤ) × (end ≡ Forked n k from by)) ⊎ ((end ≡ Joined) ⊎ (end ≡ Halted)) → Shows side code records p end (act code at) old.side lane new.side → answer ≡ effect.Stepped → EndsHand p old.roster new.roster
        → parts_of side new ≡ record (parts_of side old) { lanes = set lanes p lane; roster = new.roster } → DoesAct side p i at m old answer new
    iteration_stops end (inl e) shown told ends parts =
        let s = subst (λ x. Shows side code records p x (act code at) old.side lane new.side) e.4 shown in
        let f = s.0 in
        iteration_ends (Forks f.path f.number f.count f.from f.by f.body f.next) f.same refl (λ v. refl) refl (λ number next. refl) s.2 told ends parts
    iteration_stops end (inr (inl e)) shown told ends parts =
        let s = subst (λ x. Shows side code records p x (act code at) old.side lane new.side) e shown in
        iteration_ends Joins s.0 refl (λ v. refl) refl (λ number next. refl) s.1 told ends parts
    iteration_stops end (inr (inr e)) shown told ends parts =
        let s = subst (λ x. Shows side code records p x (act code at) old.side lane new.side) e shown in
        iteration_ends Halts s.0 refl (λ v. refl) refl (λ number next. refl) s.1 told ends parts
