-- An instruction of a task leads the engine where it leads the machine.
use Rattle.std.proofs.Common.{◌≡◌, ◌≢◌, ℕ, ◌<◌, ◌≤◌, ◌⊎◌, inl, inr, nat_le, pos, List, [], ◌++◌, length, get_or, set, Bool, true, false, Option, Some, None, refl, sym, ap, ◌∙◌, subst, if◌then◌else◌, arith}
use Rattle.std.proofs.lemmas.Bool.{leb-true, leb-false}
use Rattle.std.proofs.lemmas.List.{get_or-set_same, get_or-set_other, length-set}
use Rattle.cdc_prog.specs.declared.fault.Fault.{Fault}
use Rattle.cdc_prog.specs.declared.piece.Piece.{Piece}
use Rattle.cdc_prog.specs.Input.{Input}
use Rattle.cdc_prog.specs.InOrder.{End, Done}
use Rattle.cdc_code.specs.declared.code.Code.{Code}
use Rattle.cdc_code.specs.Act.{Act, Forks, Joins, Halts}
use Rattle.cdc_code.specs.Frames.{Frame}
use Rattle.cdc_code.specs.Rows.{act}
use Rattle.cdc_fabric.specs.declared.fabric.Fabric.{Ghosts}
use Rattle.cdc_task.specs.declared.end.StepEnd.{StepEnd}
use Rattle.cdc_task.specs.declared.end.StepEnd.TheVariants.{Forked, Joined, Halted}
use Rattle.cdc_task.specs.Held.{Held, StandsIn, frame_of}
use Rattle.cdc_task.specs.Steps.{Quiet, Stepped}
use Rattle.cdc_machine.specs.declared.effect.Effect.{Effect}
use Rattle.cdc_machine.specs.declared.effect.Effect.TheVariants as effect
use Rattle.cdc_machine.specs.Machine.{TaskOf, Running, Ended, PhaseOf, Serial, Over, with_at, task_after, phase_after, said_by, task_fault, fault_by, call_by, act_effect}
use Rattle.cdc_machine.specs.Code.{State, entry_of, exit_of}
use Rattle.cdc_machine.proofs.Updates.{at_place, elsewhere, everywhere}
use Rattle.cdc_epoch.specs.declared.engine.Engine.{Engine}
use Rattle.cdc_epoch.specs.declared.engine.Epoch.TheVariants as epoch
use Rattle.cdc_epoch.specs.declared.engine.Fork.{Fork}
use Rattle.cdc_epoch.specs.declared.engine.Faulting.{Faulting}
use Rattle.cdc_epoch.specs.declared.roster.Roster.{Roster}
use Rattle.cdc_epoch.specs.Faulting.{lesser_fault}
use Rattle.cdc_epoch.specs.Side.{Stays, Made, as_port}
use Rattle.cdc_epoch.specs.Ties.{Ties, Live, Keeps, IsHeld, PhaseTied, TaskTied, FaultTied, CountTied, Comes, DoesAct, is_over, holder, was_taken}
use Rattle.cdc_epoch.proofs.Acting.{GoesTo, IsFork, Shows, shows, parts_of, ties_by}

-- the state with another phase, task and output
abbrev pub moved : State → PhaseOf Frame → (i : ℕ) → TaskOf Frame → List Piece → State
moved m phase i t printed = record m { phase = phase; tasks = with_at m.tasks i t; printed = printed }

-- the task of a processor has ended
pub record EndsHand (p : ℕ) (old new : Roster) : Type 0 where
  pub count : new.count ≡ old.count
  pub taken : new.taken ≡ old.taken
  pub held : new.held ≡ set old.held p None

pub some_same : {A : Type 0} (a b : A) → Some a ≡ Some b → a ≡ b
some_same a b e = cc

module _ (r : Roster) (m : State) (p i : ℕ) (at : Frame) (k : Keeps r m) (there : i < m.count) (runs : m.tasks i ≡ Running p at) (phase : PhaseOf Frame) (printed : List Piece) where
  hand : (p < length r.held) × (get_or r.held p None ≡ Some i)
  hand = k.is_held p i there (ap holder runs)

  -- another task has another holder
  pub other_holder : (q j : ℕ) → j < m.count → j ≢ i → holder (m.tasks j) ≡ Some q → q ≢ p
  other_holder q j lt ne e same =
      let one : get_or r.held p None ≡ Some j = subst (λ x. get_or r.held x None ≡ Some j) same (k.is_held q j lt e).1 in
      ne (some_same j i (sym one ∙ hand.1))

  pub keeps_going : (t : TaskOf Frame) (g : Frame) → t ≡ Running p g → Keeps r (moved m phase i t printed)
  keeps_going t g is = record {
    count = k.count;
    taken = everywhere (λ j u. j < m.count → get_or r.taken j true ≡ was_taken u) m.tasks i t (λ lt. k.taken i lt ∙ (ap was_taken runs ∙ sym (ap was_taken is))) (λ j ne. k.taken j);
    holds = λ q j e. let h = k.holds q j e in
        (h.0, everywhere (λ j u. holder (m.tasks j) ≡ Some q → holder u ≡ Some q) m.tasks i t (λ x. hands ∙ x) (λ j ne x. x) j h.1);
    is_held = λ q j lt e. k.is_held q j lt (everywhere (λ j u. holder u ≡ Some q → holder (m.tasks j) ≡ Some q) m.tasks i t (λ x. sym hands ∙ x) (λ j ne x. x) j e);
  }
    where
      hands : holder t ≡ holder (m.tasks i)
      hands = ap holder is ∙ sym (ap holder runs)

  module _ (s : Roster) (ends : EndsHand p r s) where
    no_hand : get_or s.held p None ≡ None
    no_hand = ap (λ l. get_or l p None) ends.held ∙ get_or-set_same r.held p None None hand.0

    other_hand : (q : ℕ) → q ≢ p → get_or s.held q None ≡ get_or r.held q None
    other_hand q ne = ap (λ l. get_or l q None) ends.held ∙ get_or-set_other r.held p q None None ne

    holds_still : (q j : ℕ) → get_or s.held q None ≡ Some j → (q ≢ p) × (get_or r.held q None ≡ Some j)
    holds_still q j e =
        let ne : q ≢ p = λ same. (let none : get_or s.held q None ≡ None = subst (λ x. get_or s.held x None ≡ None) (sym same) no_hand in cc) in
        (ne, sym (other_hand q ne) ∙ e)

    pub keeps_end : (t : TaskOf Frame) → t ≡ Ended p at → Keeps s (moved m phase i t printed)
    keeps_end t is = record {
      count = ends.count ∙ k.count;
      taken = λ j lt. ap (λ l. get_or l j true) ends.taken ∙
          everywhere (λ j u. j < m.count → get_or r.taken j true ≡ was_taken u) m.tasks i t (λ l. k.taken i l ∙ (ap was_taken runs ∙ sym (ap was_taken is))) (λ j ne. k.taken j) j lt;
      holds = λ q j e. let h = holds_still q j e in
          let w = k.holds q j h.1 in (
            w.0,
            everywhere (λ j u. holder (m.tasks j) ≡ Some q → holder u ≡ Some q) m.tasks i t
                (λ x. absurd (h.0 (some_same q p (sym x ∙ ap holder runs)))) (λ j ne x. x) j w.1,
          );
      is_held = λ q j lt e.
          everywhere (λ j u. j < m.count → holder u ≡ Some q → (q < length s.held) × (get_or s.held q None ≡ Some j)) m.tasks i t
          (λ l x. let none : None ≡ Some q = sym (ap holder is) ∙ x in absurd (cc))
          (λ j ne l x. let w = k.is_held q j l x in
          (subst (λ n. q < n) (sym (ap length ends.held ∙ length-set r.held p None)) w.0, other_hand q (other_holder q j l ne x) ∙ w.1)) j lt e;
    }

-- ---- faults
module _ (code : Code) (records : Input) (serial serial2 : Held) (lanes lanes2 : List Held) (m : State) (i : ℕ) (t : TaskOf Frame) (phase : PhaseOf Frame) (printed : List Piece) where
  abbrev fault : TaskOf Frame → Option Fault
  fault = task_fault (act code) (entry_of code) (exit_of code)

  pub fault_kept : fault t ≡ fault (m.tasks i) → (f : Option Faulting) → FaultTied code records serial lanes f m → FaultTied code records serial2 lanes2 f (moved m phase i t printed)
  fault_kept e None h = λ j lt. same j ∙ h j lt
    where
      same : (j : ℕ) → fault (with_at m.tasks i t j) ≡ fault (m.tasks j)
      same = everywhere (λ j u. fault u ≡ fault (m.tasks j)) m.tasks i t e (λ j ne. refl)
  fault_kept e (Some least) h = (h.0, same least.task ∙ h.1, λ j lt. same j ∙ h.2 j lt)
    where
      same : (j : ℕ) → fault (with_at m.tasks i t j) ≡ fault (m.tasks j)
      same = everywhere (λ j u. fault u ≡ fault (m.tasks j)) m.tasks i t e (λ j ne. refl)

  here : (f : Fault) → fault t ≡ Some f → fault (with_at m.tasks i t i) ≡ Some f
  here f e = ap fault (at_place m.tasks i t) ∙ e

  there : (j : ℕ) → j ≢ i → fault (with_at m.tasks i t j) ≡ fault (m.tasks j)
  there j ne = ap fault (elsewhere m.tasks i t j ne)

  pub fault_added : (f : Fault) → fault t ≡ Some f → fault (m.tasks i) ≡ None → i < m.count → (o : Option Faulting) → FaultTied code records serial lanes o m
      → FaultTied code records serial2 lanes2 (Some (lesser_fault o i f)) (moved m phase i t printed)
  fault_added f e none lt None h = (lt, here f e, λ j l. there j (omega arith) ∙ h j (omega arith))
  fault_added f e none lt (Some least) h = go (nat_le least.task i) refl
    where
      go : (b : Bool) → nat_le least.task i ≡ b → FaultTied code records serial2 lanes2 (Some (if b then least else record { task = i; fault = f })) (moved m phase i t printed)
      go true q =
          let le : least.task ≤ i = leb-true least.task i q in
          let ne : least.task ≢ i = λ same. (let some : fault (m.tasks i) ≡ Some least.fault = subst (λ j. fault (m.tasks j) ≡ Some least.fault) same h.1 in cc) in
          (h.0, there least.task ne ∙ h.1, λ j l. there j (omega arith) ∙ h.2 j l)
      go false q =
          let gt : i < least.task = leb-false least.task i q in
          (lt, here f e, λ j l. there j (omega arith) ∙ h.2 j (omega arith))

-- ---- a serial task
module _ {F : Type 0} (side : Ghosts F) (old : Engine F side) (m : State) (ties : Ties side old m) (p : ℕ) (at : Frame) (held : IsHeld m p 0 at) (serial : old.epoch ≡ epoch.Serial) where
  abbrev code : Code
  code = old.code

  abbrev records : Input
  records = old.records.records

  abbrev lanes : List Held
  lanes = old.lanes.items

  live : Live side old m
  live = ties.live (λ o. subst is_over serial o)

  one : m.count ≡ 1
  one = subst (λ e. CountTied e m.count) serial live.count

  pub stands_there : StandsIn records old.serial at
  stands_there = subst (λ e. TaskTied code records old.serial lanes e 0 (Running p at)) serial (subst (TaskTied code records old.serial lanes old.epoch 0) held.runs (live.tasks 0 held.there))

  in_serial : m.phase ≡ Serial
  in_serial = go m.phase (subst (λ e. PhaseTied code records old.serial lanes e m.phase) serial ties.phase)
    where
      go : (phase : PhaseOf Frame) → PhaseTied code records old.serial lanes epoch.Serial phase → phase ≡ Serial
      go Serial t = refl
      go phase t = absurd t

  module _ (new : Engine F side) (procs : side.procs new.side ≡ side.procs old.side) (t : TaskOf Frame) (phase : PhaseOf Frame) (printed : List Piece) where
    serial_went : (g : Frame) → t ≡ Running p g → phase ≡ m.phase → StandsIn records new.serial g → parts_of side new ≡ record (parts_of side old) { serial = new.serial } → Ties side new (moved m phase 0 t printed)
    serial_went g is same stands parts =
        ties_by side new (moved m phase 0 t printed) (side.procs old.side) (record (parts_of side old) { serial = new.serial; epoch = epoch.Serial }) procs (parts ∙ ap (λ e. record (parts_of side old) { serial = new.serial; epoch = e }) serial) (record {
          phase = subst (λ x. PhaseTied code records new.serial lanes epoch.Serial x) (sym (same ∙ in_serial)) tt;
          live = λ l. record {
            count = one;
            roster = keeps_going old.roster m p 0 at live.roster held.there held.runs phase printed t g is;
            tasks = everywhere (λ j u. j < m.count → TaskTied code records new.serial lanes epoch.Serial j u) m.tasks 0 t
                (λ lt. subst (TaskTied code records new.serial lanes epoch.Serial 0) (sym is) stands)
                (λ j ne lt. absurd (ne (omega (arith, one, lt))));
            fault = fault_kept code records old.serial new.serial lanes lanes m 0 t phase printed
                (ap (task_fault (act code) (entry_of code) (exit_of code)) is ∙ sym (ap (task_fault (act code) (entry_of code) (exit_of code)) held.runs)) old.fault live.fault;
          };
          steps = ties.steps;
          boundaries = ties.boundaries;
        })

    serial_forked : (f : Fork) → t ≡ Ended p at → phase ≡ m.phase → fault_by (act code at) ≡ None → Quiet records (act code at) (Forked f.number f.count f.from f.by) new.serial → EndsHand p old.roster new.roster
        → parts_of side new ≡ record (parts_of side old) { serial = new.serial; roster = new.roster; epoch = epoch.Forked f } → Ties side new (moved m phase 0 t printed)
    serial_forked f is same none quiet ends parts =
        ties_by side new (moved m phase 0 t printed) (side.procs old.side) (record (parts_of side old) { serial = new.serial; roster = new.roster; epoch = epoch.Forked f }) procs parts (record {
          phase = subst (λ x. PhaseTied code records new.serial lanes (epoch.Forked f) x) (sym (same ∙ in_serial)) tt;
          live = λ l. record {
            count = one;
            roster = keeps_end old.roster m p 0 at live.roster held.there held.runs phase printed new.roster ends t is;
            tasks = everywhere (λ j u. j < m.count → TaskTied code records new.serial lanes (epoch.Forked f) j u) m.tasks 0 t
                (λ lt. subst (TaskTied code records new.serial lanes (epoch.Forked f) 0) (sym is) quiet)
                (λ j ne lt. absurd (ne (omega (arith, one, lt))));
            fault = fault_kept code records old.serial new.serial lanes lanes m 0 t phase printed
                (ap (task_fault (act code) (entry_of code) (exit_of code)) is ∙ (none ∙ sym (ap (task_fault (act code) (entry_of code) (exit_of code)) held.runs))) old.fault live.fault;
          };
          steps = ties.steps;
          boundaries = ties.boundaries;
        })

    serial_over : (end : End) → phase ≡ Over end → parts_of side new ≡ record (parts_of side old) { serial = new.serial; epoch = epoch.Over } → Ties side new (moved m phase 0 t printed)
    serial_over end over parts =
        ties_by side new (moved m phase 0 t printed) (side.procs old.side) (record (parts_of side old) { serial = new.serial; epoch = epoch.Over }) procs parts (record {
          phase = subst (λ x. PhaseTied code records new.serial lanes epoch.Over x) (sym over) tt;
          live = λ l. absurd (l tt);
          steps = ties.steps;
          boundaries = ties.boundaries;
        })

  -- what a step of the task shows
  pub serial_shows : (end : StepEnd) (h : Held) (f : F) → ((path : List ℕ) → Stepped (as_port side p) records (act code (frame_of path records old.serial)) old.side end h f) → Shows side code records p end (act code at) old.side h f
  serial_shows end h f step = shows side code records p (act code at) end old.side h f (subst (λ x. Stepped (as_port side p) records (act code x) old.side end h f) stands_there (step at.kept.path))

  module _ (answer : Effect) (new : Engine F side) (same_code : new.code ≡ old.code) (same_records : new.records ≡ old.records) (stays : Stays side old.side new.side) where
    -- what an act leads to
    abbrev pub LeadsBy : Act Frame → Type 0
    LeadsBy a = Comes side (call_by (act code) (entry_of code) (exit_of code) p a) (λ v. moved m (phase_after m.phase a) 0 (task_after v p at a) (m.printed ++ said_by a)) (act_effect (act code) (entry_of code) (exit_of code) m.phase a) old answer new

    pub serial_goes : (tells : Effect) → GoesTo side code records p tells (act code at) old.side new.side new.serial → answer ≡ tells → parts_of side new ≡ record (parts_of side old) { serial = new.serial } → DoesAct side p 0 at m old answer new
    serial_goes tells g told parts = record {
      code = same_code;
      records = same_records;
      v = g.v;
      made = g.made;
      stays = stays;
      stands = serial_went new stays.procs (task_after g.v p at (act code at)) (phase_after m.phase (act code at)) (m.printed ++ said_by (act code at)) g.to (g.task at) (g.phase m.phase) g.stands parts;
      effect = told ∙ sym (g.effect m.phase);
    }

    pub serial_forks : (f : Fork) → IsFork side code records p (act code at) → Quiet records (act code at) (Forked f.number f.count f.from f.by) new.serial → new.side ≡ old.side → answer ≡ effect.Stepped → EndsHand p old.roster new.roster
        → new.epoch ≡ epoch.Forked f → parts_of side new ≡ record (parts_of side old) { serial = new.serial; roster = new.roster; epoch = new.epoch } → DoesAct side p 0 at m old answer new
    serial_forks f is quiet same_side told ends forked parts = subst LeadsBy (sym is.same) (record {
      code = same_code;
      records = same_records;
      v = pos 0;
      made = same_side;
      stays = stays;
      stands = serial_forked new stays.procs (Ended p at) (phase_after m.phase fork) (m.printed ++ []) f refl (still m.phase) (ap fault_by is.same) quiet ends (parts ∙ ap (λ e. record (parts_of side old) { serial = new.serial; roster = new.roster; epoch = e }) forked);
      effect = told ∙ sym (tells m.phase);
    })
      where
        fork : Act Frame
        fork = Forks is.path is.number is.count is.from is.by is.body is.next

        still : (phase : PhaseOf Frame) → phase_after phase (Forks is.path is.number is.count is.from is.by is.body is.next) ≡ phase
        still Serial = refl
        still phase = refl

        tells : (phase : PhaseOf Frame) → act_effect (act code) (entry_of code) (exit_of code) phase (Forks is.path is.number is.count is.from is.by is.body is.next) ≡ effect.Stepped
        tells Serial = refl
        tells phase = refl

    -- an act that ends the machine
    pub serial_ends : (end : End) (tells : Effect) (a : Act Frame) → act code at ≡ a → call_by (act code) (entry_of code) (exit_of code) p a ≡ None → phase_after Serial a ≡ Over end → act_effect (act code) (entry_of code) (exit_of code) Serial a ≡ tells
        → new.side ≡ old.side → answer ≡ tells → parts_of side new ≡ record (parts_of side old) { serial = new.serial; epoch = epoch.Over } → DoesAct side p 0 at m old answer new
    serial_ends end tells a is none over effect_so same_side told parts = subst LeadsBy (sym is) (record {
      code = same_code;
      records = same_records;
      v = pos 0;
      made = subst (λ c. Made side c old.side (pos 0) new.side) (sym none) same_side;
      stays = stays;
      stands = serial_over new stays.procs (task_after (pos 0) p at a) (phase_after m.phase a) (m.printed ++ said_by a) end (ap (λ x. phase_after x a) in_serial ∙ over) parts;
      effect = told ∙ (sym effect_so ∙ sym (ap (λ x. act_effect (act code) (entry_of code) (exit_of code) x a) in_serial));
    })

    -- an iteration's join or a halt
    pub serial_stops : (end : StepEnd) → (end ≡ Joined) ⊎ (end ≡ Halted) → Shows side code records p end (act code at) old.side new.serial new.side → answer ≡ effect.Ended → parts_of side new ≡ record (parts_of side old) { serial = new.serial; epoch = epoch.Over } → DoesAct side p 0 at m old answer new
    serial_stops end (inl e) shown told parts = let s = subst (λ x. Shows side code records p x (act code at) old.side new.serial new.side) e shown in serial_ends Done effect.Ended Joins s.0 refl refl refl s.1 told parts
    serial_stops end (inr e) shown told parts = let s = subst (λ x. Shows side code records p x (act code at) old.side new.serial new.side) e shown in serial_ends Done effect.Ended Halts s.0 refl refl refl s.1 told parts
