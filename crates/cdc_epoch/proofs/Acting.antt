-- What the parts of an engine owe after an instruction of a task.
use Rattle.std.proofs.Common.{◌≡◌, ℕ, ◌<◌, ℤ, pos, List, get_or, Option, refl, sym, ap, ap₂, subst}
use Rattle.cdc_prog.specs.declared.piece.Piece.{Piece}
use Rattle.cdc_prog.specs.Input.{Input}
use Rattle.cdc_code.specs.declared.code.Code.{Code}
use Rattle.cdc_code.specs.Act.{Act, Goes, Reads, Writes, Prints, Forks, Joins, Halts, Faults}
use Rattle.cdc_code.specs.Frames.{Frame}
use Rattle.cdc_code.specs.Rows.{act}
use Rattle.cdc_fabric.specs.declared.fabric.Fabric.{Ghosts}
use Rattle.cdc_task.specs.declared.end.StepEnd.{StepEnd}
use Rattle.cdc_task.specs.declared.end.StepEnd.TheVariants.{Went, Printed, Forked, Joined, Halted, Faulted}
use Rattle.cdc_task.specs.Held.{Held, StandsIn}
use Rattle.cdc_task.specs.Steps.{Quiet, Stepped}
use Rattle.cdc_machine.specs.declared.effect.Effect.{Effect}
use Rattle.cdc_machine.specs.declared.effect.Effect.TheVariants as effect
use Rattle.cdc_machine.specs.Machine.{Running, PhaseOf, Serial, Doall, Over, task_after, phase_after, call_by, act_effect}
use Rattle.cdc_machine.specs.Code.{State, entry_of, exit_of}
use Rattle.cdc_epoch.specs.declared.engine.Engine.{Engine}
use Rattle.cdc_epoch.specs.declared.engine.Epoch.{Epoch}
use Rattle.cdc_epoch.specs.declared.engine.Faulting.{Faulting}
use Rattle.cdc_epoch.specs.declared.roster.Roster.{Roster}
use Rattle.cdc_epoch.specs.Side.{Made, as_port}
use Rattle.cdc_epoch.specs.Ties.{Ties, Live, Keeps, PhaseTied, TaskTied, FaultTied, CountTied, is_over}

-- ---- what a step has shown of the act
module _ {F : Type 0} (side : Ghosts F) (code : Code) (records : Input) (p : ℕ) where
  -- the task goes on, having made one call at most, and this is told
  pub record GoesTo (tells : Effect) (a : Act Frame) (old new : F) (h : Held) : Type 0 where
    pub v : ℤ
    pub to : Frame
    pub made : Made side (call_by (act code) (entry_of code) (exit_of code) p a) old v new
    pub task : (at : Frame) → task_after v p at a ≡ Running p to
    pub stands : StandsIn records h to
    pub phase : (phase : PhaseOf Frame) → phase_after phase a ≡ phase
    pub effect : (phase : PhaseOf Frame) → act_effect (act code) (entry_of code) (exit_of code) phase a ≡ tells

  -- the act is a fork
  pub record IsFork (a : Act Frame) : Type 0 where
    pub path : List ℕ
    pub number : ℕ
    pub count : ℕ
    pub from : ℤ
    pub by : ℤ
    pub body : ℕ → Frame
    pub next : Frame
    pub same : a ≡ Forks path number count from by body next

  abbrev pub Shows : StepEnd → Act Frame → F → Held → F → Type 0
  Shows Went a old h new = GoesTo effect.Stepped a old new h
  Shows (Printed piece) a old h new = GoesTo (effect.Printed piece) a old new h
  Shows (Forked n k m d) a old h new = IsFork a × Quiet records a (Forked n k m d) h × (new ≡ old)
  Shows Joined a old h new = (a ≡ Joins) × (new ≡ old)
  Shows Halted a old h new = (a ≡ Halts) × (new ≡ old)
  Shows (Faulted kind line) a old h new = (a ≡ Faults kind line) × (new ≡ old)

  goes_still : (g : Frame) (phase : PhaseOf Frame) → phase_after phase (Goes g) ≡ phase
  goes_still g Serial = refl
  goes_still g phase = refl

  reads_still : (path : List ℕ) (site : ℕ) (mark : _) (word : ℕ) (next : ℤ → Frame) (phase : PhaseOf Frame) → phase_after phase (Reads path site mark word next) ≡ phase
  reads_still path site mark word next Serial = refl
  reads_still path site mark word next phase = refl

  writes_still : (path : List ℕ) (site word : ℕ) (value : ℤ) (g : Frame) (phase : PhaseOf Frame) → phase_after phase (Writes path site word value g) ≡ phase
  writes_still path site word value g Serial = refl
  writes_still path site word value g phase = refl

  prints_still : (piece : Piece) (g : Frame) (phase : PhaseOf Frame) → phase_after phase (Prints piece g) ≡ phase
  prints_still piece g Serial = refl
  prints_still piece g phase = refl

  pub shows : (a : Act Frame) (end : StepEnd) (old : F) (h : Held) (new : F) → Stepped (as_port side p) records a old end h new → Shows end a old h new
  shows (Reads path site mark word next) end old h new s = subst (λ e. Shows e (Reads path site mark word next) old h new) (sym s.0) (record {
    v = s.1;
    to = next s.1;
    made = s.2.0;
    task = λ at. refl;
    stands = s.3;
    phase = reads_still path site mark word next;
    effect = elim [ Serial ↦ refl | Doall number n ↦ refl | Over e ↦ refl ];
  })
  shows (Writes path site word value g) end old h new s = subst (λ e. Shows e (Writes path site word value g) old h new) (sym s.0) (record {
    v = pos 0;
    to = g;
    made = s.1.0;
    task = λ at. refl;
    stands = s.2;
    phase = writes_still path site word value g;
    effect = elim [ Serial ↦ refl | Doall number n ↦ refl | Over e ↦ refl ];
  })
  shows (Goes g) Went old h new s = record {
    v = pos 0;
    to = g;
    made = s.1;
    task = λ at. refl;
    stands = s.0;
    phase = goes_still g;
    effect = elim [ Serial ↦ refl | Doall number n ↦ refl | Over e ↦ refl ];
  }
  shows (Prints piece g) (Printed said) old h new s = record {
    v = pos 0;
    to = g;
    made = s.1;
    task = λ at. refl;
    stands = s.0.1;
    phase = prints_still piece g;
    effect = λ phase. ap effect.Printed (sym s.0.0);
  }
  shows (Forks path number count from by body next) (Forked n k m d) old h new s =
      (record { path = path; number = number; count = count; from = from; by = by; body = body; next = next; same = refl }, s.0, s.1)
  shows Joins Joined old h new s = (refl, s.1)
  shows Halts Halted old h new s = (refl, s.1)
  shows (Faults kind line) (Faulted k l) old h new s = (ap₂ Faults (sym s.0.0) (sym s.0.1), s.1)
  shows a end old h new s = absurd s.0

-- ---- the parts of an engine, but its memory side
pub record Parts : Type 0 where
  pub code : Code
  pub records : Input
  pub serial : Held
  pub lanes : List Held
  pub steps : List ℕ
  pub roster : Roster
  pub epoch : Epoch
  pub fault : Option Faulting
  pub boundaries : ℕ

abbrev pub parts_of : {F : Type 0} (side : Ghosts F) → Engine F side → Parts
parts_of side e = record { code = e.code; records = e.records.records; serial = e.serial; lanes = e.lanes.items; steps = e.steps; roster = e.roster; epoch = e.epoch; fault = e.fault; boundaries = e.boundaries }

pub record LiveAt (x : Parts) (m : State) : Type 0 where
  pub count : CountTied x.epoch m.count
  pub roster : Keeps x.roster m
  pub tasks : (i : ℕ) → i < m.count → TaskTied x.code x.records x.serial x.lanes x.epoch i (m.tasks i)
  pub fault : FaultTied x.code x.records x.serial x.lanes x.fault m

-- the parts stand where the machine stands
pub record TiesAt (procs : ℕ) (x : Parts) (m : State) : Type 0 where
  pub phase : PhaseTied x.code x.records x.serial x.lanes x.epoch m.phase
  pub live : (is_over x.epoch → ⊥) → LiveAt x m
  pub steps : (p : ℕ) → p < procs → get_or x.steps p 0 ≡ m.steps p
  pub boundaries : x.boundaries ≡ m.boundaries

module _ {F : Type 0} (side : Ghosts F) where
  pub live_at : (e : Engine F side) (m : State) → Live side e m → LiveAt (parts_of side e) m
  live_at e m l = record { count = l.count; roster = l.roster; tasks = l.tasks; fault = l.fault }

  pub ties_at : (e : Engine F side) (m : State) → Ties side e m → TiesAt (side.procs e.side) (parts_of side e) m
  ties_at e m t = record { phase = t.phase; live = λ l. live_at e m (t.live l); steps = t.steps; boundaries = t.boundaries }

  to_live : (e : Engine F side) (m : State) → LiveAt (parts_of side e) m → Live side e m
  to_live e m l = record { count = l.count; roster = l.roster; tasks = l.tasks; fault = l.fault }

  to_ties : (e : Engine F side) (m : State) → TiesAt (side.procs e.side) (parts_of side e) m → Ties side e m
  to_ties e m t = record { phase = t.phase; live = λ l. to_live e m (t.live l); steps = t.steps; boundaries = t.boundaries }

  -- an engine with these parts, over so many processors
  pub ties_by : (e : Engine F side) (m : State) (procs : ℕ) (x : Parts) → side.procs e.side ≡ procs → parts_of side e ≡ x → TiesAt procs x m → Ties side e m
  ties_by e m procs x n same t = to_ties e m (subst (λ k. TiesAt k (parts_of side e) m) (sym n) (subst (λ y. TiesAt procs y m) (sym same) t))
