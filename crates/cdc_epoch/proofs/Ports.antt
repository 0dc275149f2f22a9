-- What a step of a task does to its port.
use Rattle.std.proofs.Common.{◌≡◌, ℕ, ℤ, refl, sym, subst}
use Rattle.cdc_prog.specs.declared.program.Mark.{Mark}
use Rattle.cdc_prog.specs.Input.{Input}
use Rattle.cdc_code.specs.Act.{Act, Goes, Reads, Writes, Prints, Forks, Joins, Halts, Faults, Stuck}
use Rattle.cdc_code.specs.Frames.{Frame}
use Rattle.cdc_fabric.specs.declared.fabric.Fabric.{Ghosts}
use Rattle.cdc_task.specs.declared.port.Port.{Ghosts as Port}
use Rattle.cdc_task.specs.declared.end.StepEnd.{StepEnd}
use Rattle.cdc_task.specs.Held.{Held}
use Rattle.cdc_task.specs.Steps.{Stepped}
use Rattle.cdc_epoch.specs.Side.{Stays, as_port}

pub stays_same : {F : Type 0} (side : Ghosts F) (f : F) → Stays side f f
stays_same side f = record { procs = refl; words = refl; made = refl; lines = refl; plain = refl }

-- what each call keeps, a step keeps
module _ {P : Type 0} (port : Port P) (S : P → P → Type 0) (same : (p : P) → S p p) (load : (p : P) (word : ℕ) (mark : Mark) (v : ℤ) (q : P) → port.loads p word mark v q → S p q) (store : (p : P) (word : ℕ) (v : ℤ) (q : P) → port.stores p word v q → S p q) where
  stayed : (p q : P) → q ≡ p → S p q
  stayed p q e = subst (λ x. S p x) (sym e) (same p)

  pub stepped_keeps : (records : Input) (a : Act Frame) (p : P) (end : StepEnd) (h : Held) (q : P) → Stepped port records a p end h q → S p q
  stepped_keeps records (Goes g) p end h q s = stayed p q s.1
  stepped_keeps records (Reads path site mark word next) p end h q s = load p word mark s.1 q s.2
  stepped_keeps records (Writes path site word v g) p end h q s = store p word v q s.1
  stepped_keeps records (Prints piece g) p end h q s = stayed p q s.1
  stepped_keeps records (Forks path number count from by body next) p end h q s = stayed p q s.1
  stepped_keeps records Joins p end h q s = stayed p q s.1
  stepped_keeps records Halts p end h q s = stayed p q s.1
  stepped_keeps records (Faults kind line) p end h q s = stayed p q s.1
  stepped_keeps records Stuck p end h q s = stayed p q s.1

-- a step over a memory side changes none of what no call changes
pub step_stays : {F : Type 0} (side : Ghosts F) (p : ℕ) (records : Input) (a : Act Frame) (old : F) (end : StepEnd) (h : Held) (new : F) → Stepped (as_port side p) records a old end h new → Stays side old new
step_stays side p records a old end h new s =
    stepped_keeps (as_port side p) (Stays side) (stays_same side) (λ f word mark v g made. made.1) (λ f word v g made. made.1) records a old end h new s
