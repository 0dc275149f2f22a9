-- The call that an event makes is one that may be made.
use Rattle.std.proofs.Common.{◌≡◌, ℕ, ◌<◌, Some, None, refl, sym, subst}
use Rattle.cdc_prog.specs.InOrder.{choose}
use Rattle.cdc_code.specs.Act.{Act, Goes, Reads, Writes, Prints, Forks, Joins, Halts, Faults, Stuck}
use Rattle.cdc_code.specs.Frames.{Frame}
use Rattle.cdc_code.specs.Rows.{act}
use Rattle.cdc_fabric.specs.Calls.{Boundary}
use Rattle.cdc_fabric.specs.declared.fabric.Fabric.{Ghosts}
use Rattle.cdc_sched.specs.declared.event.Event.{Event}
use Rattle.cdc_sched.specs.declared.event.Event.TheVariants as event
use Rattle.cdc_task.specs.Steps.{IsFit, GoesOn}
use Rattle.cdc_machine.specs.Machine.{TaskOf, Waiting, Running, Ended, PhaseOf, Serial, Doall, Over, DeedOf, Rests, Takes, Acts, Closes, Drops, hand, free, least_free, least_fault, unended, closing, taking, acting, enabled, unless_over, deed, call_by, fork_call_by, fork_call, closing_call, call}
use Rattle.cdc_machine.specs.Laws.{IsOver}
use Rattle.cdc_machine.specs.Code.{State, entry_of, exit_of}
use Rattle.cdc_prog.specs.InOrder.{first_of}
use Rattle.cdc_machine.proofs.Enabled.{choose_by, IsLive, Enabled, enabled_right}
use Rattle.cdc_epoch.specs.declared.engine.Engine.{Engine}
use Rattle.cdc_epoch.specs.Side.{IsCallFor}
use Rattle.cdc_epoch.specs.Ties.{IsReady, CanGo, processor}

-- a deed of this processor, or of none
abbrev IsOf : (p : ℕ) → DeedOf Frame → Type 0
IsOf p Rests = Unit {0}
IsOf p (Takes q i at) = q ≡ p
IsOf p (Acts q i at) = q ≡ p
IsOf p Closes = Unit {0}
IsOf p (Drops q line) = q ≡ p

module _ (m : State) where
  closing_of : (p : ℕ) → IsOf p (closing m)
  closing_of p = choose_by (IsOf p) (first_of (λ k. unended (m.tasks k)) m.count) (λ u. Rests) Closes (λ u e. tt) (λ e. tt)

  enabled_of : (e : Event) → IsOf (processor e) (enabled e m)
  enabled_of (event.Take p i) = choose_by (IsOf p) (hand p m) (λ h. Rests) (choose (free i m) (taking p) Rests) (λ h e. tt) (λ e. choose_by (IsOf p) (free i m) (taking p) Rests (λ h e. refl) (λ e. tt))
  enabled_of (event.Step p) = choose_by (IsOf p) (hand p m) (acting p) (closing m) (λ h e. refl) (λ e. closing_of p)
  enabled_of (event.Next p) = choose_by (IsOf p) (hand p m) (acting p) (choose (least_free m) (taking p) (closing m)) (λ h e. refl)
      (λ e. choose_by (IsOf p) (least_free m) (taking p) (closing m) (λ h e. refl) (λ e. closing_of p))
  enabled_of (event.Evict p line) = refl

  deed_of : (e : Event) → IsOf (processor e) (deed e m)
  deed_of e = go m.phase
    where
      go : (phase : PhaseOf Frame) → IsOf (processor e) (unless_over phase (enabled e m))
      go Serial = enabled_of e
      go (Doall number next) = enabled_of e
      go (Over end) = tt

module _ {F : Type 0} (side : Ghosts F) (engine : Engine F side) (m : State) (ready : IsReady side engine m) where
  abbrev look : Frame → Act Frame
  look = act engine.code

  act_fits : (p : ℕ) → p < side.procs engine.side → (a : Act Frame) → IsFit (side.words engine.side) a → IsCallFor side engine.side (call_by look (entry_of engine.code) (exit_of engine.code) p a)
  act_fits p lt (Goes g) f = tt
  act_fits p lt (Reads path site mark word next) f = (lt, f.0)
  act_fits p lt (Writes path site word value g) f = (lt, f.0)
  act_fits p lt (Prints piece g) f = tt
  act_fits p lt (Forks path number count from by body next) f = tt
  act_fits p lt Joins f = tt
  act_fits p lt Halts f = tt
  act_fits p lt (Faults kind line) f = tt
  act_fits p lt Stuck f = tt

  fork_fits : (a : Act Frame) → IsCallFor side engine.side (fork_call_by look (entry_of engine.code) (exit_of engine.code) a)
  fork_fits (Goes g) = tt
  fork_fits (Reads path site mark word next) = tt
  fork_fits (Writes path site word value g) = tt
  fork_fits (Prints piece g) = tt
  fork_fits (Forks path number count from by body next) = ready.entries number
  fork_fits Joins = tt
  fork_fits Halts = tt
  fork_fits (Faults kind line) = tt
  fork_fits Stuck = tt

  task_fits : (t : TaskOf Frame) → IsCallFor side engine.side (fork_call look (entry_of engine.code) (exit_of engine.code) t)
  task_fits (Waiting at) = tt
  task_fits (Running p at) = tt
  task_fits (Ended p at) = fork_fits (look at)

  closing_fits : (phase : PhaseOf Frame) → IsCallFor side engine.side (closing_call look (entry_of engine.code) (exit_of engine.code) phase m)
  closing_fits Serial = task_fits (m.tasks 0)
  closing_fits (Doall number next) = choose_by (IsCallFor side engine.side) (least_fault look (entry_of engine.code) (exit_of engine.code) m) (λ f. None) (Some (Boundary (exit_of engine.code number))) (λ f e. tt) (λ e. ready.exits number)
  closing_fits (Over end) = tt

  pub call_fits : side.words engine.side ≡ engine.code.words → (e : Event) → processor e < side.procs engine.side → IsCallFor side engine.side (call look (entry_of engine.code) (exit_of engine.code) (deed e m) m)
  call_fits words e lt = go (deed e m) (enabled_right m e) (deed_of m e)
    where
      not_over : (phase : PhaseOf Frame) → IsLive phase → IsOver phase → ⊥
      not_over Serial l o = o
      not_over (Doall number next) l o = o
      not_over (Over end) l o = l

      go : (d : DeedOf Frame) → Enabled m d → IsOf (processor e) d → IsCallFor side engine.side (call look (entry_of engine.code) (exit_of engine.code) d m)
      go Rests f of = tt
      go (Takes p i at) f of = tt
      go (Acts p i at) f of =
          let goes : GoesOn engine.code at = subst (CanGo engine.code) f.1.1 (ready.tasks (not_over m.phase f.0) i f.1.0) in
          act_fits p (subst (λ q. q < side.procs engine.side) (sym of) lt) (look at) (subst (λ n. IsFit n (look at)) (sym words) goes.acts)
      go Closes f of = closing_fits m.phase
      go (Drops p line) f of = subst (λ q. q < side.procs engine.side) (sym of) lt
