-- What an event prints, and how the machine ends in it, are told by its effect.
use Rattle.std.proofs.Common.{◌≡◌, ℕ, ℤ, List, [], ◌++◌, refl, sym, ap, ◌∙◌, Bool, true, false, append-nil}
use Rattle.std.specs.Prelude.{Option, Some, None}
use Rattle.cdc_prog.specs.declared.fault.Fault.{Fault}
use Rattle.cdc_prog.specs.InOrder.{choose}
use Rattle.cdc_code.specs.Act.{Act, Goes, Reads, Writes, Prints, Forks, Joins, Halts, Faults, Stuck}
use Rattle.cdc_code.specs.Frames.{Frame}
use Rattle.cdc_machine.specs.declared.effect.Effect.TheVariants as effect
use Rattle.cdc_machine.specs.Machine.{TaskOf, Waiting, Running, Ended, PhaseOf, Serial, Doall, Over, DeedOf, Rests, Takes, Acts, Closes, Drops, said_by, phase_after, act_effect, closing_effect, closed, forked, forked_by, opened, stopped, least_fault, done, told}
use Rattle.cdc_machine.specs.Code.{State, ended_with}
use Rattle.cdc_replay.specs.Effects.{piece_in, end_in}

-- ---- an act
act_says : (phase : PhaseOf Frame) (a : Act Frame) (look : Frame → Act Frame) (entry exit : ℕ → List ℕ) → piece_in (act_effect look entry exit phase a) ≡ said_by a
act_says phase (Goes g) look entry exit = refl
act_says phase (Reads path site mark word next) look entry exit = refl
act_says phase (Writes path site word v g) look entry exit = refl
act_says phase (Prints piece g) look entry exit = refl
act_says phase (Forks path number n from by e g) look entry exit = refl
act_says Serial Joins look entry exit = refl
act_says (Doall number next) Joins look entry exit = refl
act_says (Over end) Joins look entry exit = refl
act_says Serial Halts look entry exit = refl
act_says (Doall number next) Halts look entry exit = refl
act_says (Over end) Halts look entry exit = refl
act_says Serial (Faults kind line) look entry exit = refl
act_says (Doall number next) (Faults kind line) look entry exit = refl
act_says (Over end) (Faults kind line) look entry exit = refl
act_says phase Stuck look entry exit = refl

act_ends : (phase : PhaseOf Frame) (a : Act Frame) (look : Frame → Act Frame) (entry exit : ℕ → List ℕ) → ended_with (phase_after phase a) ≡ end_in (act_effect look entry exit phase a) (ended_with phase)
act_ends Serial (Goes g) look entry exit = refl
act_ends Serial (Reads path site mark word next) look entry exit = refl
act_ends Serial (Writes path site word v g) look entry exit = refl
act_ends Serial (Prints piece g) look entry exit = refl
act_ends Serial (Forks path number n from by e g) look entry exit = refl
act_ends Serial Joins look entry exit = refl
act_ends Serial Halts look entry exit = refl
act_ends Serial (Faults kind line) look entry exit = refl
act_ends Serial Stuck look entry exit = refl
act_ends (Doall number next) (Prints piece g) look entry exit = refl
act_ends (Doall number next) a look entry exit = refl
act_ends (Over end) (Prints piece g) look entry exit = refl
act_ends (Over end) a look entry exit = refl

forked_printed : (a : Act Frame) (look : Frame → Act Frame) (entry exit : ℕ → List ℕ) (m : State) → (forked_by look entry exit a m).printed ≡ m.printed
forked_printed (Forks path number n from by e g) look entry exit m = refl
forked_printed a look entry exit m = refl

forked_ends : (a : Act Frame) (look : Frame → Act Frame) (entry exit : ℕ → List ℕ) (m : State) → m.phase ≡ Serial → ended_with (forked_by look entry exit a m).phase ≡ None
forked_ends (Forks path number n from by e g) look entry exit m is = refl
forked_ends (Goes g) look entry exit m is = ap ended_with is
forked_ends (Reads path site mark word next) look entry exit m is = ap ended_with is
forked_ends (Writes path site word v g) look entry exit m is = ap ended_with is
forked_ends (Prints piece g) look entry exit m is = ap ended_with is
forked_ends Joins look entry exit m is = ap ended_with is
forked_ends Halts look entry exit m is = ap ended_with is
forked_ends (Faults kind line) look entry exit m is = ap ended_with is
forked_ends Stuck look entry exit m is = ap ended_with is

module _ (look : Frame → Act Frame) (entry exit : ℕ → List ℕ) where
  task_printed : (t : TaskOf Frame) (m : State) → (forked look entry exit t m).printed ≡ m.printed
  task_printed (Waiting at) m = refl
  task_printed (Running p at) m = refl
  task_printed (Ended p at) m = forked_printed (look at) look entry exit m

  task_ends : (t : TaskOf Frame) (m : State) → m.phase ≡ Serial → ended_with (forked look entry exit t m).phase ≡ None
  task_ends (Waiting at) m is = ap ended_with is
  task_ends (Running p at) m is = ap ended_with is
  task_ends (Ended p at) m is = forked_ends (look at) look entry exit m is

  -- the closing of a DOALL, by its least fault
  by_fault_printed : (o : Option Fault) (next : Frame) (m : State) → (choose o (λ f. stopped f m) (opened Serial 1 (λ k. next) m)).printed ≡ m.printed
  by_fault_printed None next m = refl
  by_fault_printed (Some f) next m = refl

  by_fault_piece : (o : Option Fault) → piece_in (choose o (λ f. effect.Faulted f.kind f.line) effect.Boundary) ≡ []
  by_fault_piece None = refl
  by_fault_piece (Some f) = refl

  by_fault_ends : (o : Option Fault) (next : Frame) (m : State) (number : ℕ) (after : Frame) → ended_with (choose o (λ f. stopped f m) (opened Serial 1 (λ k. next) m)).phase ≡ end_in (choose o (λ f. effect.Faulted f.kind f.line) effect.Boundary) None
  by_fault_ends None next m number after = refl
  by_fault_ends (Some f) next m number after = refl

  closed_says : (phase : PhaseOf Frame) (m : State) → ((closed look entry exit phase m).printed ≡ m.printed) × (piece_in (closing_effect look entry exit phase m) ≡ [])
  closed_says Serial m = (task_printed (m.tasks 0) m, refl)
  closed_says (Doall number next) m = (by_fault_printed (least_fault look entry exit m) next m, by_fault_piece (least_fault look entry exit m))
  closed_says (Over end) m = (refl, refl)

  closed_ends : (phase : PhaseOf Frame) (m : State) → m.phase ≡ phase → ended_with (closed look entry exit phase m).phase ≡ end_in (closing_effect look entry exit phase m) (ended_with phase)
  closed_ends Serial m is = task_ends (m.tasks 0) m is
  closed_ends (Doall number next) m is = by_fault_ends (least_fault look entry exit m) next m number next
  closed_ends (Over end) m is = ap ended_with is

  pub says : (v : ℤ) (d : DeedOf Frame) (m : State) (there : Bool) → (done look entry exit v d m).printed ≡ m.printed ++ piece_in (told look entry exit d m there)
  says v Rests m there = sym (append-nil m.printed)
  says v (Takes p i at) m there = sym (append-nil m.printed)
  says v (Acts p i at) m there = ap (λ l. m.printed ++ l) (sym (act_says m.phase (look at) look entry exit))
  says v Closes m there = let h = closed_says m.phase m in h.0 ∙ (sym (append-nil m.printed) ∙ ap (λ l. m.printed ++ l) (sym h.1))
  says v (Drops p line) m true = sym (append-nil m.printed)
  says v (Drops p line) m false = sym (append-nil m.printed)

  pub ends : (v : ℤ) (d : DeedOf Frame) (m : State) (there : Bool) → ended_with (done look entry exit v d m).phase ≡ end_in (told look entry exit d m there) (ended_with m.phase)
  ends v Rests m there = refl
  ends v (Takes p i at) m there = refl
  ends v (Acts p i at) m there = act_ends m.phase (look at) look entry exit
  ends v Closes m there = closed_ends m.phase m refl
  ends v (Drops p line) m true = refl
  ends v (Drops p line) m false = refl
