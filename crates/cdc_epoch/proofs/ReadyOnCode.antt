-- Each task of sound code that a processor holds goes on or ends.
use Rattle.std.proofs.Common.{◌≡◌, ℕ, ◌<◌, List, subst, arith}
use Rattle.cdc_prog.specs.declared.piece.Piece.{Piece}
use Rattle.cdc_prog.specs.Marked.{mark_of}
use Rattle.cdc_prog.specs.Data.{zeros}
use Rattle.cdc_prog.specs.Input.{Input}
use Rattle.cdc_prog.specs.Process.{Process}
use Rattle.cdc_prog.specs.InOrder.{End, output, ends}
use Rattle.cdc_prog.specs.Units.{process_of}
use Rattle.cdc_code.specs.declared.code.Code.{Code}
use Rattle.cdc_code.specs.Frames.{Frame}
use Rattle.cdc_code.specs.Rows.{act, first_frame}
use Rattle.cdc_code.specs.Does.{Does}
use Rattle.cdc_code.specs.Sound.{IsSound}
use Rattle.cdc_task.specs.Laws.{HasArrays}
use Rattle.cdc_task.specs.Steps.{GoesOn}
use Rattle.cdc_task.proofs.Sound.{code_goes_on}
use Rattle.cdc_sched.specs.declared.event.Event.{Event}
use Rattle.cdc_machine.specs.Machine.{TaskOf, Waiting, Running, Ended, PhaseOf, Serial, Doall, Over}
use Rattle.cdc_machine.specs.History.{HistoryOf}
use Rattle.cdc_machine.specs.Standing.{StandsAt, StandsIn}
use Rattle.cdc_machine.specs.Laws.{IsOver}
use Rattle.cdc_machine.specs.Code.{run, spent}
use Rattle.cdc_machine.proofs.OnCode.{stands, total}
use Rattle.cdc_epoch.specs.Ties.{CanGo}

module _ (code : Code) (sound : IsSound code) (arrays : HasArrays code) (records : Input) where
  abbrev D : ℕ → Process → Frame → Type 0
  D = Does code sound.marks.reads (GoesOn code)

  does : D 8 (process_of sound.program records) (first_frame code records)
  does = code_goes_on.sound code sound records arrays

  can_go : (t : TaskOf Frame) (q : Process) → StandsAt (act code) D (mark_of sound.marks.reads) t q → CanGo code t
  can_go (Waiting at) q s = tt
  can_go (Running p at) q s = code_goes_on.here code sound.marks.reads s.0 q at s.1
  can_go (Ended p at) q s = tt

  pub tasks_go : (events : List Event) → let h = run code records events in (IsOver h.machine.phase → ⊥) → (i : ℕ) → i < h.machine.count → CanGo code (h.machine.tasks i)
  tasks_go events live i lt = let n = stands code sound (GoesOn code) records does events in go (spent code records events) n.0 (run code records events).machine.phase live n.1
    where
      h : HistoryOf Frame
      h = run code records events

      out : List Piece
      out = output (process_of sound.program records) zeros

      last : End
      last = ends (process_of sound.program records) zeros

      go : (n : ℕ) (began : ℕ → Process) (phase : PhaseOf Frame) → (IsOver phase → ⊥) → StandsIn (act code) D (mark_of sound.marks.reads) (output (process_of sound.program records) zeros) (ends (process_of sound.program records) zeros) (total code sound (GoesOn code) records does) n began phase h → CanGo code (h.machine.tasks i)
      go n began Serial l s =
          let zero : 0 ≡ i = omega (arith, s.one, lt) in
          subst (λ j. CanGo code (h.machine.tasks j)) zero (can_go (h.machine.tasks 0) s.rest s.stands)
      go n began (Doall number next) l d = can_go (h.machine.tasks i) (d.each i lt).rest (d.each i lt).stands
      go n began (Over end) l o = absurd (l tt)
