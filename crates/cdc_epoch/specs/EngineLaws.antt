-- What the engine's events ask of code, and what they owe.
use Rattle.std.specs.Prelude.{ℕ, ◌<◌, List}
use Rattle.cdc_prog.specs.Input.{Input}
use Rattle.cdc_code.specs.declared.code.Code.{Code}
use Rattle.cdc_code.specs.Sound.{IsSound}
use Rattle.cdc_task.specs.Laws.{HasArrays}
use Rattle.cdc_sched.specs.declared.event.Event.{Event}
use Rattle.cdc_machine.specs.Laws.{IsOver}
use Rattle.cdc_machine.specs.Code.{run}
use Rattle.cdc_epoch.specs.Ties.{CanGo}

-- after every list of events each task of sound code that a processor holds goes on or ends
abbrev pub HeldTasksGoOn : Type 0
HeldTasksGoOn = (code : Code) → IsSound code → HasArrays code → (records : Input) (events : List Event) → let m = (run code records events).machine in
    (IsOver m.phase → ⊥) → (i : ℕ) → i < m.count → CanGo code (m.tasks i)
