-- What the effect of an event tells: a piece that is printed, an end, and whether the event was idle.
use Rattle.std.specs.Prelude.{◌≡◌, ℕ, ◌+◌, ◌-◌, nat_lt, Bool, false, ◌&&◌, List, [], ◌∷◌, Option, Some, None, is_none}
use Rattle.cdc_prog.specs.declared.piece.Piece.{Piece}
use Rattle.cdc_prog.specs.InOrder.{End, Done, Faulted}
use Rattle.cdc_sched.specs.declared.event.Event.{Event}
use Rattle.cdc_sched.specs.declared.event.Event.TheVariants as event
use Rattle.cdc_machine.specs.declared.effect.Effect.{Effect}
use Rattle.cdc_machine.specs.declared.effect.Effect.TheVariants as effect
use Rattle.cdc_replay.specs.declared.progress.Progress.{Progress}
use Rattle.cdc_epoch.specs.declared.outcome.Outcome.{Outcome}
use Rattle.cdc_epoch.specs.declared.outcome.Outcome.TheVariants as run

abbrev pub piece_in : Effect → List Piece
piece_in (effect.Printed piece) = piece ∷ []
piece_in e = []

abbrev pub idles : Effect → ℕ
idles effect.Idle = 1
idles e = 0

-- the end that is told, or the one before
abbrev pub end_in : Effect → Option End → Option End
end_in effect.Ended o = Some Done
end_in (effect.Faulted kind line) o = Some (Faulted (record { kind = kind; line = line }))
end_in e o = o

abbrev pub run_end_in : Effect → Option Outcome → Option Outcome
run_end_in effect.Ended o = Some run.Done
run_end_in (effect.Faulted kind line) o = Some (run.Fault kind line)
run_end_in e o = o

abbrev pub at_start : (bound : ℕ) → Progress
at_start bound = record { left = bound; idle = 0; is_open = false; end = None }

-- one event more was applied, of this effect, which is not printed yet
abbrev pub counted : Effect → Progress → Progress
counted e p = record { left = p.left - 1; idle = p.idle + idles e; is_open = p.is_open; end = run_end_in e p.end }

-- so many idle ones more
abbrev pub passed : ℕ → Progress → Progress
passed n p = record { left = p.left - n; idle = p.idle + n; is_open = p.is_open; end = p.end }

-- an event may be applied, and the machine has not ended
abbrev pub can_go_on : Progress → Bool
can_go_on p = nat_lt 0 p.left && is_none p.end

-- an event that was idle, and is idle again where it comes again
abbrev pub IsIdleAgain : Event → Effect → Type 0
IsIdleAgain (event.Evict p line) e = ⊥
IsIdleAgain event e = e ≡ effect.Idle
