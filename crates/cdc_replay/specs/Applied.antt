-- Which events of a schedule a run applies: the listed ones in order, and then those of a tail, until the machine has ended or so many are applied.
use Rattle.std.specs.Prelude.{ℕ, zero, suc, List, [], ◌∷◌, Bool, if◌then◌else◌, Option, Some, None, is_some}
use Rattle.cdc_prog.specs.Input.{Input}
use Rattle.cdc_prog.specs.InOrder.{choose}
use Rattle.cdc_prog.specs.Meaning.{bytes_of}
use Rattle.cdc_code.specs.declared.code.Code.{Code}
use Rattle.cdc_sched.specs.declared.event.Event.{Event}
use Rattle.cdc_sched.specs.Told.{Told}
use Rattle.cdc_machine.specs.Code.{run, ended_with}

-- `has_ended` says whether the machine has after these events, the newest first, and `left` how many more may be applied
module _ (has_ended : List Event → Bool) where
  -- the events of a tail, from its event k on
  abbrev pub with_tail : (tail : ℕ → Option Event) → (left k : ℕ) → List Event → List Event
  with_tail tail zero k applied = applied
  with_tail tail (suc left) k applied = if has_ended applied then applied else choose (tail k) (λ e. with_tail tail left (suc k) (e ∷ applied)) applied

  -- listed events, and what comes behind them
  abbrev pub with_listed : List Event → (behind : (left : ℕ) → List Event → List Event) → (left : ℕ) → List Event → List Event
  with_listed [] behind left applied = behind left applied
  with_listed (e ∷ listed) behind zero applied = applied
  with_listed (e ∷ listed) behind (suc left) applied = if has_ended applied then applied else with_listed listed behind left (e ∷ applied)

  -- behind a bad line no tail comes
  abbrev pub behind_listed : (bad : Option ℕ) → (tail : ℕ → Option Event) → (left : ℕ) → List Event → List Event
  behind_listed None tail left applied = with_tail tail left 0 applied
  behind_listed (Some line) tail left applied = applied

abbrev pub has_ended : Code → Input → List Event → Bool
has_ended code records events = is_some (ended_with (run code records events).machine.phase)

-- the events that a run applies, the newest first
abbrev pub applied_events : Code → Input → Told → (tail : ℕ → Option Event) → (bound : ℕ) → List Event
applied_events code records told tail bound = with_listed (has_ended code records) told.events (behind_listed (has_ended code records) told.bad tail) bound []

-- what the machine has printed after these events
abbrev pub output_after : Code → Input → List Event → List ℕ
output_after code records events = bytes_of code.texts (run code records events).machine.printed
