-- A bound that is large enough: behind the listed events the turns of all processors end the machine.
use Rattle.std.specs.Prelude.{◌≡◌, ℕ, ◌+◌, ◌*◌, ◌≤◌, true, List, length, None}
use Rattle.cdc_prog.specs.Input.{Input}
use Rattle.cdc_prog.specs.Meaning.{full_cost}
use Rattle.cdc_code.specs.declared.code.Code.{Code}
use Rattle.cdc_code.specs.Sound.{IsSound}
use Rattle.cdc_sched.specs.declared.header.TailKind.TheVariants.{RoundRobin}
use Rattle.cdc_sched.specs.Listing.{schedule_events}
use Rattle.cdc_sched.specs.Tail.{tail_event}
use Rattle.cdc_sched.specs.Told.{Told}
use Rattle.cdc_machine.specs.Code.{run}
use Rattle.cdc_machine.specs.Laws.{AreOf, IsOver}
use Rattle.cdc_replay.specs.Applied.{has_ended, applied_events}

-- listed events with no bad line, all of processors that are there, and a bound on all events: behind the listed ones each processor has a turn for each
-- step, taking and closing that there can be
pub record IsAmple (code : Code) (sound : IsSound code) (records : Input) (told : Told) (procs bound : ℕ) : Type 0 where
  pub fits : told.bad ≡ None
  pub some : 1 ≤ procs
  pub there : AreOf procs told.events
  pub room : length told.events + procs * (8 * full_cost sound.program records + 8) ≤ bound

pub record EveryAmpleRunEnds : Type 0 where
  -- the machine is over after the events that a run with such a bound applies, and is known to be
  pub over : (code : Code) (sound : IsSound code) (records : Input) (told : Told) (procs lines bound : ℕ) → IsAmple code sound records told procs bound →
      IsOver (run code records (applied_events code records told (tail_event RoundRobin procs lines) bound)).machine.phase
  pub ended : (code : Code) (sound : IsSound code) (records : Input) (told : Told) (procs lines bound : ℕ) → IsAmple code sound records told procs bound →
      has_ended code records (applied_events code records told (tail_event RoundRobin procs lines) bound) ≡ true
  -- the listed events of a schedule file are of processors that are there
  pub listed : (bytes : List ℕ) (at procs : ℕ) → AreOf procs (schedule_events bytes at procs)
