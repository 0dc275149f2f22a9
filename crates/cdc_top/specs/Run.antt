-- A run of code on its records, as a schedule says, on memory without caches.
use Rattle.std.specs.Prelude.{◌≡◌, ℕ, ◌+◌, ◌*◌, ◌≤◌, List, [], ◌++◌, length, Option, Some, None, unwrap_or}
use Rattle.std.specs.Option.{option_map}
use Rattle.cdc_prog.specs.Input.{Input}
use Rattle.cdc_prog.specs.Meaning.{full_cost}
use Rattle.cdc_prog.specs.Plain.{Program}
use Rattle.cdc_code.specs.declared.code.Code.{Code}
use Rattle.cdc_fabric.specs.Uncached.{line_count}
use Rattle.cdc_sched.specs.declared.event.Event.{Event}
use Rattle.cdc_sched.specs.declared.header.Header.{Header}
use Rattle.cdc_sched.specs.declared.header.TailKind.TheVariants.{RoundRobin}
use Rattle.cdc_sched.specs.Listing.{schedule_events, schedule_bad}
use Rattle.cdc_sched.specs.Tail.{tail_event}
use Rattle.cdc_sched.specs.Told.{Told}
use Rattle.cdc_machine.specs.Code.{run, ended_with}
use Rattle.cdc_epoch.specs.declared.outcome.Outcome.{Outcome}
use Rattle.cdc_epoch.specs.declared.outcome.Outcome.TheVariants.{Stopped, BadEvent}
use Rattle.cdc_epoch.specs.declared.outcome.Tally.{Tally}
use Rattle.cdc_replay.specs.Applied.{applied_events, output_after}
use Rattle.cdc_replay.specs.Direct.{direct_counts, idle_events}
use Rattle.cdc_replay.specs.Refused.{end_of}
use Rattle.cdc_top.specs.Report.{Answer, answer, line_end, report, status_of}

-- what a file lists behind its header
abbrev pub told_in : List ℕ → Header → (at : ℕ) → Told
told_in bytes h at = record { events = schedule_events bytes at h.procs; bad = schedule_bad bytes at h.procs }

-- the events that are applied, the newest first
abbrev pub events_in : Code → Input → Told → Header → List Event
events_in code records told h = applied_events code records told (tail_event h.tail h.procs (line_count code.words)) h.bound

-- a run ends with a bad line, or as the machine did, or was stopped
abbrev pub end_in : Code → Input → (bad : Option ℕ) → List Event → Outcome
end_in code records (Some line) events = BadEvent line
end_in code records None events = unwrap_or (option_map end_of (ended_with (run code records events).machine.phase)) Stopped

abbrev pub tally_in : Code → Input → List Event → Tally
tally_in code records events = record { events = length events; idle = idle_events code records events }

-- its output, the line end that this may lack, and the lines on the run
abbrev pub played : Code → Input → Told → Header → Answer
played code records told h =
    let events = events_in code records told h in
    let output = output_after code records events in
    let end = end_in code records told.bad events in
    let lines = report end (run code records events).machine.boundaries (tally_in code records events) h.bound (direct_counts code records events) h.procs in
    answer (output ++ (line_end output ++ lines)) (status_of end)

-- The schedule has no bad line, its tail gives the processors turns, and its bound has room behind the listed events for all that the program can do.
pub record IsAmpleFor (program : Program) (records : Input) (told : Told) (h : Header) : Type 0 where
  pub fits : told.bad ≡ None
  pub turns : h.tail ≡ RoundRobin
  pub room : length told.events + h.procs * (8 * full_cost program records + 8) ≤ h.bound
