-- What the tool prints on a run or a program, and its statuses.
use Rattle.std.specs.Prelude.{ℕ, if◌then◌else◌, List, [], ◌∷◌, ◌++◌, codes}
use Rattle.cdc_prog.specs.Lines.{is_open}
use Rattle.cdc_fabric.specs.declared.counts.Counts.{Counts}
use Rattle.cdc_epoch.specs.declared.outcome.Tally.{Tally}
use Rattle.cdc_epoch.specs.declared.outcome.Outcome.{Outcome}
use Rattle.cdc_epoch.specs.declared.outcome.Outcome.TheVariants.{Done, Fault, Stopped, BadEvent, ReadFault, SinkFault}
use Rattle.cdc_text.specs.Texts.{number, line}
use Rattle.cdc_report.specs.End.{run_text}
use Rattle.cdc_top.specs.declared.status.TheConstants.{DONE, FAULTED, STOPPED, INPUT_REFUSED, READ_FAULT, WRITE_FAULT}

-- the bytes that are printed, and the status
pub record Answer : Type 0 where
  pub bytes : List ℕ
  pub status : ℕ

abbrev pub answer : List ℕ → ℕ → Answer
answer bytes status = record { bytes = bytes; status = status }

-- the line end that an output may lack
abbrev pub line_end : List ℕ → List ℕ
line_end output = if is_open output then 10 ∷ [] else []

-- a line of the schedule that is no event
abbrev pub bad_event_line : (line : ℕ) → List ℕ
bad_event_line n = line (codes "= bad event line " ∷ number n ∷ [])

-- the lines on a run; a bad event stands in place of them all
abbrev pub report : Outcome → (boundaries : ℕ) → Tally → (bound : ℕ) → (counts : ℕ → Counts) → (procs : ℕ) → List ℕ
report (BadEvent line) boundaries tally bound counts procs = bad_event_line line
report end boundaries tally bound counts procs = run_text end boundaries tally bound counts procs

-- by how the run or the program ended
abbrev pub status_of : Outcome → ℕ
status_of Done = DONE
status_of (Fault kind at) = FAULTED
status_of Stopped = STOPPED
status_of (BadEvent line) = INPUT_REFUSED
status_of ReadFault = READ_FAULT
status_of SinkFault = WRITE_FAULT
