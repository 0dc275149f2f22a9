-- The events of a file, and how far they were given.
use Rattle.std.specs.Prelude.{◌≡◌, ℕ, ◌≤◌, Bool, true, false, List, [], ◌++◌, length, take, drop, Option, Some, None, Result, Ok, Err}
use Rattle.std.specs.Str.Lines.{lines}
use Rattle.cdc_sched.specs.declared.event.Event.{Event}
use Rattle.cdc_sched.specs.declared.events.EventRefusal.{EventRefusal}
use Rattle.cdc_sched.specs.declared.events.EventRefusal.TheVariants.{BadEvent, ReadFault}
use Rattle.cdc_sched.specs.declared.listed.Listed.{Listed}
use Rattle.cdc_sched.specs.Events.{repeated, listed, bad_line}
use Rattle.cdc_sched.specs.Told.{Told, Answer, told_of}

-- the events of the lines behind this place of a file, and the bad line after them
abbrev pub schedule_events : List ℕ → ℕ → ℕ → List Event
schedule_events bytes at procs = listed procs (lines (drop at bytes))

abbrev pub schedule_bad : List ℕ → ℕ → ℕ → Option ℕ
schedule_bad bytes at procs = bad_line procs (length (lines (take at bytes))) (lines (drop at bytes))

abbrev pub listed_events : Listed → List Event
listed_events l = repeated l.pending ++ listed l.procs (lines (drop l.at l.bytes.items))

abbrev pub listed_bad : Listed → Option ℕ
listed_bad l = bad_line l.procs l.above (lines (drop l.at l.bytes.items))

abbrev pub listed_told : Listed → Option Told
listed_told l = told_of (listed_events l) (listed_bad l)

abbrev pub listed_left : Listed → ℕ
listed_left l = length (listed_events l)

abbrev pub listed_procs : Listed → ℕ
listed_procs l = l.procs

abbrev pub listed_last : Listed → Option Answer
listed_last l = l.last

-- What the reading of the next line leaves: its events wait, or there are none, and the bad line, if any, is the answer.
abbrev pub ReadOn : Listed → Listed → Result Bool EventRefusal → Type 0
ReadOn old now (Ok true) = (listed_told now ≡ listed_told old) × (1 ≤ now.pending.count)
ReadOn old now (Ok false) = (now ≡ old) × (listed_told old ≡ told_of [] None)
ReadOn old now (Err (BadEvent line)) = (now ≡ old) × (listed_told old ≡ told_of [] (Some line))
ReadOn old now (Err ReadFault) = ⊥
