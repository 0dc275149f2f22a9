-- The lines on a run: how it ended, and what was counted.
use Rattle.std.specs.Prelude.{ℕ, zero, suc, List, [], ◌∷◌, ◌++◌, codes}
use Rattle.cdc_prog.specs.declared.program.FaultKind.{FaultKind}
use Rattle.cdc_prog.specs.declared.program.FaultKind.TheVariants.{Overflow, ZeroDivisor, Subscript, ZeroStep, TripTooLarge, InputEnded}
use Rattle.cdc_fabric.specs.declared.counts.Counts.{Counts}
use Rattle.cdc_epoch.specs.declared.outcome.Tally.{Tally}
use Rattle.cdc_epoch.specs.declared.outcome.Outcome.{Outcome}
use Rattle.cdc_epoch.specs.declared.outcome.Outcome.TheVariants.{Done, Fault, Stopped, BadEvent, ReadFault, SinkFault}
use Rattle.cdc_text.specs.Texts.{number, line_feed, joined, line}

abbrev pub kind_text : FaultKind → List ℕ
kind_text Overflow = codes "overflow"
kind_text ZeroDivisor = codes "zero divisor"
kind_text Subscript = codes "subscript"
kind_text ZeroStep = codes "zero step"
kind_text TripTooLarge = codes "trip too large"
kind_text InputEnded = codes "input ended"

-- a run that ended by itself, or was stopped
abbrev pub HasEnded : Outcome → Type 0
HasEnded (BadEvent line) = ⊥
HasEnded ReadFault = ⊥
HasEnded SinkFault = ⊥
HasEnded end = Unit {0}

-- the line on such an end
abbrev pub end_line : Outcome → List ℕ
end_line Done = line (codes "= end done" ∷ [])
end_line (Fault kind at) = line (codes "= end fault " ∷ kind_text kind ∷ codes " at line " ∷ number at ∷ [])
end_line Stopped = line (codes "= end stopped" ∷ [])
end_line end = []

-- the boundaries, and the events, with those that were idle
abbrev pub event_lines : (boundaries : ℕ) → Tally → (bound : ℕ) → List ℕ
event_lines boundaries tally bound = joined (
    codes "= boundaries " ∷ number boundaries ∷ line_feed
    ∷ codes "= events " ∷ number tally.events ∷ codes " of " ∷ number bound ∷ line_feed
    ∷ codes "= idle " ∷ number tally.idle ∷ line_feed ∷ [])

abbrev pub count_line : (p : ℕ) → Counts → List ℕ
count_line p counts = line (
    codes "= p" ∷ number p ∷ codes " steps " ∷ number counts.steps ∷ codes " reads " ∷ number counts.reads ∷ codes " ordinary " ∷ number counts.ordinary
    ∷ codes " marked " ∷ number counts.marked ∷ codes " misses " ∷ number counts.misses ∷ codes " evicted " ∷ number counts.evicted
    ∷ codes " invalidated " ∷ number counts.invalidated ∷ [])

-- of each processor in order
abbrev pub count_lines : (counts : ℕ → Counts) → (procs : ℕ) → List ℕ
count_lines counts zero = []
count_lines counts (suc p) = count_lines counts p ++ count_line p (counts p)

-- all lines on a run that ended by itself, or was stopped
abbrev pub run_text : Outcome → (boundaries : ℕ) → Tally → (bound : ℕ) → (counts : ℕ → Counts) → (procs : ℕ) → List ℕ
run_text end boundaries tally bound counts procs = end_line end ++ (event_lines boundaries tally bound ++ count_lines counts procs)
