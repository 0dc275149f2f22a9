-- What `seq` and `run` answer for an accepted program, up to its records, and what `seq` answers then: it is carried out on one memory.
use Rattle.std.specs.Prelude.{◌≡◌, ◌⊎◌, ℕ, ◌<◌, ◌≤◌, List, [], ◌∷◌, ◌++◌, length, codes}
use Rattle.cdc_base.specs.declared.place.Place.{Place}
use Rattle.cdc_input.specs.declared.file.InputRefusal.TheVariants.{BadNumber}
use Rattle.cdc_input.specs.Records.{records_of}
use Rattle.cdc_input.specs.Refusals.{HasNoFault, Fails}
use Rattle.cdc_prog.specs.Meaning.{Meaning}
use Rattle.cdc_prog.specs.Input.{Input}
use Rattle.cdc_text.specs.Texts.{number, line}
use Rattle.cdc_report.specs.End.{end_line}
use Rattle.cdc_top.specs.Report.{Answer, answer, line_end, status_of}
use Rattle.cdc_replay.specs.Refused.{end_of}
use Rattle.cdc_top.specs.declared.limits.TheConstants.{INPUT_LIMIT}
use Rattle.cdc_top.specs.declared.status.TheConstants.{INPUT_REFUSED}

-- an input within its limit without a fault
pub record IsGoodInput (bytes : List ℕ) : Type 0 where
  pub within : length bytes ≤ INPUT_LIMIT
  pub no_fault : HasNoFault bytes

-- an input within its limit, with its first fault
pub record IsBadInput (bytes : List ℕ) (place : Place) : Type 0 where
  pub within : length bytes ≤ INPUT_LIMIT
  pub fails : Fails bytes (BadNumber place)

abbrev pub input_too_long : Answer
input_too_long = answer (line (codes "refused input over 1048576 bytes" ∷ [])) INPUT_REFUSED

abbrev pub input_bad : Place → Answer
input_bad place = answer (line (codes "refused input at " ∷ number place.line ∷ codes ":" ∷ number place.column ∷ [])) INPUT_REFUSED

-- the output, the line end that it may lack, and the line on the end, with the status of that end
abbrev pub carried_out : Meaning → Answer
carried_out m = answer (m.bytes ++ (line_end m.bytes ++ end_line (end_of m.end))) (status_of (end_of m.end))

-- the input is refused, or its records are answered
abbrev pub InputIs : (answers : Input → Answer → Type 0) → List ℕ → Answer → Type 0
InputIs answers bytes a =
    ((INPUT_LIMIT < length bytes) × (a ≡ input_too_long))
    ⊎ (((place : Place) × IsBadInput bytes place × (a ≡ input_bad place))
    ⊎ (IsGoodInput bytes × answers (records_of bytes) a))

-- the program is carried out on the records
abbrev pub IsCarriedOut : (meaning_on : Input → Meaning) → Input → Answer → Type 0
IsCarriedOut meaning_on records a = a ≡ carried_out (meaning_on records)
