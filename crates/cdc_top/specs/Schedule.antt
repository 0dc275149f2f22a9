-- The schedules that `run` takes, and those that it refuses.
use Rattle.std.specs.Prelude.{ℕ, ◌≤◌, List, [], ◌∷◌, length, codes}
use Rattle.cdc_text.specs.Texts.{number, line}
use Rattle.cdc_sched.specs.declared.header.Header.{Header}
use Rattle.cdc_sched.specs.Headers.{HasHeader, IsBadHeader}
use Rattle.cdc_top.specs.Report.{Answer, answer}
use Rattle.cdc_top.specs.declared.limits.TheConstants.{SCHEDULE_LIMIT}
use Rattle.cdc_top.specs.declared.status.TheConstants.{INPUT_REFUSED}

-- a file within its limit that has this header, with the place of the first byte behind it
pub record IsSchedule (bytes : List ℕ) (header : Header) (at : ℕ) : Type 0 where
  pub within : length bytes ≤ SCHEDULE_LIMIT
  pub has : HasHeader bytes header at

-- a file within its limit whose line of this number is the first that does not fit its place in a header
pub record IsBadSchedule (bytes : List ℕ) (number : ℕ) : Type 0 where
  pub within : length bytes ≤ SCHEDULE_LIMIT
  pub bad : IsBadHeader bytes number

abbrev pub schedule_too_long : Answer
schedule_too_long = answer (line (codes "refused schedule over 16777216 bytes" ∷ [])) INPUT_REFUSED

abbrev pub header_refused : (line : ℕ) → Answer
header_refused n = answer (line (codes "refused header line " ∷ number n ∷ [])) INPUT_REFUSED
