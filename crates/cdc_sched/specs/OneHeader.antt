-- A schedule file has at most one header and at most one line that is refused, and never both.
use Rattle.std.specs.Prelude.{◌≡◌, ℕ, List, length, take, drop}
use Rattle.std.specs.Str.Lines.{lines}
use Rattle.cdc_sched.specs.declared.header.Header.{Header}
use Rattle.cdc_sched.specs.Headers.{HasHeader, IsBadHeader}
use Rattle.cdc_sched.specs.Listing.{schedule_events, schedule_bad}

-- The headers are the same, and behind both places are the same lines with the same numbers. The places need not be equal.
pub record IsSameHeader (bytes : List ℕ) (h k : Header) (a b : ℕ) : Type 0 where
  pub header : h ≡ k
  pub behind : lines (drop a bytes) ≡ lines (drop b bytes)
  pub count : length (lines (take a bytes)) ≡ length (lines (take b bytes))
  pub events : (procs : ℕ) → schedule_events bytes a procs ≡ schedule_events bytes b procs
  pub bad : (procs : ℕ) → schedule_bad bytes a procs ≡ schedule_bad bytes b procs

abbrev pub OneHeader : Type 0
OneHeader = (bytes : List ℕ) (h k : Header) (a b : ℕ) → HasHeader bytes h a → HasHeader bytes k b → IsSameHeader bytes h k a b

pub record OneRefusal : Type 0 where
  pub not_both : (bytes : List ℕ) (h : Header) (a n : ℕ) → HasHeader bytes h a → IsBadHeader bytes n → ⊥
  pub one : (bytes : List ℕ) (m n : ℕ) → IsBadHeader bytes m → IsBadHeader bytes n → m ≡ n
