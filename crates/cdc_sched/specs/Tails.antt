-- Where a tail stands.
use Rattle.std.specs.Prelude.{◌≡◌, ℕ, ◌%◌}
use Rattle.cdc_sched.specs.declared.header.TailKind.{TailKind}
use Rattle.cdc_sched.specs.declared.header.TailKind.TheVariants.{None as NoTail, RoundRobin, Random}
use Rattle.cdc_sched.specs.declared.tail.Tail.{Tail}
use Rattle.cdc_sched.specs.Tail.{random_number}

-- whose turn it is behind so many events, or the generator's number
abbrev pub IsAt : TailKind → ℕ → Tail → Type 0
IsAt NoTail k tail = Unit {0}
IsAt RoundRobin k tail = tail.turn ≡ k % tail.procs
IsAt (Random seed) k tail = tail.number ≡ random_number seed k

-- The tail of this kind, for so many processors and lines of memory, has given so many events.
pub record Stands (kind : TailKind) (procs lines k : ℕ) (tail : Tail) : Type 0 where
  pub kind_is : tail.kind ≡ kind
  pub procs_are : tail.procs ≡ procs
  pub lines_are : tail.lines ≡ lines
  pub at : IsAt kind k tail

abbrev pub tail_procs : Tail → ℕ
tail_procs tail = tail.procs
