-- The events that follow the listed ones.
use Rattle.std.specs.Prelude.{ℕ, zero, suc, ◌+◌, ◌*◌, ◌/◌, ◌%◌, ◌^◌, ◌==◌, cond, Option, Some, None}
use Rattle.cdc_sched.specs.declared.event.Event.{Event}
use Rattle.cdc_sched.specs.declared.event.Event.TheVariants.{Next, Evict}
use Rattle.cdc_sched.specs.declared.header.TailKind.{TailKind}
use Rattle.cdc_sched.specs.declared.header.TailKind.TheVariants.{None as NoTail, RoundRobin, Random}

-- the number that the generator makes of the one before
abbrev pub next_random : ℕ → ℕ
next_random x = (x * 6364136223846793005 + 1442695040888963407) % 2 ^ 64

-- the generator's number before so many further ones, from its first one on
abbrev pub random_number : ℕ → ℕ → ℕ
random_number seed zero = seed
random_number seed (suc k) = next_random (random_number seed k)

-- the event of a number of the generator, for so many processors and lines of memory
abbrev pub random_event : ℕ → ℕ → ℕ → Event
random_event procs lines x =
    let p = x / 2 ^ 33 % procs in
    cond (x / 2 ^ 60 == 0) (Evict p (x / 2 ^ 20 % lines)) (Next p)

-- The event of a tail behind so many others of it.
abbrev pub tail_event : TailKind → ℕ → ℕ → ℕ → Option Event
tail_event NoTail procs lines k = None
tail_event RoundRobin procs lines k = Some (Next (k % procs))
tail_event (Random seed) procs lines k = Some (random_event procs lines (random_number seed (k + 1)))
