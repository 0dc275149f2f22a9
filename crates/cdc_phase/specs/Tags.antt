-- Two-phase invalidation: tags of epochs that wrap. For a width of w bits, `all` is 2 ^ w, the number of tags, and `half`
-- is 2 ^ (w - 1). Two phases of `half` epochs each take turns.
use Rattle.std.specs.Prelude.{◌≡◌, ℕ, ◌+◌, ◌-◌, ◌*◌, ◌/◌, ◌%◌, ◌≤◌, Bool, true, nat_le, ◌==◌, ◌&&◌, if◌then◌else◌, Option, Some, None}
use Rattle.cdc_prog.specs.declared.program.Mark.{Mark}
use Rattle.cdc_prog.specs.declared.program.Mark.TheVariants.{Ordinary, Time}

-- the counter of the next epoch
abbrev pub next_count : ℕ → ℕ → ℕ
next_count all count = (count + 1) % all

-- the counter less 1
abbrev pub count_before : ℕ → ℕ → ℕ
count_before all count = (count + (all - 1)) % all

-- The tag of a copy that comes in beside the one that is read: that of the epoch before, but a copy of the present epoch
-- stays one.
abbrev pub neighbour_tag : ℕ → ℕ → Option ℕ → ℕ
neighbour_tag all count None = count_before all count
neighbour_tag all count (Some tag) = if tag == count then count else count_before all count

-- the counter less the tag
abbrev pub wrapped_age : ℕ → ℕ → ℕ → ℕ
wrapped_age all count tag = (count + (all - tag % all)) % all

-- a marked read uses a copy that is at most as many epochs old as the mark says
abbrev pub tpi_admits : ℕ → ℕ → Mark → ℕ → Bool
tpi_admits all count Ordinary tag = true
tpi_admits all count (Time d) tag = nat_le (wrapped_age all count tag) d

-- the low w - 1 bits of a number of w bits, and its top bit
abbrev pub low_bits : ℕ → ℕ → ℕ
low_bits half number = number % half

abbrev pub top_bit : ℕ → ℕ → ℕ
top_bit half number = number / half % 2

-- Where a phase begins, the boundary drops the copies whose tags are of that phase: they are of its last turn. Each other
-- copy keeps its tag.
abbrev pub kept_tag : ℕ → ℕ → ℕ → ℕ → Option ℕ
kept_tag half all count tag =
    if (low_bits half (next_count all count) == 0) && (top_bit half tag == top_bit half (next_count all count)) then None else Some tag

-- In epoch e a copy's tag is its true time, wrapped, and its true time is at most `half` epochs before the present phase
-- began. Both count from 1 here (`made`), so that what is older than the first epoch has 0.
pub record IsTagged (half all e tag made : ℕ) : Type 0 where
  pub past : made ≤ e + 1
  pub recent : half * (e / half) + 1 ≤ made + half
  pub wraps : tag ≡ (made + (all - 1)) % all

-- the wrapped age of a tag is the true age of its copy
abbrev pub AgesAreTrue : ℕ → ℕ → Type 0
AgesAreTrue half all = (e tag made : ℕ) → IsTagged half all e tag made → wrapped_age all (e % all) tag + made ≡ e + 1
