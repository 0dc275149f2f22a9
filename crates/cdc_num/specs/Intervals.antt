-- Intervals of whole numbers.
use Rattle.std.specs.Prelude.{ℕ, ◌≤◌, nat_abs, int_lt, Bool, ◌&&◌, ◌||◌, ℤ, pos, negsuc, ◌+ℤ◌, ◌-ℤ◌, ◌*ℤ◌, neg_ℤ, ◌≤ℤ◌}
use Rattle.cdc_num.specs.declared.interval.Interval.{Interval}

-- a number of the interval
pub record Between (i : Interval) (x : ℤ) : Type 0 where
  pub low : i.lo ≤ℤ x
  pub high : x ≤ℤ i.hi

-- the products of a number with those from lo to hi
abbrev pub times : ℤ → (lo hi : ℤ) → Interval
times (pos a) lo hi = record { lo = pos a *ℤ lo; hi = pos a *ℤ hi }
times (negsuc a) lo hi = record { lo = negsuc a *ℤ hi; hi = negsuc a *ℤ lo }

abbrev pub plus : Interval → Interval → Interval
plus i j = record { lo = i.lo +ℤ j.lo; hi = i.hi +ℤ j.hi }

-- the numbers of i less those of j, and d more
abbrev pub minus : Interval → Interval → (d : ℤ) → Interval
minus i j d = record { lo = (i.lo -ℤ j.hi) +ℤ d; hi = (i.hi -ℤ j.lo) +ℤ d }

abbrev pub leaves_out_zero : Interval → Bool
leaves_out_zero i = int_lt (pos 0) i.lo || int_lt i.hi (pos 0)

-- strictly between -m and m
abbrev pub lies_within : ℕ → Interval → Bool
lies_within m i = int_lt (neg_ℤ (pos m)) i.lo && int_lt i.hi (pos m)

-- both ends are at most n in absolute value
pub record IsBelow (n : ℕ) (i : Interval) : Type 0 where
  pub low : nat_abs i.lo ≤ n
  pub high : nat_abs i.hi ≤ n
