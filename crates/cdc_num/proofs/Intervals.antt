-- What intervals hold.
use Rattle.std.proofs.Common.{◌≡◌, ◌≢◌, ℕ, ◌+◌, ◌*◌, ◌^◌, ◌≤◌, ◌⊎◌, Bool, true, false, ℤ, pos, negsuc, ◌+ℤ◌, ◌-ℤ◌, ◌*ℤ◌, ◌≤ℤ◌, refl, inl, inr, arith}
use Rattle.std.specs.Prelude.{int_lt, ◌||◌}
use Rattle.std.proofs.lemmas.Int.{ints}
use Rattle.cdc_num.specs.declared.interval.Interval.{Interval}
use Rattle.cdc_num.specs.Intervals.{Between, times, plus, minus, leaves_out_zero, IsBelow}
use Rattle.cdc_num.proofs.Whole.{mul-le, mul-ge}

pub times_has : (a lo hi x : ℤ) → lo ≤ℤ x → x ≤ℤ hi → Between (times a lo hi) (a *ℤ x)
times_has (pos a) lo hi x low high = record { low = mul-le a lo x low; high = mul-le a x hi high }
times_has (negsuc a) lo hi x low high = record { low = mul-ge a x hi high; high = mul-ge a lo x low }

pub plus_has : (i j : Interval) (x y : ℤ) → Between i x → Between j y → Between (plus i j) (x +ℤ y)
plus_has i j x y h k = record { low = omega (arith, ints); high = omega (arith, ints) }

pub minus_has : (i j : Interval) (d x y : ℤ) → Between i x → Between j y → Between (minus i j d) ((x -ℤ y) +ℤ d)
minus_has i j d x y h k = record { low = omega (arith, ints); high = omega (arith, ints) }

pub or_true : (p q : Bool) → (p || q) ≡ true → (p ≡ true) ⊎ (q ≡ true)
or_true true q e = inl refl
or_true false q e = inr e

pub leaves_out : (i : Interval) (x : ℤ) → leaves_out_zero i ≡ true → Between i x → x ≢ pos 0
leaves_out i x e h z = go (or_true (int_lt (pos 0) i.lo) (int_lt i.hi (pos 0)) e)
  where
    go : (int_lt (pos 0) i.lo ≡ true) ⊎ (int_lt i.hi (pos 0) ≡ true) → ⊥
    go (inl l) = omega (arith, ints)
    go (inr l) = omega (arith, ints)

-- why no sum of a form leaves 128 bits: each term is at most 2^94 in absolute value, and 2^30 of them are at most 2^124
pub plus_below : (m n : ℕ) (i j : Interval) → IsBelow m i → IsBelow n j → IsBelow (m + n) (plus i j)
plus_below m n i j h k = record { low = omega (arith, ints, h.low, k.low); high = omega (arith, ints, h.high, k.high) }

pub sum_fits : (n m : ℕ) → n ≤ 2 ^ 30 → m ≤ n * 2 ^ 94 → m ≤ 2 ^ 124
sum_fits n m few le = omega arith
