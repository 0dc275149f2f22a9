-- Common divisors of numbers without a sign.
use Rattle.std.specs.Prelude.{ℕ, zero, suc, ◌%◌, nat_eq, Bool}

abbrev pub gcd_in : (steps : ℕ) → ℕ → ℕ → ℕ
gcd_in zero a b = a
gcd_in (suc n) a zero = a
gcd_in (suc n) a (suc b) = gcd_in n (suc b) (a % suc b)

-- the greatest common divisor, by Euclid's remainders, of which there are at most b; that of 0 and 0 is 0
unfoldable pub gcd : ℕ → ℕ → ℕ
gcd a b = gcd_in (suc b) a b

-- 0 divides 0 alone
abbrev pub divides : ℕ → ℕ → Bool
divides zero n = nat_eq n 0
divides (suc d) n = nat_eq (n % suc d) 0
