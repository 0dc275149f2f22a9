-- Divisors of whole numbers.
use Rattle.std.proofs.Common.{◌≡◌, ℕ, zero, suc, ◌*◌, ◌/◌, ◌%◌, ◌<◌, true, ℤ, pos, negsuc, ◌*ℤ◌, neg_ℤ, refl, sym, ap, ◌∙◌, subst, arith}
use Rattle.std.specs.Prelude.{nat_abs}
use Rattle.std.specs.Int.{IsGcd, ◌∣◌}
use Rattle.std.proofs.Math.Nat.{mul-div_cancel', dvd-mul_right, eq-zero_of_zero-dvd}
use Rattle.std.proofs.lemmas.Bool.{eq-eqb}
use Rattle.std.proofs.Math.IntN.{*ℤ_comm, pos-*ℤ-pos}
use Rattle.std.proofs.lemmas.Int.{ints, unsigned_abs-mul}
use Rattle.std.proofs.lemmas.Nat.Gcd.{IsGcd-from_zero, IsGcd-from_mod, mod-eq-zero_of_dvd}
use Rattle.cdc_num.specs.Divisors.{gcd_in, gcd, divides}
use Rattle.cdc_num.proofs.Whole.{neg-mul}

gcd_in_is : (n a b : ℕ) → b < n → IsGcd a b (gcd_in n a b)
gcd_in_is zero a b h = absurd (omega arith)
gcd_in_is (suc n) a zero h = IsGcd-from_zero a zero refl
gcd_in_is (suc n) a (suc b) h = IsGcd-from_mod a (suc b) _ (gcd_in_is n (suc b) (a % suc b) (omega arith))

pub gcd_is : (a b : ℕ) → IsGcd a b (gcd a b)
unfolding gcd
gcd_is a b = gcd_in_is (suc b) a b (omega arith)

pub quotient_of : (d : ℕ) (z : ℤ) → d ∣ nat_abs z → (q : ℤ) × (z ≡ pos d *ℤ q)
quotient_of d (pos n) h = (pos (n / d), ap pos (sym (mul-div_cancel' d h)) ∙ sym (pos-*ℤ-pos d (n / d)))
quotient_of d (negsuc n) h =
    let k : ℕ = suc n / d in
    let e : d * k ≡ suc n = mul-div_cancel' d h in
    let p : pos k *ℤ pos d ≡ pos d *ℤ pos k = *ℤ_comm (pos k) (pos d) in
    let m : pos d *ℤ pos k ≡ pos (d * k) = pos-*ℤ-pos d k in
    let c : pos d *ℤ neg_ℤ (pos k) ≡ neg_ℤ (pos k) *ℤ pos d = *ℤ_comm (pos d) (neg_ℤ (pos k)) in
    let n' : neg_ℤ (pos k) *ℤ pos d ≡ neg_ℤ (pos k *ℤ pos d) = neg-mul (pos k) (pos d) in
    (neg_ℤ (pos k), omega (arith, ints))

pub divides_of : (d : ℕ) (z q : ℤ) → z ≡ pos d *ℤ q → d ∣ nat_abs z
divides_of d z q e = subst (λ n. d ∣ n) (sym (ap nat_abs e ∙ unsigned_abs-mul (pos d) q)) (dvd-mul_right d (nat_abs q))

pub divides_true : (d n : ℕ) → d ∣ n → divides d n ≡ true
divides_true zero n h = eq-eqb n 0 (eq-zero_of_zero-dvd h)
divides_true (suc d) n h = eq-eqb (n % suc d) 0 (mod-eq-zero_of_dvd (suc d) h)
