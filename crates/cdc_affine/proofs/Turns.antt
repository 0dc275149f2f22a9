-- The last value of a loop's variable lies between its first value and its limit.
use Rattle.std.proofs.Common.{◌≡◌, ℕ, zero, suc, ◌+◌, ◌-◌, ◌*◌, ◌/◌, ◌^◌, ◌≤◌, ℤ, pos, negsuc, ◌+ℤ◌, ◌-ℤ◌, ◌*ℤ◌, neg_ℤ, ◌≤ℤ◌, ◌<ℤ◌, FitsSigned, Ok, refl, sym, ap, ◌∙◌, subst, arith}
use Rattle.std.specs.Prelude.{nat_abs, int_div}
use mir.Syntax.{w64}
use Rattle.std.proofs.Math.Nat.{div-mul-le_self, mul-le-mul_left, add-mul, zero-mul}
use Rattle.std.proofs.Math.IntN.{pos-*ℤ-pos, pos-*ℤ-negsuc, zero-*ℤ}
use Rattle.std.proofs.lemmas.Int.{ints}
use Rattle.cdc_num.specs.Exact.{at_least_zero}
use Rattle.cdc_prog.specs.Value.{trips}

pub record IsLast (m1 m2 m3 : ℤ) (last : ℕ) : Type 0 where
  pub few : last ≤ 2 ^ 65
  pub low : pos 0 ≤ℤ ((m1 +ℤ (pos last *ℤ m3)) +ℤ pos (2 ^ 63))
  pub high : (m1 +ℤ (pos last *ℤ m3)) <ℤ pos (2 ^ 63)
  pub room : last * nat_abs m3 ≤ 2 ^ 65

no_turns : (m1 m2 m3 : ℤ) (n : ℕ) → FitsSigned w64 m1 → n ≡ 0 → IsLast m1 m2 m3 (n - 1)
no_turns m1 m2 m3 n f e =
    let none : n - 1 ≡ 0 = omega arith in
    let z : pos 0 *ℤ m3 ≡ pos 0 = zero-*ℤ m3 in
    let m : 0 * nat_abs m3 ≡ 0 = zero-mul (nat_abs m3) in
    subst (IsLast m1 m2 m3) (sym none) (record { few = omega arith; low = omega (arith, ints); high = omega (arith, ints); room = omega arith })

at_neg : (q : ℕ) → at_least_zero (neg_ℤ (pos q)) ≡ 0
at_neg zero = refl
at_neg (suc q) = refl

some_up : (m1 m2 : ℤ) (d k x : ℕ) → FitsSigned w64 m1 → FitsSigned w64 m2 → pos x ≡ (m2 -ℤ m1) +ℤ pos (suc d) → k * suc d + suc d ≤ x → IsLast m1 m2 (pos (suc d)) k
some_up m1 m2 d k x f g q h =
    let p : pos k *ℤ pos (suc d) ≡ pos (k * suc d) = pos-*ℤ-pos k (suc d) in
    let l : k * 1 ≤ k * suc d = mul-le-mul_left k (omega arith) in
    record { few = omega (arith, ints); low = omega (arith, ints); high = omega (arith, ints); room = omega (arith, ints) }

some_down : (m1 m2 : ℤ) (d k x : ℕ) → FitsSigned w64 m1 → FitsSigned w64 m2 → negsuc x ≡ (m2 -ℤ m1) +ℤ negsuc d → k * suc d + suc d ≤ suc x → IsLast m1 m2 (negsuc d) k
some_down m1 m2 d k x f g q h =
    let p : pos k *ℤ negsuc d ≡ neg_ℤ (pos (k * suc d)) = pos-*ℤ-negsuc k d in
    let l : k * 1 ≤ k * suc d = mul-le-mul_left k (omega arith) in
    record { few = omega (arith, ints); low = omega (arith, ints); high = omega (arith, ints); room = omega (arith, ints) }

-- a quotient less 1, times the divisor, leaves room for one divisor more
one_less : (x d k : ℕ) → suc k ≡ x / suc d → k * suc d + suc d ≤ x
one_less x d k e =
    let m : x / suc d * suc d ≤ x = div-mul-le_self x (suc d) in
    let s : suc k * suc d ≡ x / suc d * suc d = ap (λ n. n * suc d) e in
    omega (arith, add-mul 1 k (suc d))

pub last_of : (m1 m2 m3 : ℤ) (n : ℕ) → FitsSigned w64 m1 → FitsSigned w64 m2 → trips m1 m2 m3 ≡ Ok n → IsLast m1 m2 m3 (n - 1)
last_of m1 m2 (pos zero) n f g e = cc
last_of m1 m2 (pos (suc d)) n f g e = go ((m2 -ℤ m1) +ℤ pos (suc d)) n refl (let h = e in cc)
  where
    one_on : (k : ℕ) → IsLast m1 m2 (pos (suc d)) k → IsLast m1 m2 (pos (suc d)) (suc k - 1)
    one_on k h = subst (IsLast m1 m2 (pos (suc d))) (omega arith) h

    go : (a : ℤ) (n : ℕ) → a ≡ (m2 -ℤ m1) +ℤ pos (suc d) → at_least_zero (int_div a (pos (suc d))) ≡ n → IsLast m1 m2 (pos (suc d)) (n - 1)
    go (pos x) zero q e = no_turns m1 m2 (pos (suc d)) 0 f refl
    go (pos x) (suc k) q e = one_on k (some_up m1 m2 d k x f g q (one_less x d k (sym e)))
    go (negsuc x) n q e = no_turns m1 m2 (pos (suc d)) n f (sym e ∙ at_neg (suc x / suc d))
last_of m1 m2 (negsuc d) n f g e = go ((m2 -ℤ m1) +ℤ negsuc d) n refl (let h = e in cc)
  where
    one_on : (k : ℕ) → IsLast m1 m2 (negsuc d) k → IsLast m1 m2 (negsuc d) (suc k - 1)
    one_on k h = subst (IsLast m1 m2 (negsuc d)) (omega arith) h

    go : (a : ℤ) (n : ℕ) → a ≡ (m2 -ℤ m1) +ℤ negsuc d → at_least_zero (int_div a (negsuc d)) ≡ n → IsLast m1 m2 (negsuc d) (n - 1)
    go (pos x) n q e = no_turns m1 m2 (negsuc d) n f (sym e ∙ at_neg (x / suc d))
    go (negsuc x) zero q e = no_turns m1 m2 (negsuc d) 0 f refl
    go (negsuc x) (suc k) q e = one_on k (some_down m1 m2 d k x f g q (one_less (suc x) d k (sym e)))

-- the same of numbers that are equal to these
pub last_at : (m1 m2 m3 a b : ℤ) (n r : ℕ) → FitsSigned w64 m1 → FitsSigned w64 m2 → trips m1 m2 m3 ≡ Ok n → a ≡ m1 → b ≡ m3 → r ≡ n - 1 → IsLast a m2 b r
last_at m1 m2 m3 a b n r f g e p q z =
    subst (λ x. IsLast x m2 b r) (sym p) (subst (λ x. IsLast m1 m2 x r) (sym q) (subst (IsLast m1 m2 m3) (sym z) (last_of m1 m2 m3 n f g e)))
