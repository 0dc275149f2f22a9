-- The indexes of a loop are values.
use Rattle.std.proofs.Common.{◌≡◌, ℕ, zero, suc, ◌+◌, ◌*◌, ◌/◌, ◌^◌, ◌<◌, ◌≤◌, ℤ, pos, negsuc, ◌+ℤ◌, ◌-ℤ◌, ◌*ℤ◌, neg_ℤ, ◌≤ℤ◌, ◌<ℤ◌, FitsSigned, Bool, true, false, if◌then◌else◌, Ok, Err, refl, sym, ◌∙◌, subst, arith, rules, tests}
use Rattle.std.specs.Prelude.{int_div, IsTrue, IfOk, nat_lt}
use mir.Syntax.{w64}
use Rattle.std.proofs.Math.Nat.{div-mul-le_self, mul-le-mul_right, add-mul}
use Rattle.std.proofs.Math.IntN.{pos-*ℤ-pos, pos-*ℤ-negsuc}
use Rattle.std.proofs.lemmas.Int.{ints}
use Rattle.std.proofs.lemmas.Bool.{ltb-true}
use Rattle.cdc_num.specs.Exact.{at_least_zero}
use Rattle.cdc_prog.specs.declared.program.FaultKind.TheVariants.{TripTooLarge}
use Rattle.cdc_prog.specs.Value.{Got, is_value, trips, few}
use Rattle.cdc_prog.specs.Trips.{HasIndexes, few_of}

-- what lies between the first and the last value is a value
value_within : (z : ℤ) → pos 0 ≤ℤ (z +ℤ pos (2 ^ 63)) → z <ℤ pos (2 ^ 63) → IsTrue (is_value z)
value_within (pos n) low high = let lt : n < 2 ^ 63 = omega (arith, ints, low, high) in search (tests, rules)
value_within (negsuc n) low high = let lt : n < 2 ^ 63 = omega (arith, ints, low, high) in search (tests, rules)

up : (m1 m2 : ℤ) (d k x : ℕ) → FitsSigned w64 m1 → FitsSigned w64 m2 → pos x ≡ (m2 -ℤ m1) +ℤ pos (suc d) → k * suc d + suc d ≤ x → IsTrue (is_value (m1 +ℤ (pos k *ℤ pos (suc d))))
up m1 m2 d k x f g q h =
    let p : pos k *ℤ pos (suc d) ≡ pos (k * suc d) = pos-*ℤ-pos k (suc d) in
    value_within (m1 +ℤ (pos k *ℤ pos (suc d))) (omega (arith, ints)) (omega (arith, ints))

down : (m1 m2 : ℤ) (d k x : ℕ) → FitsSigned w64 m1 → FitsSigned w64 m2 → negsuc x ≡ (m2 -ℤ m1) +ℤ negsuc d → k * suc d + suc d ≤ suc x → IsTrue (is_value (m1 +ℤ (pos k *ℤ negsuc d)))
down m1 m2 d k x f g q h =
    let p : pos k *ℤ negsuc d ≡ neg_ℤ (pos (k * suc d)) = pos-*ℤ-negsuc k d in
    value_within (m1 +ℤ (pos k *ℤ negsuc d)) (omega (arith, ints)) (omega (arith, ints))

-- below a quotient there is room for one divisor more
below_quotient : (x d k : ℕ) → k < x / suc d → k * suc d + suc d ≤ x
below_quotient x d k lt =
    let m : x / suc d * suc d ≤ x = div-mul-le_self x (suc d) in
    let s : suc k * suc d ≤ x / suc d * suc d = mul-le-mul_right (suc d) lt in
    omega (arith, add-mul 1 k (suc d))

at_neg : (q : ℕ) → at_least_zero (neg_ℤ (pos q)) ≡ 0
at_neg zero = refl
at_neg (suc q) = refl

indexes : (m1 m2 m3 : ℤ) (n : ℕ) → FitsSigned w64 m1 → FitsSigned w64 m2 → trips m1 m2 m3 ≡ Ok n → HasIndexes n m1 m3
indexes m1 m2 (pos zero) n f g e = cc
indexes m1 m2 (pos (suc d)) n f g e = go ((m2 -ℤ m1) +ℤ pos (suc d)) refl (let h = e in cc)
  where
    go : (a : ℤ) → a ≡ (m2 -ℤ m1) +ℤ pos (suc d) → at_least_zero (int_div a (pos (suc d))) ≡ n → HasIndexes n m1 (pos (suc d))
    go (pos x) q e j lt = up m1 m2 d j x f g q (below_quotient x d j (subst (λ m. j < m) (sym e) lt))
    go (negsuc x) q e j lt = absurd (omega (arith, lt, sym e ∙ at_neg (suc x / suc d)))
indexes m1 m2 (negsuc d) n f g e = go ((m2 -ℤ m1) +ℤ negsuc d) refl (let h = e in cc)
  where
    go : (a : ℤ) → a ≡ (m2 -ℤ m1) +ℤ negsuc d → at_least_zero (int_div a (negsuc d)) ≡ n → HasIndexes n m1 (negsuc d)
    go (pos x) q e j lt = absurd (omega (arith, lt, sym e ∙ at_neg (x / suc d)))
    go (negsuc x) q e j lt = down m1 m2 d j x f g q (below_quotient (suc x) d j (subst (λ m. j < m) (sym e) lt))

few_is : (n count : ℕ) → few n ≡ Ok count → count ≡ n
few_is n count e = go (nat_lt (2 ^ 20) n) e
  where
    go : (b : Bool) → (if b then Err TripTooLarge else Ok n) ≡ Ok count → count ≡ n
    go true e = cc
    go false e = cc

pub counted_indexes : (m1 m2 m3 : ℤ) (result : Got ℕ) → FitsSigned w64 m1 → FitsSigned w64 m2 → result ≡ few_of (trips m1 m2 m3) → IfOk result (λ count. HasIndexes count m1 m3)
counted_indexes m1 m2 m3 (Err kind) f g e = tt
counted_indexes m1 m2 m3 (Ok count) f g e = go (trips m1 m2 m3) refl e
  where
    go : (t : Got ℕ) → trips m1 m2 m3 ≡ t → Ok count ≡ few_of t → HasIndexes count m1 m3
    go (Ok n) q e = λ j lt. indexes m1 m2 m3 n f g q j (subst (λ m. j < m) (few_is n count (sym e)) lt)
    go (Err kind) q e = cc

-- a value fits 64 bits
pub value_fits : (z : ℤ) → IsTrue (is_value z) → FitsSigned w64 z
value_fits (pos n) h = let lt : n < 2 ^ 63 = ltb-true n (2 ^ 63) h in omega (arith, ints)
value_fits (negsuc n) h = let lt : n < 2 ^ 63 = ltb-true n (2 ^ 63) h in omega (arith, ints)
