-- The least number of steps by which two triplets meet.
use Rattle.std.proofs.Common.{◌≡◌, ℕ, zero, suc, ◌+◌, ◌-◌, ◌*◌, ◌/◌, ◌%◌, ◌<◌, ◌≤◌, Option, Some, None, refl, sym, ap, ◌∙◌, subst, arith}
use Rattle.std.proofs.Math.Nat.{div-add-mod, add-mul, mul-add, mul_comm, mul_assoc, mul-le-mul_right, le_of_mul-le-mul_right, lt_of_mul-lt-mul_right, mul-div_cancel, mod-lt}
use Rattle.std.specs.Prelude.{Decides}
use Rattle.std.proofs.Math.Dec.{leb}
use Rattle.std.proofs.lemmas.Bool.{leb-true, le-leb}
use Rattle.cdc_num.specs.declared.triplet.Triplet.{Triplet}
use Rattle.cdc_num.specs.Triplets.{HasPosition, Meet, AreSteps, IsLeast, IsLeastOf}

-- ---- by remainders
module _ (a d m : ℕ) where
  -- whole steps of m in x steps of a and d more, their remainders aside
  abbrev whole : ℕ → ℕ
  whole x = x * (a / m) + d / m

  parts : (x : ℕ) → x * a + d ≡ whole x * m + (x * (a % m) + d % m)
  parts x =
      let p : m * (a / m) + a % m ≡ a = div-add-mod a m in
      let q : m * (d / m) + d % m ≡ d = div-add-mod d m in
      let e : x * (m * (a / m) + a % m) ≡ x * (m * (a / m)) + x * (a % m) = mul-add x (m * (a / m)) (a % m) in
      let f : x * (m * (a / m) + a % m) ≡ x * a = ap (λ n. x * n) p in
      let g : x * (a / m) * m ≡ x * (a / m * m) = mul_assoc x (a / m) m in
      let h : x * (a / m * m) ≡ x * (m * (a / m)) = ap (λ n. x * n) (mul_comm (a / m) m) in
      let i : d / m * m ≡ m * (d / m) = mul_comm (d / m) m in
      let k : whole x * m ≡ x * (a / m) * m + d / m * m = add-mul (x * (a / m)) (d / m) m in
      omega arith

  raised : (x : ℕ) → AreSteps (a % m) (d % m) m x → AreSteps a d m x
  raised x s =
      let p = parts x in
      let e : (whole x + s.0) * m ≡ whole x * m + s.0 * m = add-mul (whole x) s.0 m in
      (whole x + s.0, omega (arith, s.1))

  lowered : (x : ℕ) → 0 < m → AreSteps a d m x → AreSteps (a % m) (d % m) m x
  lowered x some s =
      let p = parts x in
      let le : whole x ≤ s.0 = le_of_mul-le-mul_right (omega (arith, s.1)) some in
      let e : (s.0 - whole x + whole x) * m ≡ (s.0 - whole x) * m + whole x * m = add-mul (s.0 - whole x) (whole x) m in
      let f : (s.0 - whole x + whole x) * m ≡ s.0 * m = ap (λ n. n * m) (omega arith) in
      (s.0 - whole x, omega (arith, s.1))

-- ---- the other way round
-- k steps of b and d are one step of m more than y
turned : (b d m k y : ℕ) → d ≤ m → y * m + (m - d) ≡ k * b → k * b + d ≡ suc y * m
turned b d m k y le e = let f = add-mul 1 y m in omega arith

-- so they are where d is not 0
back : (b d m k : ℕ) → 0 < d → d ≤ m → (s : AreSteps b d m k) → (y : ℕ) × (y * m + (m - d) ≡ k * b)
back b d m k some le (zero, e) = absurd (omega arith)
back b d m k some le (suc y, e) = (y, (let f = add-mul 1 y m in omega arith))

module _ (a d m : ℕ) (some : 0 < m) where
  pub least_here : d % m ≡ 0 → IsLeast a d m 0
  least_here none = record { steps = raised a d m 0 (0, omega arith); least = λ y s. omega arith; bound = omega arith }

  module _ (over : 0 < d % m) where
    pub none_here : a % m ≡ 0 → IsLeastOf a d m None
    none_here still y s =
        let low = lowered a d m y some s in
        let z : y * (a % m) ≡ y * 0 = ap (λ n. y * n) still in
        let lt : d % m < m = mod-lt d some in
        go low.0 (omega (arith, low.1))
      where
        go : (j : ℕ) → d % m ≡ j * m → ⊥
        go zero e = omega arith
        go (suc j) e = let f = add-mul 1 j m in let lt : d % m < m = mod-lt d some in omega arith

    -- what is some steps of a and d is some steps of m and what d lacks, the other way round
    turned_round : (x : ℕ) → AreSteps a d m x → (y : ℕ) × (y * m + (m - d % m) ≡ x * (a % m))
    turned_round x s = back (a % m) (d % m) m x over (omega (arith, mod-lt d some)) (lowered a d m x some s)

    pub none_after : IsLeastOf m (m - d % m) (a % m) None → IsLeastOf a d m None
    none_after h x s = let t = turned_round x s in h t.0 (x, t.1)

    pub least_after : (y : ℕ) → 0 < a % m → IsLeast m (m - d % m) (a % m) y → IsLeast a d m ((y * m + (m - d % m)) / (a % m))
    least_after y by h = subst (IsLeast a d m) (sym is) (record { steps = steps; least = least; bound = omega (arith, below) })
      where
        k : ℕ
        k = h.steps.0

        is : (y * m + (m - d % m)) / (a % m) ≡ k
        is = ap (λ n. n / (a % m)) h.steps.1 ∙ mul-div_cancel k by

        one_more : k * (a % m) + d % m ≡ suc y * m
        one_more = turned (a % m) (d % m) m k y (omega (arith, mod-lt d some)) h.steps.1

        steps : AreSteps a d m k
        steps = raised a d m k (suc y, one_more)

        least : (x : ℕ) → AreSteps a d m x → k ≤ x
        least x s =
            let t = turned_round x s in
            let le : y * m ≤ t.0 * m = mul-le-mul_right m (h.least t.0 (x, t.1)) in
            le_of_mul-le-mul_right (omega (arith, h.steps.1, t.1)) by

        below : k < m
        below =
            let le : suc y * m ≤ a % m * m = mul-le-mul_right m (omega (arith, h.bound)) in
            let c : a % m * m ≡ m * (a % m) = mul_comm (a % m) m in
            lt_of_mul-lt-mul_right (a % m) (omega (arith, one_more))

-- ---- triplets
module _ (a b : Triplet) (first : b.lo ≤ a.lo) where
  pub meet_at : (x : ℕ) → AreSteps a.step (a.lo - b.lo) b.step x → x * a.step + a.lo ≤ a.hi → x * a.step + a.lo ≤ b.hi → Meet a b
  meet_at x s high high' = record {
    at = x * a.step + a.lo;
    left = record { steps = x; is = refl; high = high };
    right = record { steps = s.0; is = omega (arith, s.1); high = high' };
  }

  steps_of : (m : Meet a b) → AreSteps a.step (a.lo - b.lo) b.step m.left.steps
  steps_of m = (m.right.steps, omega (arith, m.left.is, m.right.is))

  pub none_meets : IsLeastOf a.step (a.lo - b.lo) b.step None → Meet a b → ⊥
  none_meets h m = h m.left.steps (steps_of m)

  pub least_meets : (x : ℕ) → IsLeast a.step (a.lo - b.lo) b.step x → Meet a b → (x * a.step + a.lo ≤ a.hi) × (x * a.step + a.lo ≤ b.hi)
  least_meets x h m =
      let le : x * a.step ≤ m.left.steps * a.step = mul-le-mul_right a.step (h.least m.left.steps (steps_of m)) in
      (omega (arith, m.left.is, m.left.high), omega (arith, m.left.is, m.right.high))

  -- the first position at which both step is in both where it is above neither end
  pub meet_within : (x z : ℕ) → IsLeast a.step (a.lo - b.lo) b.step x → z ≡ x * a.step + a.lo → z ≤ a.hi → Decides (leb z b.hi) (Meet a b)
  meet_within x z h is le = (
    λ e. meet_at x h.steps (omega (arith, is)) (omega (arith, is, leb-true z b.hi e)),
    λ m. le-leb z b.hi (omega (arith, is, (least_meets x h m).1)),
  )

  pub meet_over : (x z : ℕ) → IsLeast a.step (a.lo - b.lo) b.step x → z ≡ x * a.step + a.lo → a.hi < z → Decides (leb z a.hi) (Meet a b)
  meet_over x z h is lt = (λ e. absurd (omega (arith, leb-true z a.hi e)), λ m. le-leb z a.hi (omega (arith, is, (least_meets x h m).0)))
