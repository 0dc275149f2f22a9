-- Forms that a rule tells apart have different values.
use Rattle.std.proofs.Common.{◌≡◌, ◌≢◌, ℕ, zero, suc, ◌*◌, ◌<◌, ◌≤◌, Bool, true, false, not, if◌then◌else◌, List, [], ◌∷◌, ◌⊎◌, ℤ, pos, negsuc, ◌+ℤ◌, ◌-ℤ◌, ◌*ℤ◌, neg_ℤ, ◌<ℤ◌, Option, Some, None, refl, sym, ap, ◌∙◌, inl, inr, arith}
use Rattle.std.specs.Prelude.{nat_abs, int_lt, ◌&&◌, ◌||◌}
use Rattle.std.specs.Int.{◌∣◌}
use Rattle.std.proofs.Math.IntN.{zero-*ℤ, *ℤ_comm}
use Rattle.std.proofs.Math.Nat.{mul-le-mul_left}
use Rattle.std.proofs.lemmas.Int.{ints, unsigned_abs-mul}
use Rattle.std.proofs.lemmas.Bool.{eqb-true}
use Rattle.std.proofs.lemmas.Nat.Gcd.{dvd_trans}
use Rattle.cdc_prog.specs.declared.expr.Var.{Var}
use Rattle.cdc_prog.specs.declared.expr.Var.TheVariants as var
use Rattle.cdc_prog.specs.Value.{is_zero}
use Rattle.cdc_prog.specs.declared.affine.Scope.{Scope}
use Rattle.cdc_prog.specs.declared.affine.Term.{Term}
use Rattle.cdc_prog.specs.declared.affine.Affine.{Affine}
use Rattle.cdc_prog.specs.Affine.{same_var, is_in, is_index, total, worth, Speaks}
use Rattle.cdc_prog.specs.Iterations.{InRanges}
use Rattle.cdc_num.specs.Divisors.{gcd, divides}
use Rattle.cdc_num.specs.Intervals.{Between, minus, leaves_out_zero, lies_within}
use Rattle.cdc_num.proofs.Intervals.{minus_has, leaves_out, or_true}
use Rattle.cdc_prog.specs.Dependence.{moving, still, same_terms, common, span, holds, is_empty, own, is_own, own_times, others, same_number, by_steps, by_constant, by_gcd, by_range, by_stride, tells_apart}
use Rattle.cdc_num.proofs.Whole.{mul-add, add-mul, sub-mul, mul-mul}
use Rattle.cdc_affine.proofs.Bounds.{span_has}
use Rattle.cdc_affine.proofs.Worth.{and_true}
use Rattle.cdc_num.proofs.Divisors.{gcd_is, quotient_of, divides_of, divides_true}

-- ---- tests
pub is_zero_of : (z : ℤ) → is_zero z ≡ true → z ≡ pos 0
is_zero_of (pos zero) e = refl
is_zero_of (pos (suc n)) e = cc
is_zero_of (negsuc n) e = cc

pub not_true : (p : Bool) → not p ≡ true → p ≡ false
not_true true e = cc
not_true false e = refl

pub same_var_of : (u v : Var) → same_var u v ≡ true → u ≡ v
same_var_of (var.Object m) (var.Object n) e = ap var.Object (eqb-true m n e)
same_var_of (var.Object m) (var.Dummy n) e = cc
same_var_of (var.Object m) (var.Slot n) e = cc
same_var_of (var.Dummy m) (var.Object n) e = cc
same_var_of (var.Dummy m) (var.Dummy n) e = ap var.Dummy (eqb-true m n e)
same_var_of (var.Dummy m) (var.Slot n) e = cc
same_var_of (var.Slot m) (var.Object n) e = cc
same_var_of (var.Slot m) (var.Dummy n) e = cc
same_var_of (var.Slot m) (var.Slot n) e = ap var.Slot (eqb-true m n e)

pub holds_of : {A : Type 0} (o : Option A) (p : A → Bool) → holds o p ≡ true → (a : A) × (o ≡ Some a) × (p a ≡ true)
holds_of None p e = cc
holds_of (Some a) p e = (a, refl, e)

-- ---- totals, in parts
abbrev pub Agree : (ρ σ : Var → ℤ) → List Term → Type 0
Agree ρ σ [] = Unit {0}
Agree ρ σ (t ∷ ts) = (ρ t.var ≡ σ t.var) × Agree ρ σ ts

still_agree : (sc : Scope) (ρ σ : Var → ℤ) → ((v : Var) → is_in sc.fixed v ≡ true → ρ v ≡ σ v) → (ts : List Term) → Speaks sc ts → Agree ρ σ (still sc ts)
still_agree sc ρ σ h [] s = tt
still_agree sc ρ σ h (t ∷ ts) s = go (is_index sc t.var) s.0 (still_agree sc ρ σ h ts s.1)
  where
    go : (test : Bool) → (test || is_in sc.fixed t.var) ≡ true → Agree ρ σ (still sc ts) → Agree ρ σ (if test then still sc ts else t ∷ still sc ts)
    go true e a = a
    go false e a = (h t.var e, a)

same_total : (ρ σ : Var → ℤ) (ts us : List Term) → same_terms ts us ≡ true → Agree ρ σ ts → total ρ ts ≡ total σ us
same_total ρ σ [] [] e a = refl
same_total ρ σ [] (u ∷ us) e a = cc
same_total ρ σ (t ∷ ts) [] e a = cc
same_total ρ σ (t ∷ ts) (u ∷ us) e a =
    let p = and_true (same_var t.var u.var && is_zero (t.times -ℤ u.times)) (same_terms ts us) e in
    let q = and_true (same_var t.var u.var) (is_zero (t.times -ℤ u.times)) p.0 in
    let z : t.times -ℤ u.times ≡ pos 0 = is_zero_of (t.times -ℤ u.times) q.1 in
    let times : t.times ≡ u.times = omega (arith, ints) in
    let value : ρ t.var ≡ σ u.var = a.0 ∙ ap σ (same_var_of t.var u.var q.0) in
    let one : t.times *ℤ ρ t.var ≡ u.times *ℤ σ u.var = ap (λ k. k *ℤ ρ t.var) times ∙ ap (λ x. u.times *ℤ x) value in
    let rest : total ρ ts ≡ total σ us = same_total ρ σ ts us p.1 a.1 in
    ap (λ x. x +ℤ total ρ ts) one ∙ ap (λ x. u.times *ℤ σ u.var +ℤ x) rest

parts_total : (ρ : Var → ℤ) (sc : Scope) (ts : List Term) → total ρ ts ≡ total ρ (moving sc ts) +ℤ total ρ (still sc ts)
parts_total ρ sc [] = refl
parts_total ρ sc (t ∷ ts) = go (is_index sc t.var) (parts_total ρ sc ts)
  where
    go : (test : Bool) → total ρ ts ≡ total ρ (moving sc ts) +ℤ total ρ (still sc ts) → t.times *ℤ ρ t.var +ℤ total ρ ts ≡ total ρ (if test then t ∷ moving sc ts else moving sc ts) +ℤ total ρ (if test then still sc ts else t ∷ still sc ts)
    go true h = omega (arith, ints)
    go false h = omega (arith, ints)

own_total : (ρ : Var → ℤ) (ts : List Term) → total ρ ts ≡ own_times ts *ℤ ρ own +ℤ total ρ (others ts)
own_total ρ [] = let z : pos 0 *ℤ ρ own ≡ pos 0 = zero-*ℤ (ρ own) in omega (arith, ints)
own_total ρ (t ∷ ts) = go (is_own t) refl (own_total ρ ts)
  where
    go : (test : Bool) → is_own t ≡ test → total ρ ts ≡ own_times ts *ℤ ρ own +ℤ total ρ (others ts) → t.times *ℤ ρ t.var +ℤ total ρ ts ≡ (if test then t.times +ℤ own_times ts else own_times ts) *ℤ ρ own +ℤ total ρ (if test then others ts else t ∷ others ts)
    go true e h =
        let d = add-mul t.times (own_times ts) (ρ own) in
        let same : t.times *ℤ ρ t.var ≡ t.times *ℤ ρ own = ap (λ v. t.times *ℤ ρ v) (same_var_of t.var own e) in
        omega (arith, ints)
    go false e h = omega (arith, ints)

-- ---- divisors
common_divides : (ρ : Var → ℤ) (d : ℕ) (ts : List Term) → d ∣ common ts → (q : ℤ) × (total ρ ts ≡ pos d *ℤ q)
common_divides ρ d [] h = (pos 0, sym (*ℤ_comm (pos d) (pos 0) ∙ zero-*ℤ (pos d)))
common_divides ρ d (t ∷ ts) h =
    let g = gcd_is (nat_abs t.times) (common ts) in
    let one = quotient_of d t.times (dvd_trans d h g.0) in
    let rest = common_divides ρ d ts (dvd_trans d h g.1) in (
      one.0 *ℤ ρ t.var +ℤ rest.0,
      ap (λ x. x +ℤ total ρ ts) (ap (λ x. x *ℤ ρ t.var) one.1 ∙ mul-mul (pos d) one.0 (ρ t.var))
          ∙ ap (λ x. pos d *ℤ (one.0 *ℤ ρ t.var) +ℤ x) rest.1
          ∙ sym (mul-add (pos d) (one.0 *ℤ ρ t.var) rest.0),
    )

-- ---- intervals
abs_below : (m : ℕ) (x : ℤ) → neg_ℤ (pos m) <ℤ x → x <ℤ pos m → nat_abs x < m
abs_below m (pos n) l h = omega (arith, ints)
abs_below m (negsuc n) l h = omega (arith, ints)

-- a number other than 0 times m is at least m
far : (m z : ℤ) → z ≢ pos 0 → nat_abs m ≤ nat_abs (m *ℤ z)
far m (pos zero) h = absurd (h refl)
far m (pos (suc n)) h = let k : nat_abs m * 1 ≤ nat_abs m * suc n = mul-le-mul_left (nat_abs m) (omega arith) in omega (arith, unsigned_abs-mul m (pos (suc n)))
far m (negsuc n) h = let k : nat_abs m * 1 ≤ nat_abs m * suc n = mul-le-mul_left (nat_abs m) (omega arith) in omega (arith, unsigned_abs-mul m (negsuc n))

-- ---- the rules
module _ (sf sg : Scope) (ρ σ : Var → ℤ) (f g : Affine) where
  abbrev M : ℤ
  M = total ρ (moving sf f.terms)

  abbrev N : ℤ
  N = total σ (moving sg g.terms)

  -- what the equality of the two values comes to
  abbrev Meet : Type 0
  Meet = (M -ℤ N) +ℤ (f.rest -ℤ g.rest) ≡ pos 0

  meet_of : ((v : Var) → is_in sf.fixed v ≡ true → ρ v ≡ σ v) → Speaks sf f.terms → same_terms (still sf f.terms) (still sg g.terms) ≡ true → worth ρ f ≡ worth σ g → Meet
  meet_of fixed speaks same e =
      let a = parts_total ρ sf f.terms in
      let b = parts_total σ sg g.terms in
      let c = same_total ρ σ (still sf f.terms) (still sg g.terms) same (still_agree sf ρ σ fixed f.terms speaks) in
      omega (arith, ints)

  none_moves : (ts : List Term) → is_empty ts ≡ true → ts ≡ []
  none_moves [] e = refl
  none_moves (t ∷ ts) e = cc

  not_zero : (z : ℤ) → not (is_zero z) ≡ true → z ≢ pos 0
  not_zero z e h = let k : is_zero z ≡ true = ap is_zero h in let l = not_true (is_zero z) e in cc

  constant_right : by_constant (moving sf f.terms) (moving sg g.terms) (f.rest -ℤ g.rest) ≡ true → Meet → ⊥
  constant_right e meet =
      let p = and_true (is_empty (moving sf f.terms) && is_empty (moving sg g.terms)) (not (is_zero (f.rest -ℤ g.rest))) e in
      let q = and_true (is_empty (moving sf f.terms)) (is_empty (moving sg g.terms)) p.0 in
      let m : M ≡ pos 0 = ap (total ρ) (none_moves (moving sf f.terms) q.0) in
      let n : N ≡ pos 0 = ap (total σ) (none_moves (moving sg g.terms) q.1) in
      not_zero (f.rest -ℤ g.rest) p.1 (omega (arith, ints))

  gcd_right : by_gcd (moving sf f.terms) (moving sg g.terms) (f.rest -ℤ g.rest) ≡ true → Meet → ⊥
  gcd_right e meet =
      let d : ℕ = gcd (common (moving sf f.terms)) (common (moving sg g.terms)) in
      let h = gcd_is (common (moving sf f.terms)) (common (moving sg g.terms)) in
      let m = common_divides ρ d (moving sf f.terms) h.0 in
      let n = common_divides σ d (moving sg g.terms) h.1 in
      let is : f.rest -ℤ g.rest ≡ pos d *ℤ (n.0 -ℤ m.0) =
      (let a : pos d *ℤ (n.0 -ℤ m.0 +ℤ m.0) ≡ pos d *ℤ (n.0 -ℤ m.0) +ℤ pos d *ℤ m.0 = mul-add (pos d) (n.0 -ℤ m.0) m.0 in
      let b : pos d *ℤ (n.0 -ℤ m.0 +ℤ m.0) ≡ pos d *ℤ n.0 = ap (λ x. pos d *ℤ x) (omega (arith, ints)) in
      let m' : M ≡ pos d *ℤ m.0 = m.1 in
      let n' : N ≡ pos d *ℤ n.0 = n.1 in
      omega (arith, ints)) in
      let yes : divides d (nat_abs (f.rest -ℤ g.rest)) ≡ true = divides_true d _ (divides_of d (f.rest -ℤ g.rest) (n.0 -ℤ m.0) is) in
      let no = not_true _ e in
      cc

  range_right : InRanges sf.indexes ρ → InRanges sg.indexes σ → by_range sf.indexes sg.indexes (moving sf f.terms) (moving sg g.terms) (f.rest -ℤ g.rest) ≡ true → Meet → ⊥
  range_right rf rg e meet =
      let p = holds_of (span sf.indexes (moving sf f.terms)) (λ i. holds (span sg.indexes (moving sg g.terms)) (λ j. leaves_out_zero (minus i j (f.rest -ℤ g.rest)))) e in
      let q = holds_of (span sg.indexes (moving sg g.terms)) (λ j. leaves_out_zero (minus p.0 j (f.rest -ℤ g.rest))) p.2 in
      leaves_out (minus p.0 q.0 (f.rest -ℤ g.rest)) ((M -ℤ N) +ℤ (f.rest -ℤ g.rest)) q.2 (minus_has p.0 q.0 (f.rest -ℤ g.rest) M N (span_has sf.indexes ρ rf (moving sf f.terms) p.0 p.1) (span_has sg.indexes σ rg (moving sg g.terms) q.0 q.1)) meet

  -- the index of the DOALL in the two iterations
  module _ (from by : ℤ) (i j : ℕ) (differ : i ≢ j) (here : ρ own ≡ from +ℤ (pos i *ℤ by)) (there : σ own ≡ from +ℤ (pos j *ℤ by)) (step : Option ℤ) (steps : (m : ℤ) → step ≡ Some m → by ≡ m) where
    stride_right : InRanges sf.indexes ρ → InRanges sg.indexes σ → by_stride step sf.indexes sg.indexes (moving sf f.terms) (moving sg g.terms) (f.rest -ℤ g.rest) ≡ true → Meet → ⊥
    stride_right rf rg e meet =
        let ts : List Term = moving sf f.terms in
        let us : List Term = moving sg g.terms in
        let d : ℤ = f.rest -ℤ g.rest in
        let a : ℤ = own_times ts in
        let b : ℤ = own_times us in
        let p0 = holds_of step (λ m3. not (is_zero m3) && not (is_zero a) && same_number a b && by_steps m3 a sf.indexes sg.indexes ts us d) e in
        let m3 : ℤ = p0.0 in
        let p1 = and_true (not (is_zero m3) && not (is_zero a) && same_number a b) (by_steps m3 a sf.indexes sg.indexes ts us d) p0.2 in
        let p2 = and_true (not (is_zero m3) && not (is_zero a)) (same_number a b) p1.0 in
        let p = holds_of (span sf.indexes (others ts)) (λ x. holds (span sg.indexes (others us)) (λ y. lies_within (nat_abs (a *ℤ m3)) (minus x y d))) p1.1 in
        let q = holds_of (span sg.indexes (others us)) (λ y. lies_within (nat_abs (a *ℤ m3)) (minus p.0 y d)) p.2 in
        let x : ℤ = total ρ (others ts) in
        let y : ℤ = total σ (others us) in
        let is : Between (minus p.0 q.0 d) ((x -ℤ y) +ℤ d) = minus_has p.0 q.0 d x y (span_has sf.indexes ρ rf (others ts) p.0 p.1) (span_has sg.indexes σ rg (others us) q.0 q.1) in
        let w = and_true (int_lt (neg_ℤ (pos (nat_abs (a *ℤ m3)))) (minus p.0 q.0 d).lo) (int_lt (minus p.0 q.0 d).hi (pos (nat_abs (a *ℤ m3)))) q.2 in
        let near : nat_abs ((x -ℤ y) +ℤ d) < nat_abs (a *ℤ m3) = abs_below (nat_abs (a *ℤ m3)) ((x -ℤ y) +ℤ d) (omega (arith, ints)) (omega (arith, ints)) in
        let same : a ≡ b = (let z = is_zero_of (a -ℤ b) p2.1 in omega (arith, ints)) in
        let is_by : by ≡ m3 = steps m3 p0.1 in
        let ot : total ρ ts ≡ a *ℤ ρ own +ℤ x = own_total ρ ts in
        let ou : total σ us ≡ b *ℤ σ own +ℤ y = own_total σ us in
        let oa : b *ℤ σ own ≡ a *ℤ σ own = ap (λ k. k *ℤ σ own) (sym same) in
        let gap : σ own -ℤ ρ own ≡ by *ℤ (pos j -ℤ pos i) =
        (let s = sub-mul (pos j) (pos i) by in
        let c : by *ℤ (pos j -ℤ pos i) ≡ (pos j -ℤ pos i) *ℤ by = *ℤ_comm by (pos j -ℤ pos i) in
        omega (arith, ints)) in
        let wide : a *ℤ (σ own -ℤ ρ own) ≡ (a *ℤ m3) *ℤ (pos j -ℤ pos i) =
        ap (λ k. a *ℤ k) (gap ∙ ap (λ k. k *ℤ (pos j -ℤ pos i)) is_by) ∙ sym (mul-mul a m3 (pos j -ℤ pos i)) in
        let split : a *ℤ (σ own -ℤ ρ own +ℤ ρ own) ≡ a *ℤ (σ own -ℤ ρ own) +ℤ a *ℤ ρ own = mul-add a (σ own -ℤ ρ own) (ρ own) in
        let back : a *ℤ (σ own -ℤ ρ own +ℤ ρ own) ≡ a *ℤ σ own = ap (λ k. a *ℤ k) (omega (arith, ints)) in
        let met : (total ρ ts -ℤ total σ us) +ℤ d ≡ pos 0 = meet in
        let equal : (x -ℤ y) +ℤ d ≡ (a *ℤ m3) *ℤ (pos j -ℤ pos i) = omega (arith, ints) in
        let apart : nat_abs (a *ℤ m3) ≤ nat_abs ((a *ℤ m3) *ℤ (pos j -ℤ pos i)) = far (a *ℤ m3) (pos j -ℤ pos i) (λ z. differ (omega (arith, ints))) in
        let last : nat_abs ((x -ℤ y) +ℤ d) ≡ nat_abs ((a *ℤ m3) *ℤ (pos j -ℤ pos i)) = ap nat_abs equal in
        omega arith

    pub apart_right : ((v : Var) → is_in sf.fixed v ≡ true → ρ v ≡ σ v) → Speaks sf f.terms → InRanges sf.indexes ρ → InRanges sg.indexes σ → tells_apart step sf sg f g ≡ true → worth ρ f ≢ worth σ g
    apart_right fixed speaks rf rg e same =
        let p = and_true (same_terms (still sf f.terms) (still sg g.terms)) (by_constant (moving sf f.terms) (moving sg g.terms) (f.rest -ℤ g.rest) || by_gcd (moving sf f.terms) (moving sg g.terms) (f.rest -ℤ g.rest) || by_range sf.indexes sg.indexes (moving sf f.terms) (moving sg g.terms) (f.rest -ℤ g.rest) || by_stride step sf.indexes sg.indexes (moving sf f.terms) (moving sg g.terms) (f.rest -ℤ g.rest)) e in
        let meet = meet_of fixed speaks p.0 same in
        go (or_true (by_constant (moving sf f.terms) (moving sg g.terms) (f.rest -ℤ g.rest) || by_gcd (moving sf f.terms) (moving sg g.terms) (f.rest -ℤ g.rest) || by_range sf.indexes sg.indexes (moving sf f.terms) (moving sg g.terms) (f.rest -ℤ g.rest)) (by_stride step sf.indexes sg.indexes (moving sf f.terms) (moving sg g.terms) (f.rest -ℤ g.rest)) p.1) meet
      where
        first : (by_constant (moving sf f.terms) (moving sg g.terms) (f.rest -ℤ g.rest) ≡ true) ⊎ (by_gcd (moving sf f.terms) (moving sg g.terms) (f.rest -ℤ g.rest) ≡ true) → Meet → ⊥
        first (inl h) = constant_right h
        first (inr h) = gcd_right h

        second : ((by_constant (moving sf f.terms) (moving sg g.terms) (f.rest -ℤ g.rest) || by_gcd (moving sf f.terms) (moving sg g.terms) (f.rest -ℤ g.rest)) ≡ true) ⊎ (by_range sf.indexes sg.indexes (moving sf f.terms) (moving sg g.terms) (f.rest -ℤ g.rest) ≡ true) → Meet → ⊥
        second (inl h) = first (or_true (by_constant (moving sf f.terms) (moving sg g.terms) (f.rest -ℤ g.rest)) (by_gcd (moving sf f.terms) (moving sg g.terms) (f.rest -ℤ g.rest)) h)
        second (inr h) = range_right rf rg h

        go : ((by_constant (moving sf f.terms) (moving sg g.terms) (f.rest -ℤ g.rest) || by_gcd (moving sf f.terms) (moving sg g.terms) (f.rest -ℤ g.rest) || by_range sf.indexes sg.indexes (moving sf f.terms) (moving sg g.terms) (f.rest -ℤ g.rest)) ≡ true) ⊎ (by_stride step sf.indexes sg.indexes (moving sf f.terms) (moving sg g.terms) (f.rest -ℤ g.rest) ≡ true) → Meet → ⊥
        go (inl h) = second (or_true (by_constant (moving sf f.terms) (moving sg g.terms) (f.rest -ℤ g.rest) || by_gcd (moving sf f.terms) (moving sg g.terms) (f.rest -ℤ g.rest)) (by_range sf.indexes sg.indexes (moving sf f.terms) (moving sg g.terms) (f.rest -ℤ g.rest)) h)
        go (inr h) = stride_right rf rg h
