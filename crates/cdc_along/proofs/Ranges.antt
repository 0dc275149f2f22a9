-- The index of a loop lies in the loop's range.
use Rattle.std.proofs.Common.{◌≡◌, ℕ, suc, ◌+◌, ◌-◌, ◌*◌, ◌^◌, ◌<◌, ◌≤◌, Bool, true, false, if◌then◌else◌, List, ◌∷◌, ℤ, pos, negsuc, ◌+ℤ◌, ◌*ℤ◌, neg_ℤ, Option, Some, None, Ok, refl, ap, ◌∙◌, subst, arith}
use Rattle.std.specs.Prelude.{nat_lt, nat_abs}
use Rattle.std.proofs.lemmas.Int.{ints}
use Rattle.std.proofs.lemmas.Bool.{eqb-true}
use Rattle.std.proofs.Math.IntN.{pos-*ℤ-pos, pos-*ℤ-negsuc}
use Rattle.std.proofs.Math.Nat.{mul-le-mul_right, add-mul}
use Rattle.cdc_prog.specs.declared.expr.Var.{Var}
use Rattle.cdc_prog.specs.declared.expr.Var.TheVariants as var
use Rattle.cdc_prog.specs.declared.affine.Range.{Range}
use Rattle.cdc_prog.specs.declared.affine.Index.{Index}
use Rattle.cdc_prog.specs.Plain.{Control}
use Rattle.cdc_prog.specs.Value.{trips}
use Rattle.cdc_prog.specs.Data.{Store, Binding}
use Rattle.cdc_prog.specs.Expressions.{Surroundings}
use Rattle.cdc_prog.specs.Affine.{same_var, index_in, with_some, got, constant}
use Rattle.cdc_prog.specs.Dependence.{spread, spread_of, range_of, range_in}
use Rattle.cdc_prog.specs.Iterations.{Value, LiesIn, Lies, InRanges}
use Rattle.cdc_prog.specs.Sections.{IsStepped, AreStepped}
use Rattle.cdc_affine.proofs.Worth.{some_of, if_some, got_of, constant_is}
use Rattle.cdc_affine.proofs.Steps.{range_stepped}

-- the value in turn j, from 0
abbrev pub in_turn : ℤ → ℤ → ℕ → ℤ
in_turn m1 m3 j = m1 +ℤ (pos j *ℤ m3)

spread_lies : (m1 m3 : ℤ) (n j : ℕ) → j < n → LiesIn (spread m1 m3 (n - 1)) (in_turn m1 m3 j)
spread_lies m1 (pos d) n j h =
    let a : pos j *ℤ pos d ≡ pos (j * d) = pos-*ℤ-pos j d in
    let e : pos (n - 1) *ℤ pos d ≡ pos ((n - 1) * d) = pos-*ℤ-pos (n - 1) d in
    let m : j * d ≤ (n - 1) * d = mul-le-mul_right d (omega arith) in
    record { low = omega (arith, ints); high = omega (arith, ints); step = (j, refl) }
spread_lies m1 (negsuc d) n j h =
    let a : pos j *ℤ negsuc d ≡ neg_ℤ (pos (j * suc d)) = pos-*ℤ-negsuc j d in
    let e : pos (n - 1) *ℤ negsuc d ≡ neg_ℤ (pos ((n - 1) * suc d)) = pos-*ℤ-negsuc (n - 1) d in
    let m : j * suc d ≤ (n - 1) * suc d = mul-le-mul_right (suc d) (omega arith) in
    let g : pos (n - 1 - j) *ℤ pos (suc d) ≡ pos ((n - 1 - j) * suc d) = pos-*ℤ-pos (n - 1 - j) (suc d) in
    let s : (n - 1 - j + j) * suc d ≡ (n - 1 - j) * suc d + j * suc d = add-mul (n - 1 - j) j (suc d) in
    let r : (n - 1 - j + j) * suc d ≡ (n - 1) * suc d = ap (λ i. i * suc d) (omega arith) in
    record { low = omega (arith, ints); high = omega (arith, ints); step = (n - 1 - j, omega (arith, ints)) }

spread_of_lies : (m1 m2 m3 : ℤ) (n j : ℕ) (r : Range) → trips m1 m2 m3 ≡ Ok n → j < n → spread_of m1 m2 m3 ≡ Some r → LiesIn r (in_turn m1 m3 j)
spread_of_lies m1 m2 m3 n j r e lt q =
    let (i, found, is) = some_of (got (trips m1 m2 m3)) (λ i. if nat_lt (nat_abs m3) (2 ^ 63) then Some (spread m1 m3 (i - 1)) else None) r q in
    let same : n ≡ i = (let g = got_of (trips m1 m2 m3) i found in cc) in
    subst (λ x. LiesIn x (in_turn m1 m3 j)) (if_some (nat_lt (nat_abs m3) (2 ^ 63)) (spread m1 m3 (i - 1)) r is) (spread_lies m1 m3 i j (subst (λ k. j < k) same lt))

module _ (b : Binding) (c : Surroundings) (t : Store) (k : Control) where
  some_range_lies : (r : Range) (m1 m2 m3 : ℤ) (n j : ℕ) → Value b c t k.from m1 → Value b c t k.to m2 → Value b c t k.by m3 → trips m1 m2 m3 ≡ Ok n → j < n → range_of k ≡ Some r → LiesIn r (in_turn m1 m3 j)
  some_range_lies r m1 m2 m3 n j v1 v2 v3 e lt q =
      let (x, is_x, q1) = some_of (constant k.from) (λ x. with_some (constant k.to) (λ y. with_some (constant k.by) (spread_of x y))) r q in
      let (y, is_y, q2) = some_of (constant k.to) (λ y. with_some (constant k.by) (spread_of x y)) r q1 in
      let (z, is_z, q3) = some_of (constant k.by) (spread_of x y) r q2 in
      let p1 : m1 ≡ x = constant_is b c t k.from x m1 is_x v1 in
      let p2 : m2 ≡ y = constant_is b c t k.to y m2 is_y v2 in
      let p3 : m3 ≡ z = constant_is b c t k.by z m3 is_z v3 in
      spread_of_lies m1 m2 m3 n j r e lt (ap (λ i. spread_of i m2 m3) p1 ∙ (ap (λ i. spread_of x i m3) p2 ∙ (ap (λ i. spread_of x y i) p3 ∙ q3)))

  -- in each of its turns the index of a loop lies in the range of its controls, where they are constant
  pub range_lies : (m1 m2 m3 : ℤ) (n j : ℕ) → Value b c t k.from m1 → Value b c t k.to m2 → Value b c t k.by m3 → trips m1 m2 m3 ≡ Ok n → j < n → Lies (range_of k) (in_turn m1 m3 j)
  range_lies m1 m2 m3 n j v1 v2 v3 e lt = go (range_of k) refl
    where
      go : (o : Option Range) → range_of k ≡ o → Lies o (in_turn m1 m3 j)
      go None q = tt
      go (Some r) q = some_range_lies r m1 m2 m3 n j v1 v2 v3 e lt q

-- ---- one loop more around
same_var_of : (u v : Var) → same_var u v ≡ true → u ≡ v
same_var_of (var.Object m) (var.Object n) e = ap var.Object (eqb-true m n e)
same_var_of (var.Object m) (var.Dummy n) e = cc
same_var_of (var.Object m) (var.Slot n) e = cc
same_var_of (var.Dummy m) (var.Object n) e = cc
same_var_of (var.Dummy m) (var.Dummy n) e = ap var.Dummy (eqb-true m n e)
same_var_of (var.Dummy m) (var.Slot n) e = cc
same_var_of (var.Slot m) (var.Object n) e = cc
same_var_of (var.Slot m) (var.Dummy n) e = cc
same_var_of (var.Slot m) (var.Slot n) e = ap var.Slot (eqb-true m n e)

-- what holds of the range of the innermost index of a variable, holds with one index more
inner : (Q : Var → Range → Type 0) (i : Index) (is : List Index) → ((r : Range) → i.range ≡ Some r → Q i.var r) → ((v : Var) (r : Range) → range_in is v ≡ Some r → Q v r)
    → (v : Var) (r : Range) → range_in (i ∷ is) v ≡ Some r → Q v r
inner Q i is here others v r q = go (same_var i.var v) refl q
  where
    go : (b : Bool) → same_var i.var v ≡ b → with_some (if b then Some i else index_in is v) (λ x. x.range) ≡ Some r → Q v r
    go true e h = subst (λ u. Q u r) (same_var_of i.var v e) (here r h)
    go false e h = others v r h

lies_some : (o : Option Range) (x : ℤ) → Lies o x → (r : Range) → o ≡ Some r → LiesIn r x
lies_some None x h r e = cc
lies_some (Some a) x h r e = subst (λ r. LiesIn r x) (let same : a ≡ r = cc in same) h

pub ranges_inside : (i : Index) (is : List Index) (ρ : Var → ℤ) → Lies i.range (ρ i.var) → InRanges is ρ → InRanges (i ∷ is) ρ
ranges_inside i is ρ lies ranges = inner (λ v r. LiesIn r (ρ v)) i is (λ r e. lies_some i.range (ρ i.var) lies r e) ranges

pub stepped_inside : (v : Var) (k : Control) (is : List Index) → AreStepped is → AreStepped (record { var = v; range = range_of k } ∷ is)
stepped_inside v k is stepped = inner (λ u r. IsStepped r) (record { var = v; range = range_of k }) is (λ r e. range_stepped k r e) stepped
