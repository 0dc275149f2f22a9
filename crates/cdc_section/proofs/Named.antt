-- The elements that a reference names are in its section.
use Rattle.std.proofs.Common.{◌≡◌, ℕ, zero, suc, ◌+◌, ◌-◌, ◌*◌, ◌/◌, ◌%◌, ◌^◌, ◌<◌, ◌≤◌, Bool, true, false, if◌then◌else◌, List, [], ◌∷◌, ℤ, pos, negsuc, ◌+ℤ◌, ◌-ℤ◌, ◌*ℤ◌, neg_ℤ, ◌≤ℤ◌, Option, Some, None, Result, Ok, Err, refl, sym, ap, ◌∙◌, subst, arith}
use Rattle.std.specs.Prelude.{min, max, nat_lt, nat_abs, IfOk}
use Rattle.std.specs.Int.{◌∣◌}
use Rattle.std.proofs.Math.Nat.{div-add-mod, mod-lt, add-mul, mul_comm, min-eq_left, max-eq_right, le-max_left, le-min, lt_of_mul-lt-mul_left}
use Rattle.std.proofs.Math.IntN.{zero-*ℤ, *ℤ_comm, pos-*ℤ-pos, pos-*ℤ-negsuc}
use Rattle.std.proofs.lemmas.Int.{ints}
use Rattle.std.proofs.lemmas.Bool.{ltb-false, ltb-true}
use Rattle.std.proofs.lemmas.Nat.Gcd.{dvd_refl, dvd_trans}
use Rattle.cdc_num.specs.declared.interval.Interval.{Interval}
use Rattle.cdc_num.specs.declared.triplet.Triplet.{Triplet}
use Rattle.cdc_num.specs.Divisors.{gcd}
use Rattle.cdc_num.specs.Intervals.{times, plus}
use Rattle.cdc_num.specs.Triplets.{HasPosition}
use Rattle.cdc_num.proofs.Divisors.{gcd_is, quotient_of}
use Rattle.cdc_num.proofs.Whole.{mul-add, add-mul as times_add, mul-mul, sub-mul}
use Rattle.cdc_prog.specs.declared.expr.Var.{Var}
use Rattle.cdc_prog.specs.declared.program.FaultKind.TheVariants.{Subscript}
use Rattle.cdc_prog.specs.declared.program.Dim.{Dim}
use Rattle.cdc_prog.specs.declared.affine.Range.{Range}
use Rattle.cdc_prog.specs.declared.affine.Index.{Index}
use Rattle.cdc_prog.specs.declared.affine.Term.{Term}
use Rattle.cdc_prog.specs.declared.affine.Affine.{Affine}
use Rattle.cdc_prog.specs.declared.affine.Scope.{Scope}
use Rattle.cdc_prog.specs.Plain.{Expr, Exprs, Empty, More}
use Rattle.cdc_prog.specs.Data.{Store, Binding, below, position}
use Rattle.cdc_prog.specs.Expressions.{Surroundings}
use Rattle.cdc_prog.specs.Affine.{with_some, form, total, worth}
use Rattle.cdc_prog.specs.Dependence.{range_in, span}
use Rattle.cdc_prog.specs.Iterations.{held, Value, Values, LiesIn, InRanges}
use Rattle.cdc_prog.specs.Sections.{gap_of, stride, Progression, values_of, nothing, whole_extent, first_inside, from_to, cut, triplet_of, section, IsInSection, ArePositions, AreNarrow, IsStepped, AreStepped, Overlap, HoldsNamed}
use Rattle.cdc_affine.proofs.Worth.{some_of, form_is}
use Rattle.cdc_affine.proofs.Bounds.{span_has}

-- ---- values
-- a value that m steps lead to
stepped : (d : ℕ) (a e step x m : ℤ) → d ∣ nat_abs (a *ℤ step) → x ≡ e +ℤ (m *ℤ step) → (q : ℤ) × (a *ℤ x ≡ a *ℤ e +ℤ pos d *ℤ q)
stepped d a e step x m h is =
    let k = quotient_of d (a *ℤ step) h in
    let p : a *ℤ x ≡ a *ℤ (e +ℤ (m *ℤ step)) = ap (λ y. a *ℤ y) is in
    let s : a *ℤ (e +ℤ (m *ℤ step)) ≡ a *ℤ e +ℤ a *ℤ (m *ℤ step) = mul-add a e (m *ℤ step) in
    let t : a *ℤ (m *ℤ step) ≡ pos d *ℤ (k.0 *ℤ m) =
    ap (λ y. a *ℤ y) (*ℤ_comm m step) ∙ sym (mul-mul a step m) ∙ ap (λ y. y *ℤ m) k.1 ∙ mul-mul (pos d) k.0 m in
    (k.0 *ℤ m, omega (arith, ints))

-- a range is stepped from both its ends
term_stepped : (d : ℕ) (a x : ℤ) (r : Range) → IsStepped r → LiesIn r x → d ∣ nat_abs (a *ℤ r.step) → (q : ℤ) × (a *ℤ x ≡ (times a r.lo r.hi).lo +ℤ pos d *ℤ q)
term_stepped d (pos a) x r ends lies h = stepped d (pos a) r.lo r.step x (pos lies.step.0) h lies.step.1
term_stepped d (negsuc a) x r ends lies h =
    let back : x ≡ r.hi +ℤ ((pos lies.step.0 -ℤ pos ends.0) *ℤ r.step) =
    (let s = sub-mul (pos lies.step.0) (pos ends.0) r.step in
    let e = lies.step.1 in
    let f = ends.1 in
    omega (arith, ints)) in
    stepped d (negsuc a) r.hi r.step x (pos lies.step.0 -ℤ pos ends.0) h back

total_stepped : (is : List Index) (ρ : Var → ℤ) → AreStepped is → InRanges is ρ → (d : ℕ) (ts : List Term) (i : Interval) → span is ts ≡ Some i → d ∣ stride is ts → (q : ℤ) × (total ρ ts ≡ i.lo +ℤ pos d *ℤ q)
total_stepped is ρ s h d [] i e k =
    let same : record { lo = pos 0; hi = pos 0 } ≡ i = cc in
    subst (λ i. (q : ℤ) × (pos 0 ≡ i.lo +ℤ pos d *ℤ q)) same (pos 0, (let z : pos d *ℤ pos 0 ≡ pos 0 = *ℤ_comm (pos d) (pos 0) ∙ zero-*ℤ (pos d) in omega (arith, ints)))
total_stepped is ρ s h d (t ∷ ts) i e k =
    let p = some_of (range_in is t.var) (λ r. with_some (span is ts) (λ j. Some (plus (times t.times r.lo r.hi) j))) i e in
    let q = some_of (span is ts) (λ j. Some (plus (times t.times p.0.lo p.0.hi) j)) i p.2 in
    let same : plus (times t.times p.0.lo p.0.hi) q.0 ≡ i = (let f = q.2 in cc) in
    let g = gcd_is (gap_of (range_in is t.var) t.times) (stride is ts) in
    let gap : d ∣ nat_abs (t.times *ℤ p.0.step) = subst (λ o. d ∣ gap_of o t.times) p.1 (dvd_trans d k g.0) in
    let one = term_stepped d t.times (ρ t.var) p.0 (s t.var p.0 p.1) (h t.var p.0 p.1) gap in
    let rest = total_stepped is ρ s h d ts q.0 q.1 (dvd_trans d k g.1) in
    let m = mul-add (pos d) one.0 rest.0 in
    let a = one.1 in
    let b = rest.1 in
    subst (λ i. (q : ℤ) × (t.times *ℤ ρ t.var +ℤ total ρ ts ≡ i.lo +ℤ pos d *ℤ q)) same (one.0 +ℤ rest.0, omega (arith, ints))

-- a value of a progression
pub record IsAmong (p : Progression) (v : ℤ) : Type 0 where
  pub low : p.lo ≤ℤ v
  pub high : v ≤ℤ p.hi
  pub some : 0 < p.step
  pub steps : (q : ℤ) × (v ≡ p.lo +ℤ pos p.step *ℤ q)

at_least_one : (s : ℕ) (lo v q : ℤ) → v ≡ lo +ℤ pos s *ℤ q → (k : ℤ) × (v ≡ lo +ℤ pos (max 1 s) *ℤ k)
at_least_one zero lo v q e = (pos 0, (let z : pos 0 *ℤ q ≡ pos 0 = zero-*ℤ q in let y : pos 1 *ℤ pos 0 ≡ pos 0 = *ℤ_comm (pos 1) (pos 0) ∙ zero-*ℤ (pos 1) in omega (arith, ints)))
at_least_one (suc s) lo v q e = (q, subst (λ n. v ≡ lo +ℤ pos n *ℤ q) (sym (max-eq_right (omega arith))) e)

values_have : (is : List Index) (ρ : Var → ℤ) → AreStepped is → InRanges is ρ → (f : Affine) (p : Progression) → values_of is f ≡ Some p → IsAmong p (worth ρ f)
values_have is ρ s h f p e =
    let k = some_of (span is f.terms) (λ i. Some (record { lo = i.lo +ℤ f.rest; hi = i.hi +ℤ f.rest; step = max 1 (stride is f.terms) })) p e in
    let same : record { lo = k.0.lo +ℤ f.rest; hi = k.0.hi +ℤ f.rest; step = max 1 (stride is f.terms) } ≡ p = (let g = k.2 in cc) in
    let within = span_has is ρ h f.terms k.0 k.1 in
    let w = total_stepped is ρ s h (stride is f.terms) f.terms k.0 k.1 (dvd_refl (stride is f.terms)) in
    let t = at_least_one (stride is f.terms) k.0.lo (total ρ f.terms) w.0 w.1 in
    let u = t.1 in
    subst (λ p. IsAmong p (worth ρ f)) same (record { low = omega (arith, ints, within.low); high = omega (arith, ints, within.high); some = max-pos (stride is f.terms); steps = (t.0, omega (arith, ints)) })
  where
    max-pos : (n : ℕ) → 0 < max 1 n
    max-pos n = le-max_left 1 n

-- ---- positions
-- a natural number of steps from the first position inside
from_first : (lo : ℤ) (step z : ℕ) (q : ℤ) → 0 < step → lo ≤ℤ pos z → pos z ≡ lo +ℤ pos step *ℤ q → (j : ℕ) × (z ≡ j * step + first_inside lo step)
from_first (pos n) step z (pos j) some le e =
    let m : pos step *ℤ pos j ≡ pos (step * j) = pos-*ℤ-pos step j in
    let c : step * j ≡ j * step = mul_comm step j in
    (j, omega (arith, ints))
from_first (pos n) step z (negsuc j) some le e =
    let m : pos step *ℤ negsuc j ≡ neg_ℤ (pos (step * suc j)) = pos-*ℤ-negsuc step j in
    let c : step * suc j ≡ suc j * step = mul_comm step (suc j) in
    let d = add-mul 1 j step in
    absurd (omega (arith, ints))
from_first (negsuc n) step z (negsuc j) some le e =
    let m : pos step *ℤ negsuc j ≡ neg_ℤ (pos (step * suc j)) = pos-*ℤ-negsuc step j in
    absurd (omega (arith, ints))
from_first (negsuc n) step z (pos k) some le e =
    let m : pos step *ℤ pos k ≡ pos (step * k) = pos-*ℤ-pos step k in
    let d : step * (n / step) + n % step ≡ n = div-add-mod n step in
    let lt : n % step < step = mod-lt n some in
    let over : n / step < k = lt_of_mul-lt-mul_left step (omega (arith, ints)) in
    let c : step * k ≡ k * step = mul_comm step k in
    let f : step * (n / step) ≡ n / step * step = mul_comm step (n / step) in
    let g : (k - suc (n / step) + suc (n / step)) * step ≡ (k - suc (n / step)) * step + suc (n / step) * step = add-mul (k - suc (n / step)) (suc (n / step)) step in
    let i : (k - suc (n / step) + suc (n / step)) * step ≡ k * step = ap (λ y. y * step) (omega arith) in
    let l = add-mul 1 (n / step) step in
    (k - suc (n / step), omega (arith, ints))

-- a step over 2^22 leads past each position
kept_steps : (step j f z : ℕ) → z ≡ j * step + f → z < 2 ^ 22 → z ≡ j * min step (2 ^ 22) + f
kept_steps step zero f z e small = omega arith
kept_steps step (suc j) f z e small =
    let m = add-mul 1 j step in
    let le : step ≤ 2 ^ 22 = omega arith in
    subst (λ s. z ≡ suc j * s + f) (sym (min-eq_left le)) e

from_to_has : (lo hi step j z : ℕ) → z ≡ j * step + lo → z ≤ hi → z < 2 ^ 22 → HasPosition (from_to lo hi step) z
from_to_has lo hi step j z e le small = go (nat_lt hi lo) refl
  where
    go : (test : Bool) → nat_lt hi lo ≡ test → HasPosition (if test then nothing else record { lo = lo; hi = hi; step = min step (2 ^ 22) }) z
    go true q = absurd (omega (arith, ltb-true hi lo q))
    go false q = record { steps = j; is = kept_steps step j lo z e small; high = le }

cut_has : (extent : ℕ) (lo hi : ℤ) (step z : ℕ) (q : ℤ) → 0 < step → lo ≤ℤ pos z → pos z ≤ℤ hi → pos z ≡ lo +ℤ pos step *ℤ q → z < extent → extent ≤ 2 ^ 22 → HasPosition (cut extent lo hi step) z
cut_has extent lo (negsuc hi) step z q some low high e lt small = absurd (omega (arith, ints))
cut_has extent lo (pos hi) step z q some low high e lt small =
    let j = from_first lo step z q some low e in
    from_to_has (first_inside lo step) (min hi (extent - 1)) step j.0 z j.1 (le-min (omega (arith, ints)) (omega arith)) (omega arith)

position_of : (d : Dim) (v : ℤ) (z : ℕ) → position d v ≡ Ok z → (v -ℤ d.low ≡ pos z) × (z < d.extent)
position_of d v z e = go (v -ℤ d.low) refl e
  where
    inside : (n : ℕ) (test : Bool) → v -ℤ d.low ≡ pos n → nat_lt n d.extent ≡ test → (if test then Ok n else Err Subscript) ≡ Ok z → (v -ℤ d.low ≡ pos z) × (z < d.extent)
    inside n true p q e =
        let same : n ≡ z = cc in
        (p ∙ ap pos same, subst (λ k. k < d.extent) same (ltb-true n d.extent q))
    inside n false p q e = cc

    go : (x : ℤ) → v -ℤ d.low ≡ x → below d.extent x ≡ Ok z → (v -ℤ d.low ≡ pos z) × (z < d.extent)
    go (pos n) p e = inside n (nat_lt n d.extent) p refl e
    go (negsuc n) p e = cc

-- ---- what a reference names
module _ (b : Binding) (c : Surroundings) (t : Store) (sc : Scope) (steps : AreStepped sc.indexes) (ranges : InRanges sc.indexes (held b c t)) where
  one_named : (e : Expr) (d : Dim) (v : ℤ) (z : ℕ) → Value b c t e v → position d v ≡ Ok z → d.extent ≤ 2 ^ 22 → HasPosition (triplet_of d (with_some (form sc e) (values_of sc.indexes))) z
  one_named e d v z val at narrow = go (with_some (form sc e) (values_of sc.indexes)) refl
    where
      there : (v -ℤ d.low ≡ pos z) × (z < d.extent)
      there = position_of d v z at

      go : (o : Option Progression) → with_some (form sc e) (values_of sc.indexes) ≡ o → HasPosition (triplet_of d o) z
      go None q = record { steps = z; is = omega arith; high = omega (arith, there.1) }
      go (Some p) q =
          let k = some_of (form sc e) (values_of sc.indexes) p q in
          let is : v ≡ worth (held b c t) k.0 = form_is b c t sc e k.0 v k.1 val in
          let among : IsAmong p v = subst (IsAmong p) (sym is) (values_have sc.indexes (held b c t) steps ranges k.0 p k.2) in
          cut_has d.extent (p.lo -ℤ d.low) (p.hi -ℤ d.low) p.step z among.steps.0 among.some
          (omega (arith, ints, there.0, among.low)) (omega (arith, ints, there.0, among.high)) (omega (arith, ints, there.0, among.steps.1)) there.1 narrow

  named : (es : Exprs) (ds : List Dim) (vs : List ℤ) (zs : List ℕ) → Values b c t es vs → ArePositions ds vs zs → AreNarrow ds → IsInSection (section sc es ds) zs
  named Empty [] [] [] v p n = tt
  named Empty [] [] (z ∷ zs) v p n = absurd p
  named Empty [] (x ∷ vs) zs v p n = absurd p
  named Empty (d ∷ ds) [] zs v p n = absurd p
  named Empty (d ∷ ds) (x ∷ vs) zs v p n = cc
  named (More e es) [] [] zs v p n = (let q = v.4 in cc)
  named (More e es) [] (x ∷ vs) zs v p n = absurd p
  named (More e es) (d ∷ ds) [] zs v p n = absurd p
  named (More e es) (d ∷ ds) (x ∷ vs) [] v p n = absurd p
  named (More e es) (d ∷ ds) (x ∷ vs) (z ∷ zs) v p n =
      let first : v.0 ≡ x = (let q = v.4 in cc) in
      let rest : v.1 ≡ vs = (let q = v.4 in cc) in
      (one_named e d x z (subst (Value b c t e) first v.2) p.0 n.0, named es ds vs zs (subst (Values b c t es) rest v.3) p.1 n.1)

pub named_of : {E : Type 0} (o : Result (List Triplet) E) (sc : Scope) (es : Exprs) (ds : List Dim) → IfOk o (λ ts. ts ≡ section sc es ds) → IfOk o (HoldsNamed sc es ds)
named_of (Err e) sc es ds h = tt
named_of (Ok ts) sc es ds h = λ b c t vs zs steps ranges values at narrow. subst (λ ts. IsInSection ts zs) (sym h) (named b c t sc steps ranges es ds vs zs values at narrow)

-- sections that share an element overlap
pub shared : (ts us : List Triplet) (zs : List ℕ) → IsInSection ts zs → IsInSection us zs → Overlap ts us
shared [] [] zs p q = tt
shared [] (u ∷ us) [] p q = q
shared [] (u ∷ us) (z ∷ zs) p q = absurd p
shared (t ∷ ts) us [] p q = absurd p
shared (t ∷ ts) [] (z ∷ zs) p q = absurd q
shared (t ∷ ts) (u ∷ us) (z ∷ zs) p q = (record { at = z; left = p.0; right = q.0 }, shared ts us zs p.1 q.1)

-- what the code makes of an interval
pub positions_are : (is : List Index) (d : Dim) (f : Affine) (i : Interval) (lo hi : ℤ) (step : ℕ) → span is f.terms ≡ Some i → lo ≡ (i.lo +ℤ f.rest) -ℤ d.low → hi ≡ (i.hi +ℤ f.rest) -ℤ d.low → step ≡ max 1 (stride is f.terms) → cut d.extent lo hi step ≡ triplet_of d (values_of is f)
positions_are is d f i lo hi step found low high steps =
    ap (λ x. cut d.extent x hi step) low ∙ ap (λ x. cut d.extent ((i.lo +ℤ f.rest) -ℤ d.low) x step) high ∙ ap (λ n. cut d.extent ((i.lo +ℤ f.rest) -ℤ d.low) ((i.hi +ℤ f.rest) -ℤ d.low) n) steps
    ∙ sym (ap (λ o. triplet_of d (with_some o (λ i. Some (record { lo = i.lo +ℤ f.rest; hi = i.hi +ℤ f.rest; step = max 1 (stride is f.terms) })))) found)
