-- The words of a program without CALL, and what stands in its variables after a store.
use Rattle.std.proofs.Common.{◌≡◌, ◌≢◌, ℕ, zero, suc, ◌+◌, ◌*◌, ◌^◌, ◌<◌, ◌≤◌, List, [], ◌∷◌, ℤ, Ok, length, refl, sym, ap, ◌∙◌, subst, arith}
use Rattle.std.specs.Prelude.{slice_get}
use Rattle.std.proofs.Math.Nat.{mul-le-mul_left, mul-le-mul_right}
use Rattle.cdc_prog.specs.declared.expr.Var.{Var}
use Rattle.cdc_prog.specs.declared.expr.Var.TheVariants as var
use Rattle.cdc_prog.specs.declared.program.Dim.{Dim}
use Rattle.cdc_prog.specs.declared.program.Object.{Object}
use Rattle.cdc_prog.specs.Plain.{Program}
use Rattle.cdc_prog.specs.Data.{Store, put, size_of, dims_in, position, with_position, element_from, element, Binding, base_of, dims_of}
use Rattle.cdc_prog.specs.Expressions.{Surroundings}
use Rattle.cdc_prog.specs.Units.{binding_of}
use Rattle.cdc_prog.specs.Resolved.{AreLaidOut, IsWordOf, IsScalar, IsResolved}
use Rattle.cdc_prog.specs.Iterations.{held, with_slot}
use Rattle.cdc_prog.specs.Sections.{ArePositions, AreNarrow}
use Rattle.cdc_prog.proofs.Alone.{put_same, put_other}
use Rattle.cdc_prog.proofs.Numbers.{position_got, element_within}
use Rattle.cdc_prog.proofs.Owners.{one_owner}

-- ---- elements
placed_from : (stride : ℕ) (ds : List Dim) (vs : List ℤ) (n : ℕ) → element_from stride ds vs ≡ Ok n → (zs : List ℕ) × ArePositions ds vs zs
placed_from stride [] [] n e = ([], tt)
placed_from stride [] (v ∷ vs) n e = cc
placed_from stride (d ∷ ds) [] n e = cc
placed_from stride (d ∷ ds) (v ∷ vs) n e =
    let (z, is, f) = position_got (position d v) (λ z. with_position (element_from (stride * d.extent) ds vs) (λ m. Ok (z * stride + m))) n e in
    let (m, found, g) = position_got (element_from (stride * d.extent) ds vs) (λ m. Ok (z * stride + m)) n f in
    let (zs, are) = placed_from (stride * d.extent) ds vs m found in
    (z ∷ zs, (is, are))

-- an element has positions
pub placed : (ds : List Dim) (vs : List ℤ) (n : ℕ) → element ds vs ≡ Ok n → (zs : List ℕ) × ArePositions ds vs zs
placed ds vs n e = placed_from 1 ds vs n e

narrow_of : (ds : List Dim) → 0 < size_of ds → size_of ds ≤ 2 ^ 22 → AreNarrow ds
narrow_of [] some small = tt
narrow_of (d ∷ ds) some small =
    let rest : 0 < size_of ds = positive (size_of ds) d.extent some in
    let first : 0 < d.extent = positive_first (size_of ds) d.extent some in
    let a : d.extent * 1 ≤ d.extent * size_of ds = mul-le-mul_left d.extent (omega (arith, rest)) in
    let c : 1 * size_of ds ≤ d.extent * size_of ds = mul-le-mul_right (size_of ds) (omega (arith, first)) in
    (omega (arith, a, small), narrow_of ds rest (omega (arith, c, small)))
  where
    positive : (s e : ℕ) → 0 < e * s → 0 < s
    positive zero e h = omega (arith, h)
    positive (suc s) e h = omega arith

    positive_first : (s e : ℕ) → 0 < e * s → 0 < e
    positive_first s zero h = omega (arith, h)
    positive_first s (suc e) h = omega arith

object_sized : (from : ℕ) (os : List Object) (words k : ℕ) → AreLaidOut from os words → k < length os → (0 < size_of (dims_in (slice_get os k))) × (from + size_of (dims_in (slice_get os k)) ≤ words)
object_sized from [] words k laid lt = absurd (omega (arith, lt))
object_sized from (o ∷ os) words zero laid lt = (omega (arith, laid.1, laid.2), omega (arith, laid.1, within (from + o.words) os words laid.3))
  where
    within : (f : ℕ) (xs : List Object) (w : ℕ) → AreLaidOut f xs w → f ≤ w
    within f [] w l = omega (arith, l)
    within f (x ∷ xs) w l = omega (arith, within (f + x.words) xs w l.3)
object_sized from (o ∷ os) words (suc k) laid lt = let r = object_sized (from + o.words) os words k laid.3 (omega (arith, lt)) in (r.0, omega (arith, r.1))

pub object_narrow : (p : Program) → IsResolved p → (k : ℕ) → k < length p.objects → AreNarrow (dims_in (slice_get p.objects k))
object_narrow p r k lt = let s = object_sized 0 p.objects p.words k r.laid_out lt in narrow_of (dims_in (slice_get p.objects k)) s.0 (omega (arith, s.1, r.small))

-- ---- variables
module _ (p : Program) (r : IsResolved p) where
  -- what the variables of the main unit stand for
  abbrev pub here : Binding
  here = binding_of p [] p.main []

  -- the main unit has no dummies
  pub no_dummy : (k : ℕ) → k < length here.shapes → ⊥
  no_dummy k lt = omega (arith, lt, ap length r.main_alone)

  -- the word of an element of an array
  abbrev pub IsElementWord : ℕ → Type 0
  IsElementWord w = (k : ℕ) × (n : ℕ) × (v : ℤ) × (vs : List ℤ) × (k < length p.objects) × (element (dims_in (slice_get p.objects k)) (v ∷ vs) ≡ Ok n) × (w ≡ base_of here (var.Object k) + n)

  -- a value is stored in a scalar
  abbrev pub slots_after : Var → ℤ → Surroundings → Surroundings
  slots_after (var.Slot k) y c = with_slot c k y
  slots_after v y c = c

  abbrev pub store_after : Var → ℤ → Store → Store
  store_after (var.Slot k) y t = t
  store_after v y t = put t (base_of here v) y

  pub held_same : (v : Var) (y : ℤ) (c : Surroundings) (t : Store) → held here (slots_after v y c) (store_after v y t) v ≡ y
  held_same (var.Slot k) y c t = put_same c.slots k y
  held_same (var.Object k) y c t = put_same t (base_of here (var.Object k)) y
  held_same (var.Dummy k) y c t = put_same t (base_of here (var.Dummy k)) y

  scalar_word : (k : ℕ) → k < length p.objects → dims_of here (var.Object k) ≡ [] → IsWordOf p.objects k 0 (base_of here (var.Object k))
  scalar_word k lt none = (lt, omega (arith, ap size_of none), omega arith)

  -- another scalar keeps its value
  pub held_other : (u v : Var) (slots slots' : ℕ) → IsScalar p.objects here.shapes slots u → IsScalar p.objects here.shapes slots' v → v ≢ u → (y : ℤ) (c : Surroundings) (t : Store) → held here (slots_after v y c) (store_after v y t) u ≡ held here c t u
  held_other (var.Slot k) (var.Slot j) slots slots' hu hv ne y c t = put_other c.slots j y k (λ e. ne (ap var.Slot (sym e)))
  held_other (var.Slot k) (var.Object j) slots slots' hu hv ne y c t = refl
  held_other (var.Slot k) (var.Dummy j) slots slots' hu hv ne y c t = absurd (no_dummy j hv.0)
  held_other (var.Object k) (var.Slot j) slots slots' hu hv ne y c t = refl
  held_other (var.Object k) (var.Object j) slots slots' hu hv ne y c t =
      put_other t (base_of here (var.Object j)) y (base_of here (var.Object k)) (λ e.
      ne (ap var.Object (sym (one_owner p.objects p.words k j 0 0 (base_of here (var.Object k)) r.laid_out (scalar_word k hu.0 hu.1) (subst (IsWordOf p.objects j 0) (sym e) (scalar_word j hv.0 hv.1))).0)))
  held_other (var.Object k) (var.Dummy j) slots slots' hu hv ne y c t = absurd (no_dummy j hv.0)
  held_other (var.Dummy k) v slots slots' hu hv ne y c t = absurd (no_dummy k hu.0)

  no_subscripts : (ds : List Dim) (v : ℤ) (vs : List ℤ) (n : ℕ) → ds ≡ [] → element ds (v ∷ vs) ≡ Ok n → ⊥
  no_subscripts [] v vs n e h = cc
  no_subscripts (d ∷ ds) v vs n e h = cc

  -- and so it does after a store in an element of an array
  pub held_beside : (u : Var) (slots : ℕ) → IsScalar p.objects here.shapes slots u → (w : ℕ) → IsElementWord w → (y : ℤ) (c : Surroundings) (t : Store) → held here c (put t w y) u ≡ held here c t u
  held_beside (var.Slot k) slots hu w is y c t = refl
  held_beside (var.Dummy k) slots hu w is y c t = absurd (no_dummy k hu.0)
  held_beside (var.Object k) slots hu w (j, n, v, vs, lt, found, at) y c t =
      put_other t w y (base_of here (var.Object k)) (λ e.
      let word : IsWordOf p.objects j n (base_of here (var.Object k)) = (lt, element_within (dims_in (slice_get p.objects j)) (v ∷ vs) n found, sym (e ∙ at)) in
      let same : k ≡ j = (one_owner p.objects p.words k j 0 n (base_of here (var.Object k)) r.laid_out (scalar_word k hu.0 hu.1) word).0 in
      no_subscripts (dims_in (slice_get p.objects j)) v vs n (subst (λ i. dims_in (slice_get p.objects i) ≡ []) same hu.1) found)
