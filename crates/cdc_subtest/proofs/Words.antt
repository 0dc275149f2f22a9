-- Variables that share a word stand for one object.
use Rattle.std.proofs.Common.{◌≡◌, ℕ, zero, suc, ◌+◌, ◌<◌, ◌≤◌, ℤ, List, [], ◌∷◌, length, Ok, refl, sym, ap, ◌∙◌, subst, arith}
use Rattle.std.specs.Prelude.{slice_get}
use Rattle.cdc_prog.specs.declared.expr.Var.{Var}
use Rattle.cdc_prog.specs.declared.expr.Var.TheVariants as var
use Rattle.cdc_prog.specs.declared.program.Dim.{Dim}
use Rattle.cdc_prog.specs.declared.program.Object.{Object}
use Rattle.cdc_prog.specs.Data.{size_of, element, Binding, object_of, base_in, dims_in, base_of, dims_of}
use Rattle.cdc_prog.specs.Resolved.{AreLaidOut, AreBound, extents}
use Rattle.cdc_prog.proofs.Numbers.{element_within}
use Rattle.cdc_prog.proofs.Words.{bound_to}
use Rattle.cdc_prog.specs.Iterations.{IsThere}
use Rattle.cdc_subtest.specs.Reached.{IsElementWord, IsScalarWord}

starts_after : (from : ℕ) (os : List Object) (words j : ℕ) → AreLaidOut from os words → j < length os → from ≤ base_in (slice_get os j)
starts_after from [] words j h lt = absurd (omega (arith, lt))
starts_after from (o ∷ os) words zero h lt = omega (arith, h.0)
starts_after from (o ∷ os) words (suc j) h lt = omega (arith, starts_after (from + o.words) os words j h.3 (omega (arith, lt)))

one_before : (from : ℕ) (os : List Object) (words i j : ℕ) → AreLaidOut from os words → i < j → j < length os → base_in (slice_get os i) + size_of (dims_in (slice_get os i)) ≤ base_in (slice_get os j)
one_before from [] words i j h less lt = absurd (omega (arith, lt))
one_before from (o ∷ os) words i zero h less lt = absurd (omega (arith, less))
one_before from (o ∷ os) words zero (suc j) h less lt = omega (arith, h.0, h.1, starts_after (from + o.words) os words j h.3 (omega (arith, lt)))
one_before from (o ∷ os) words (suc i) (suc j) h less lt = one_before (from + o.words) os words i j h.3 (omega (arith, less)) (omega (arith, lt))

pub same_index : (os : List Object) (words i j n m : ℕ) → AreLaidOut 0 os words → i < length os → j < length os → n < size_of (dims_in (slice_get os i)) → m < size_of (dims_in (slice_get os j)) → base_in (slice_get os i) + n ≡ base_in (slice_get os j) + m → i ≡ j
same_index os words i j n m h li lj ln lm e =
    let before : i < j → ⊥ = λ l. omega (arith, one_before 0 os words i j h l lj) in
    let after : j < i → ⊥ = λ l. omega (arith, one_before 0 os words j i h l li) in
    omega (arith, before, after)

lengths : (a b : List Dim) → extents a ≡ extents b → length a ≡ length b
lengths [] [] e = refl
lengths [] (d ∷ ds) e = cc
lengths (d ∷ ds) [] e = cc
lengths (d ∷ ds) (c ∷ cs) e = let rest : extents ds ≡ extents cs = cc in omega (arith, lengths ds cs rest)

-- an element of a variable is one of the object that the variable stands for
record IsAt (b : Binding) (v : Var) (n : ℕ) : Type 0 where
  pub there : object_of b v < length b.objects
  pub less : n < size_of (dims_in (slice_get b.objects (object_of b v)))
  pub dims : length (dims_of b v) ≡ length (dims_in (slice_get b.objects (object_of b v)))

is_at : (b : Binding) → AreBound b.objects b.shapes b.bound → (v : Var) (vs : List ℤ) (n : ℕ) → IsThere b v → element (dims_of b v) vs ≡ Ok n → IsAt b v n
is_at b bound (var.Object k) vs n h e = record { there = h; less = element_within (dims_of b (var.Object k)) vs n e; dims = refl }
is_at b bound (var.Dummy k) vs n h e =
    let at = bound_to b.objects b.shapes b.bound k bound h in
    record { there = at.there; less = omega (arith, at.size, element_within (dims_of b (var.Dummy k)) vs n e); dims = lengths _ _ at.extents }
is_at b bound (var.Slot k) vs n h e = absurd h

module _ (b : Binding) (words : ℕ) (laid : AreLaidOut 0 b.objects words) (bound : AreBound b.objects b.shapes b.bound) where
  pub same_object : (u v : Var) → IsThere b u → IsThere b v → (us vs : List ℤ) (n m : ℕ) → element (dims_of b u) us ≡ Ok n → element (dims_of b v) vs ≡ Ok m → base_of b u + n ≡ base_of b v + m → object_of b u ≡ object_of b v
  same_object u v hu hv us vs n m eu ev e =
      let a = is_at b bound u us n hu eu in
      let c = is_at b bound v vs m hv ev in
      same_index b.objects words (object_of b u) (object_of b v) n m laid a.there c.there a.less c.less e

  has_dims : (ds : List Dim) (x : ℤ) (xs : List ℤ) (n : ℕ) → element ds (x ∷ xs) ≡ Ok n → length ds ≡ 0 → ⊥
  has_dims [] x xs n e l = cc
  has_dims (d ∷ ds) x xs n e l = omega (arith, l)

  pub no_scalar : (w : ℕ) → IsScalarWord b w → IsElementWord b w → ⊥
  no_scalar w s e =
      let zero_th : element (dims_of b s.var) [] ≡ Ok 0 = subst (λ ds. element ds [] ≡ Ok 0) (sym s.scalar) refl in
      let same = same_object s.var e.var s.there e.there [] (e.first ∷ e.others) 0 e.number zero_th e.element (omega (arith, s.word, e.word)) in
      let a = is_at b bound s.var [] 0 s.there zero_th in
      let c = is_at b bound e.var (e.first ∷ e.others) e.number e.there e.element in
      let counts : length (dims_of b e.var) ≡ length (dims_of b s.var) = c.dims ∙ ap (λ i. length (dims_in (slice_get b.objects i))) (sym same) ∙ sym a.dims in
      has_dims (dims_of b e.var) e.first e.others e.number e.element (counts ∙ ap length s.scalar)
