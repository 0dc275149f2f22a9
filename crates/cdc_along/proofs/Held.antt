-- What scalars of a unit hold after stores.
use Rattle.std.proofs.Common.{◌≡◌, ◌≢◌, ℕ, zero, suc, ◌+◌, ◌<◌, ℤ, List, [], ◌∷◌, map, length, Ok, refl, sym, ap, ◌∙◌, subst, arith}
use Rattle.std.specs.Prelude.{slice_get}
use Rattle.cdc_prog.specs.declared.expr.Var.{Var}
use Rattle.cdc_prog.specs.declared.expr.Var.TheVariants as var
use Rattle.cdc_prog.specs.declared.program.Dim.{Dim}
use Rattle.cdc_prog.specs.Plain.{Program}
use Rattle.cdc_prog.specs.Data.{Store, put, dims_in, dims_of, base_of, object_of, element, Binding}
use Rattle.cdc_prog.specs.Expressions.{Surroundings}
use Rattle.cdc_prog.specs.Units.{shapes_in, body_of, binding_of}
use Rattle.cdc_prog.specs.Resolved.{IsWordOf, AreBound, extents, IsVar, IsScalar, IsResolved}
use Rattle.cdc_prog.specs.Iterations.{held, IsThere, with_slot}
use Rattle.cdc_prog.specs.Uses.{Uses, Stores}
use Rattle.cdc_prog.specs.Paths.{IsUnder}
use Rattle.cdc_prog.specs.Premises.{IsUnaliased}
use Rattle.cdc_prog.proofs.Alone.{put_same, put_other}
use Rattle.cdc_prog.proofs.Owners.{one_owner, word_of_variable}
use Rattle.cdc_prog.proofs.Words.{bound_to}

lengths : (a b : List Dim) → extents a ≡ extents b → length a ≡ length b
lengths [] [] e = refl
lengths [] (d ∷ ds) e = cc
lengths (d ∷ ds) [] e = cc
lengths (d ∷ ds) (c ∷ cs) e = let rest : extents ds ≡ extents cs = cc in omega (arith, lengths ds cs rest)

has_dims : (ds : List Dim) (x : ℤ) (xs : List ℤ) (n : ℕ) → element ds (x ∷ xs) ≡ Ok n → 0 < length ds
has_dims [] x xs n e = cc
has_dims (d ∷ ds) x xs n e = omega arith

module _ (p : Program) (r : IsResolved p) (path : List ℕ) (at_unit : ℕ) (bound : List ℕ) (fitting : AreBound p.objects (shapes_in (slice_get p.units at_unit)) bound) where
  abbrev pub its : Binding
  its = binding_of p path at_unit bound

  -- the word of an element of an array
  abbrev pub IsArrayWord : ℕ → Type 0
  IsArrayWord w = (k : ℕ) × (n : ℕ) × IsWordOf p.objects k n w × (0 < length (dims_in (slice_get p.objects k)))

  is_word : (v : Var) (vs : List ℤ) (n : ℕ) → IsThere its v → element (dims_of its v) vs ≡ Ok n → IsWordOf p.objects (object_of its v) n (base_of its v + n)
  is_word (var.Object k) vs n there found = word_of_variable its p.words (var.Object k) vs n r.laid_out fitting there found
  is_word (var.Dummy k) vs n there found = word_of_variable its p.words (var.Dummy k) vs n r.laid_out fitting there found
  is_word (var.Slot k) vs n there found = absurd there

  -- a variable has as many dimensions as its object
  same_rank : (v : Var) → IsThere its v → length (dims_of its v) ≡ length (dims_in (slice_get p.objects (object_of its v)))
  same_rank (var.Object k) there = refl
  same_rank (var.Dummy k) there = lengths _ _ (bound_to p.objects its.shapes bound k fitting there).extents
  same_rank (var.Slot k) there = absurd there

  pub array_word : (v : Var) (x : ℤ) (xs : List ℤ) (n : ℕ) → IsThere its v → element (dims_of its v) (x ∷ xs) ≡ Ok n → IsArrayWord (base_of its v + n)
  array_word v x xs n there found = (object_of its v, n, is_word v (x ∷ xs) n there found, omega (arith, same_rank v there, has_dims (dims_of its v) x xs n found))

  scalar_word : (v : Var) → IsThere its v → dims_of its v ≡ [] → IsWordOf p.objects (object_of its v) 0 (base_of its v)
  scalar_word v there none =
      let zero_th : base_of its v + 0 ≡ base_of its v = omega arith in
      subst (IsWordOf p.objects (object_of its v) 0) zero_th (is_word v [] 0 there (subst (λ ds. element ds [] ≡ Ok 0) (sym none) refl))

  -- a value is stored in a scalar
  abbrev pub slots_then : Var → ℤ → Surroundings → Surroundings
  slots_then (var.Slot k) y c = with_slot c k y
  slots_then v y c = c

  abbrev pub store_then : Var → ℤ → Store → Store
  store_then (var.Slot k) y t = t
  store_then v y t = put t (base_of its v) y

  pub held_then : (v : Var) (y : ℤ) (c : Surroundings) (t : Store) → held its (slots_then v y c) (store_then v y t) v ≡ y
  held_then (var.Slot k) y c t = put_same c.slots k y
  held_then (var.Object k) y c t = put_same t (base_of its (var.Object k)) y
  held_then (var.Dummy k) y c t = put_same t (base_of its (var.Dummy k)) y

  -- in memory they are of different objects
  abbrev pub AreApart : Var → Var → Type 0
  AreApart u v = IsThere its u → IsThere its v → object_of its u ≡ object_of its v → ⊥

  other_word : (u v : Var) → IsThere its u → IsThere its v → dims_of its u ≡ [] → dims_of its v ≡ [] → AreApart u v → base_of its u ≢ base_of its v
  other_word u v there also none none_too apart e =
      apart there also (one_owner p.objects p.words (object_of its u) (object_of its v) 0 0 (base_of its u) r.laid_out (scalar_word u there none) (subst (IsWordOf p.objects (object_of its v) 0) (sym e) (scalar_word v also none_too))).0

  -- another scalar keeps its value
  pub held_still : (u v : Var) (slots slots' : ℕ) → IsScalar p.objects its.shapes slots u → IsScalar p.objects its.shapes slots' v → u ≢ v → AreApart u v → (y : ℤ) (c : Surroundings) (t : Store)
      → held its (slots_then v y c) (store_then v y t) u ≡ held its c t u
  held_still (var.Slot k) (var.Slot j) slots slots' hu hv ne apart y c t = put_other c.slots j y k (λ e. ne (ap var.Slot e))
  held_still (var.Slot k) (var.Object j) slots slots' hu hv ne apart y c t = refl
  held_still (var.Slot k) (var.Dummy j) slots slots' hu hv ne apart y c t = refl
  held_still (var.Object k) (var.Slot j) slots slots' hu hv ne apart y c t = refl
  held_still (var.Object k) (var.Object j) slots slots' hu hv ne apart y c t = put_other t _ y _ (other_word (var.Object k) (var.Object j) hu.0 hv.0 hu.1 hv.1 apart)
  held_still (var.Object k) (var.Dummy j) slots slots' hu hv ne apart y c t = put_other t _ y _ (other_word (var.Object k) (var.Dummy j) hu.0 hv.0 hu.1 hv.1 apart)
  held_still (var.Dummy k) (var.Slot j) slots slots' hu hv ne apart y c t = refl
  held_still (var.Dummy k) (var.Object j) slots slots' hu hv ne apart y c t = put_other t _ y _ (other_word (var.Dummy k) (var.Object j) hu.0 hv.0 hu.1 hv.1 apart)
  held_still (var.Dummy k) (var.Dummy j) slots slots' hu hv ne apart y c t = put_other t _ y _ (other_word (var.Dummy k) (var.Dummy j) hu.0 hv.0 hu.1 hv.1 apart)

  no_array : (v : Var) → IsThere its v → dims_of its v ≡ [] → (w : ℕ) → IsArrayWord w → base_of its v ≢ w
  no_array v there none w (k, n, word, some) e =
      let same = (one_owner p.objects p.words (object_of its v) k 0 n w r.laid_out (subst (IsWordOf p.objects (object_of its v) 0) e (scalar_word v there none)) word).0 in
      omega (arith, some, ap (λ i. length (dims_in (slice_get p.objects i))) same, same_rank v there, ap length none)

  -- and so it does after a store in an element of an array
  pub held_past : (u : Var) (slots : ℕ) → IsScalar p.objects its.shapes slots u → (w : ℕ) → IsArrayWord w → (y : ℤ) (c : Surroundings) (t : Store) → held its c (put t w y) u ≡ held its c t u
  held_past (var.Slot k) slots hu w is y c t = refl
  held_past (var.Object k) slots hu w is y c t = put_other t w y _ (no_array (var.Object k) hu.0 hu.1 w is)
  held_past (var.Dummy k) slots hu w is y c t = put_other t w y _ (no_array (var.Dummy k) hu.0 hu.1 w is)

  -- two variables of which the unit stores in one are of different objects
  pub unaliased_apart : IsUnaliased p → IsUnder p path at_unit bound → (u v : Var) → Uses u (body_of p at_unit) → Uses v (body_of p at_unit) → Stores p v (body_of p at_unit) → u ≢ v → AreApart u v
  unaliased_apart none under (var.Slot k) v uses also stores ne there too e = there
  unaliased_apart none under u (var.Slot j) uses also stores ne there too e = too
  unaliased_apart none under (var.Object k) (var.Object j) uses also stores ne there too e = none path at_unit bound _ _ j under also uses (λ i. ne (sym i)) stores refl e
  unaliased_apart none under (var.Object k) (var.Dummy j) uses also stores ne there too e = none path at_unit bound (var.Dummy j) (var.Object k) _ under also uses (λ i. ne (sym i)) stores refl e
  unaliased_apart none under (var.Dummy k) (var.Object j) uses also stores ne there too e = none path at_unit bound (var.Object j) (var.Dummy k) j under also uses (λ i. ne (sym i)) stores refl e
  unaliased_apart none under (var.Dummy k) (var.Dummy j) uses also stores ne there too e = none path at_unit bound (var.Dummy j) (var.Dummy k) _ under also uses (λ i. ne (sym i)) stores refl e
