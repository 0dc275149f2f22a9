-- One walk finds the failing pair of the DOALL with the least number.
use Rattle.std.proofs.Common.{◌≡◌, ℕ, zero, suc, ◌-◌, ◌<◌, ◌≤◌, Bool, true, false, if◌then◌else◌, List, [], ◌∷◌, ◌⊎◌, inl, inr, Option, Some, None, refl, sym, ap, ap₂, ◌∙◌, arith}
use Rattle.std.specs.Prelude.{◌==◌, ◌&&◌, not, nat_lt}
use Rattle.std.proofs.lemmas.Bool.{eq-eqb, ne_eqb, ltb-false, ltb-true}
use Rattle.cdc_base.specs.declared.place.Place.{Place}
use Rattle.cdc_prog.specs.declared.program.Dim.{Dim}
use Rattle.cdc_prog.specs.declared.program.Object.{Object}
use Rattle.cdc_prog.specs.Plain.{Stmt, Skip, Seq, Assign, If, Arm, Do, Doall, Call, Print, Read, ProgramUnit}
use Rattle.cdc_prog.specs.InOrder.{or_else, first_of}
use Rattle.cdc_prog.specs.Numbered.{units_numbered}
use Rattle.cdc_prog.specs.Dependence.{or_first, first_in, shapes_of, failing_units}
use Rattle.cdc_affine.proofs.Worth.{and_true}
use Rattle.cdc_subtest.specs.declared.conflict.Search.{Search}
use Rattle.cdc_subtest.specs.Seen.{places_in, places_of_units}
use Rattle.cdc_subtest.specs.Verdicts.{places}
use Rattle.cdc_subtest.specs.Searches.{is_before, with_pair, searched, searched_units}
use Rattle.cdc_subtest.proofs.Apart.{not_true}
use Rattle.cdc_subtest.proofs.Programs.{places_are}

abbrev Found : Type 0
Found = Option (Place × Place)

-- ---- the least number
or_or : (a b c : Found) → or_first (or_first a b) c ≡ or_first a (or_first b c)
or_or None b c = refl
or_or (Some x) b c = refl

else_is : (a b : Found) → or_else a b ≡ or_first a b
else_is None b = refl
else_is (Some x) b = refl

same_below : (f g : ℕ → Found) (n : ℕ) → ((k : ℕ) → k < n → f k ≡ g k) → first_of f n ≡ first_of g n
same_below f g zero h = refl
same_below f g (suc n) h = ap₂ or_else (same_below f g n (λ k lt. h k (omega (arith, lt)))) (h n (omega arith))

-- what the numbers below n have, and behind them what they have found already
abbrev least : (f : ℕ → Found) → (n : ℕ) → Found → Found
least f n found = or_first (first_of f n) found

below_or_last : (m n : ℕ) → m < suc n → (m < n) ⊎ (n ≡ m)
below_or_last m n lt = grind arith

least_some : (f g : ℕ → Found) (m n : ℕ) (pair : Place × Place) → m < n → ((k : ℕ) → k < m → f k ≡ g k) → f m ≡ Some pair → first_of f n ≡ or_first (first_of g m) (Some pair)
least_some f g m zero pair lt h here = absurd (omega (arith, lt))
least_some f g m (suc n) pair lt h here = go (below_or_last m n lt) (λ less. least_some f g m n pair less h here)
  where
    some : (a b : Found) → or_else (or_first a (Some pair)) b ≡ or_first a (Some pair)
    some None b = refl
    some (Some x) b = refl

    go : (m < n) ⊎ (n ≡ m) → (m < n → first_of f n ≡ or_first (first_of g m) (Some pair)) → or_else (first_of f n) (f n) ≡ or_first (first_of g m) (Some pair)
    go (inl less) before = ap (λ o. or_else o (f n)) (before less) ∙ some (first_of g m) (f n)
    go (inr e) before =
        let below : first_of f n ≡ first_of g m = ap (first_of f) e ∙ same_below f g m h in
        ap₂ or_else below (ap f e ∙ here) ∙ else_is (first_of g m) (Some pair)

-- ---- a search goes on
-- what a search comes to, where the numbers after it have f
abbrev ending : Search → (f : ℕ → Found) → Found
ending search f = least (λ before. f (suc before)) search.last search.pair

same_ending : (search : Search) (f g : ℕ → Found) → ((n : ℕ) → f n ≡ g n) → ending search f ≡ ending search g
same_ending search f g h = ap (λ o. or_first o search.pair) (same_below (λ k. f (suc k)) (λ k. g (suc k)) search.last (λ k lt. h (suc k)))

none_at : (b : Bool) (o : Found) → or_first (if b then None else None) o ≡ o
none_at true o = refl
none_at false o = refl

-- what a DOALL of this number adds
abbrev beside : (m : ℕ) → Found → (ℕ → Found) → ℕ → Found
beside m o g n = or_first (if m == n then o else None) (g n)

beside_other : (m : ℕ) (o : Found) (g : ℕ → Found) (n : ℕ) → (m ≡ n → ⊥) → beside m o g n ≡ g n
beside_other m o g n h = ap (λ (b : Bool). or_first (if b then o else None) (g n)) (ne_eqb m n h)

beside_own : (m : ℕ) (pair : Place × Place) (g : ℕ → Found) → beside m (Some pair) g m ≡ Some pair
beside_own m pair g = ap (λ (b : Bool). or_first (if b then Some pair else None) (g m)) (eq-eqb m m refl)

is_within : (search : Search) (m : ℕ) → is_before search m ≡ true → (0 < m) × (m ≤ search.last)
is_within search m e =
    let both = and_true (nat_lt 0 m) (not (nat_lt search.last m)) e in
    (ltb-true 0 m both.0, ltb-false search.last m (not_true (nat_lt search.last m) both.1))

is_beyond : (search : Search) (m k : ℕ) → is_before search m ≡ false → k < search.last → m ≡ suc k → ⊥
is_beyond search m k e less is = go (nat_lt 0 m) (nat_lt search.last m) refl refl e
  where
    go : (a b : Bool) → nat_lt 0 m ≡ a → nat_lt search.last m ≡ b → (a && not b) ≡ false → ⊥
    go true true p q e = omega (arith, ltb-true search.last m q, less, is)
    go true false p q e = cc
    go false b p q e = omega (arith, ltb-false 0 m p, is)

at_doall : (search : Search) (m : ℕ) (o : Found) (g : ℕ → Found) → ending (if is_before search m then with_pair search m o else search) g ≡ ending search (beside m o g)
at_doall search m None g = go (is_before search m) ∙ sym (same_ending search (beside m None g) g (λ n. none_at (m == n) (g n)))
  where
    go : (b : Bool) → ending (if b then search else search) g ≡ ending search g
    go true = refl
    go false = refl
at_doall search m (Some pair) g = go (is_before search m) refl
  where
    within : 0 < m → m ≤ search.last → ending (with_pair search m (Some pair)) g ≡ ending search (beside m (Some pair) g)
    within some le =
        let is : suc (m - 1) ≡ m = omega (arith, some) in
        let here : beside m (Some pair) g (suc (m - 1)) ≡ Some pair = ap (beside m (Some pair) g) is ∙ beside_own m pair g in
        let before : (k : ℕ) → k < m - 1 → beside m (Some pair) g (suc k) ≡ g (suc k) = λ (k : ℕ) (less : k < m - 1). beside_other m (Some pair) g (suc k) (λ (e : m ≡ suc k). omega (arith, e, less)) in
        let least_is = least_some (λ k. beside m (Some pair) g (suc k)) (λ k. g (suc k)) (m - 1) search.last pair (omega (arith, some, le)) before here in
        sym (ap (λ o. or_first o search.pair) least_is ∙ or_or (first_of (λ k. g (suc k)) (m - 1)) (Some pair) search.pair)

    go : (b : Bool) → is_before search m ≡ b → ending (if b then with_pair search m (Some pair) else search) g ≡ ending search (beside m (Some pair) g)
    go true e = let both = is_within search m e in within both.0 both.1
    go false e = sym (ap (λ o. or_first o search.pair) (same_below (λ k. beside m (Some pair) g (suc k)) (λ k. g (suc k)) search.last (λ k less. beside_other m (Some pair) g (suc k) (is_beyond search m k e less))))

-- ---- a walk
-- one part after another
both_parts : (f h : ℕ → Found) (one two : Search → Search)
    → ((search : Search) (g : ℕ → Found) → ending (one search) g ≡ ending search (λ n. or_first (f n) (g n)))
    → ((search : Search) (g : ℕ → Found) → ending (two search) g ≡ ending search (λ n. or_first (h n) (g n)))
    → (search : Search) (g : ℕ → Found) → ending (two (one search)) g ≡ ending search (λ n. or_first (or_first (f n) (h n)) (g n))
both_parts f h one two a b search g =
    b (one search) g
    ∙ a search (λ n. or_first (h n) (g n))
    ∙ same_ending search (λ n. or_first (f n) (or_first (h n) (g n))) (λ n. or_first (or_first (f n) (h n)) (g n)) (λ n. sym (or_or (f n) (h n) (g n)))

abbrev nothing : ℕ → Found
nothing n = None

module _ (objects : List Object) (shapes : List (List Dim)) where
  abbrev at : Stmt → ℕ → Found
  at s n = first_in n (places_in objects shapes) s

  statement : (s : Stmt) (search : Search) (g : ℕ → Found) → ending (searched objects shapes s search) g ≡ ending search (λ n. or_first (at s n) (g n))
  statement Skip search g = refl
  statement (Seq a b) search g = both_parts (at a) (at b) (searched objects shapes a) (searched objects shapes b) (statement a) (statement b) search g
  statement (Assign line t value) search g = refl
  statement (If arms) search g = statement arms search g
  statement (Arm line cond body other) search g = both_parts (at body) (at other) (searched objects shapes body) (searched objects shapes other) (statement body) (statement other) search g
  statement (Do k first body again bump) search g = statement body search g
  statement (Doall k m slots body) search g = at_doall search m (places_in objects shapes k slots body) g
  statement (Call line n u actuals) search g = refl
  statement (Print line items) search g = refl
  statement (Read line targets) search g = refl

units : (objects : List Object) (us : List ProgramUnit) (search : Search) → ending (searched_units objects us search) nothing ≡ ending search (λ n. places_of_units n objects us)
units objects [] search = refl
units objects (u ∷ us) search =
    units objects us (searched objects (shapes_of u.dummies) u.body search)
    ∙ statement objects (shapes_of u.dummies) u.body search (λ n. places_of_units n objects us)

none_below : (n : ℕ) → first_of (λ k. nothing (suc k)) n ≡ None
none_below zero = refl
none_below (suc n) = ap (λ o. or_else o None) (none_below n)

or_nothing : (o : Found) → or_first o None ≡ o
or_nothing None = refl
or_nothing (Some x) = refl

pub search_is : (os : List Object) (us : List ProgramUnit) (doalls : ℕ)
    → (searched_units os us (record { last = doalls; pair = None })).pair ≡ first_of (λ before. places (failing_units (suc before) os (units_numbered 0 us))) doalls
search_is os us doalls =
    let all : Search = record { last = doalls; pair = None } in
    let done : Search = searched_units os us all in
    sym (ap (λ o. or_first o done.pair) (none_below done.last))
    ∙ units os us all
    ∙ or_nothing (first_of (λ before. places_of_units (suc before) os us) doalls)
    ∙ same_below (λ before. places_of_units (suc before) os us) (λ before. places (failing_units (suc before) os (units_numbered 0 us))) doalls (λ k lt. places_are (suc k) os us)
