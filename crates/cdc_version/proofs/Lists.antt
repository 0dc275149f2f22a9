-- Written lists: the search for an object, and one more of their objects.
use Rattle.std.proofs.Common.{◌≡◌, ℕ, ◌+◌, ◌<◌, ◌≤◌, List, [], ◌∷◌, ◌++◌, length, take, refl, sym, ◌∙◌, ap, subst, arith, inl, inr}
use Rattle.std.specs.Prelude.{Bool, true, false, ◌||◌, ◌==◌, Result, Ok, Err, is_ok}
use Rattle.std.specs.Ordering.{nat_cmp}
use Rattle.std.proofs.Math.ListN.{get_or, set}
use Rattle.std.specs.List.Sorted.{IsStrictlyIncreasing, IsBinarySearchResult}
use Rattle.std.proofs.lemmas.Bool.{cases_lt, cases_eq}
use Rattle.std.proofs.lemmas.Bool.Decides.{nat_tests}
use Rattle.std.proofs.lemmas.List.{take_more, get_or-take, get_or_default, get_or-set_same, get_or-set_other, length-take}
use Rattle.std.proofs.lemmas.List.Folds.{Any-from_list_any, list_any-append}
use Rattle.std.proofs.lemmas.List.Kept.{AllPairs-from_increasing}
use Rattle.std.proofs.lemmas.List.Sorted.{searched}
use Rattle.cdc_version.specs.Versions.{is_in, next_current}
use Rattle.cdc_version.specs.VersionsLaws.{is_in_list, same_from_test}

false_from : (b : Bool) → (b ≡ true → ⊥) → b ≡ false
false_from true not_true = absurd (not_true refl)
false_from false not_true = refl

-- where a list that contains an object has it
place_of : (object : ℕ) (xs : List ℕ) → is_in object xs ≡ true → (k : ℕ) × (k < length xs) × (get_or xs k 0 ≡ object)
place_of object xs test =
    let any = Any-from_list_any (λ x. x == object) xs test in
    (any.0, any.2, get_or_default xs any.0 0 any.1 any.2 ∙ any.3 ∙ same_from_test any.1 object any.4)

increases : (written : List ℕ) (i j : ℕ) → IsStrictlyIncreasing written → i < j → j < length written → get_or written i 0 < get_or written j 0
increases written i j order before below = AllPairs-from_increasing written order i j 0 before below

rises : (written : List ℕ) → IsStrictlyIncreasing written → (i j : ℕ) → i ≤ j → j < length written → get_or written i 0 ≤ get_or written j 0
rises written order i j le below = elim (cases_lt i j) [
  | inl before ↦ omega (arith, increases written i j order before below)
  | inr after ↦
      let same : i ≡ j = omega (arith, le, after) in
      subst (λ k. get_or written k 0 ≤ get_or written j 0) (sym same) (omega arith)
]

-- a binary search tells whether the object is there
pub found : (written : List ℕ) (object : ℕ) (r : Result ℕ ℕ) → IsStrictlyIncreasing written → IsBinarySearchResult (λ y. nat_cmp y object) written r → is_ok r ≡ is_in object written
found written object (Ok i) order position =
    let at = searched written object (Ok i) position (rises written order) in
    sym (is_in_list object written (i, at.0, get_or_default written i object 0 at.0 ∙ at.1))
found written object (Err i) order position =
    let at = searched written object (Err i) position (rises written order) in
    sym (false_from (is_in object written) (λ test.
    let place = place_of object written test in
    elim (cases_lt place.0 i) [
      | inl before ↦ omega (arith, place.2, at.1 place.0 before)
      | inr after ↦ omega (arith, place.2, at.2 place.0 after place.1)
    ]))

-- an object of an ascending list is not among those before it
fresh : (written : List ℕ) (i : ℕ) → IsStrictlyIncreasing written → i < length written → is_in (get_or written i 0) (take i written) ≡ false
fresh written i order below = false_from (is_in (get_or written i 0) (take i written)) (λ test.
    let place = place_of (get_or written i 0) (take i written) test in
    let before : place.0 < i = omega (arith, place.1, length-take {A = ℕ}) in
    omega (arith, get_or-take i written place.0 0 before, place.2, increases written place.0 i order before below))

or_true : (b : Bool) → (b || true) ≡ true
or_true true = refl
or_true false = refl

or_false : (b : Bool) → (b || false) ≡ b
or_false true = refl
or_false false = refl

last_test : (o object : ℕ) (b : Bool) (xs : List ℕ) → (object == o) ≡ b → is_in o (xs ++ object ∷ []) ≡ (is_in o xs || b)
last_test o object b xs is = list_any-append (λ x. x == o) xs (object ∷ []) ∙ ap (λ c. is_in o xs || c) (or_false (object == o) ∙ is)

-- the current versions, where those of the first i objects are new, and then of the next one too
pub one_more : (last : ℕ) (before now written : List ℕ) (i value : ℕ) → IsStrictlyIncreasing written → i < length written → get_or written i 0 < length now
    → value ≡ next_current last (get_or now (get_or written i 0) 0) true
    → ((o : ℕ) → get_or now o 0 ≡ next_current last (get_or before o 0) (is_in o (take i written)))
    → (o : ℕ) → get_or (set now (get_or written i 0) value) o 0 ≡ next_current last (get_or before o 0) (is_in o (take (i + 1) written))
one_more last before now written i value order below within is each o =
    let object = get_or written i 0 in
    let more : is_in o (take (i + 1) written) ≡ is_in o (take i written ++ object ∷ []) = ap (is_in o) (take_more written i 0 below) in
    elim (cases_eq o object) [
      | inl same ↦
          let old : get_or now object 0 ≡ get_or before object 0 = each object ∙ ap (next_current last (get_or before object 0)) (fresh written i order below) in
          let test : (object == o) ≡ true = grind (arith, nat_tests) in
          let here : is_in o (take (i + 1) written) ≡ true = more ∙ last_test o object true (take i written) test ∙ or_true (is_in o (take i written)) in
          ap (λ n. get_or (set now object value) n 0) same
          ∙ get_or-set_same now object value 0 within
          ∙ is
          ∙ ap (λ n. next_current last n true) (old ∙ ap (λ n. get_or before n 0) (sym same))
          ∙ sym (ap (next_current last (get_or before o 0)) here)
      | inr other ↦
          let test : (object == o) ≡ false = grind (arith, nat_tests) in
          let same : is_in o (take (i + 1) written) ≡ is_in o (take i written) = more ∙ last_test o object false (take i written) test ∙ or_false (is_in o (take i written)) in
          get_or-set_other now object o value 0 other ∙ each o ∙ sym (ap (next_current last (get_or before o 0)) same)
    ]
