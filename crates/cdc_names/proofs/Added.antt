-- A list to which parts are added in steps.
use Rattle.std.proofs.Common.{◌≡◌, ℕ, suc, ◌+◌, ◌<◌, List, ◌∷◌, ◌++◌, Result, Ok, Err, append_assoc, ap, sym, ◌∙◌, get_or, length, drop, arith}
use Rattle.std.specs.Prelude.{OnOk}
use Rattle.std.proofs.Math.Seq.{drop-cons}

-- parts that are added in two steps
pub added_twice : {A E : Type 0} (r : Result (Unit {0}) E) (old middle new first second both : List A)
    → middle ≡ old ++ first → OnOk r (new ≡ middle ++ second) → both ≡ first ++ second → OnOk r (new ≡ old ++ both)
added_twice (Ok x) old middle new first second both h k e = k ∙ ap (λ l. l ++ second) h ∙ append_assoc old first second ∙ sym (ap (λ l. old ++ l) e)
added_twice (Err x) old middle new first second both h k e = tt

-- the state of a loop that adds a part for each item, one item further on
pub added_step : {A B : Type 0} (part : A → List B) (parts : List A → List B) → ((x : A) (xs : List A) → parts (x ∷ xs) ≡ part x ++ parts xs)
    → (xs : List A) (i : ℕ) (x : A) (old new r : List B)
    → new ≡ old ++ part x → x ≡ get_or xs i x → i < length xs → old ++ parts (drop i xs) ≡ r → new ++ parts (drop (i + 1) xs) ≡ r
added_step part parts opens xs i x old new r n is lt inv =
    let one : suc i ≡ i + 1 = omega arith in
    let tail : drop i xs ≡ x ∷ drop (i + 1) xs =
    drop-cons xs i x lt ∙ ap (λ k. get_or xs i x ∷ drop k xs) one ∙ ap (λ y. y ∷ drop (i + 1) xs) (sym is) in
    ap (λ l. l ++ parts (drop (i + 1) xs)) n
    ∙ append_assoc old (part x) (parts (drop (i + 1) xs))
    ∙ ap (λ l. old ++ l) (sym (opens x (drop (i + 1) xs)) ∙ sym (ap parts tail))
    ∙ inv
