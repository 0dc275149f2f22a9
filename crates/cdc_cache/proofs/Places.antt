-- The place of a line in a list of lines.
use Rattle.std.proofs.Common.{◌≡◌, ℕ, zero, suc, ◌+◌, ◌<◌, List, [], ◌∷◌, length, get_or, set, refl, sym, ◌∙◌, ap, subst, arith, inl, inr, Bool, true, false, not, cond, nat_lt}
use Rattle.std.specs.Prelude.{Option, Some, None, is_some, is_none, option_and_then, position, remove, slice_get, ◌==◌, if◌then◌else◌}
use Rattle.std.specs.List.{position_or_len}
use Rattle.std.proofs.lemmas.Bool.{cases_eq, cases_Bool}
use Rattle.std.proofs.lemmas.Bool.Decides.{nat_tests}
use Rattle.std.proofs.lemmas.List.Quantifiers.{position-Some}
use Rattle.cdc_cache.specs.declared.line.Copied.{Copied}
use Rattle.cdc_cache.specs.declared.line.Line.{Line}
use Rattle.cdc_cache.specs.Lines.{look_up, copy_at, replaced, removed, written, with_word}
use Rattle.cdc_cache.specs.Sets.{IsAt, IsPlace}
use Rattle.cdc_cache.specs.Finds.{if_yes, if_no}

no_place : (b : Bool) (i : ℕ) → None ≡ cond b (Some i) None → b ≡ false
no_place false i is = refl
no_place true i is = absurd (cc is)

module _ {W : Type 0} where
  at_first : (n : ℕ) (ls : List (Line W)) (i : ℕ) (d : Line W) → i < length ls → ((get_or ls i d).number == n) ≡ true → ((k : ℕ) → k < i → ((get_or ls k d).number == n) ≡ false) → IsAt n ls i
  at_first n [] i d within here before = absurd (omega (arith, within))
  at_first n (l ∷ ls) zero d within here before = grind (arith, nat_tests)
  at_first n (l ∷ ls) (suc i) d within here before =
      let first : (l.number == n) ≡ false = before 0 (omega arith) in
      (grind (arith, nat_tests), at_first n ls i d (omega (arith, within)) here (λ k lt. before (suc k) (omega (arith, lt))))

  none_first : (n : ℕ) (ls : List (Line W)) → nat_lt (position_or_len (λ l. l.number == n) ls) (length ls) ≡ false → look_up n ls ≡ None
  none_first n [] past = refl
  none_first n (l ∷ ls) past = elim (cases_Bool (l.number == n)) [
    | inl here ↦
        let bad : nat_lt 0 (suc (length ls)) ≡ false = subst (λ b. nat_lt (cond (not b) (1 + position_or_len (λ k. k.number == n) ls) 0) (suc (length ls)) ≡ false) here past in
        absurd (grind (arith, nat_tests))
    | inr apart ↦
        let rest : nat_lt (1 + position_or_len (λ k. k.number == n) ls) (suc (length ls)) ≡ false = subst (λ b. nat_lt (cond (not b) (1 + position_or_len (λ k. k.number == n) ls) 0) (suc (length ls)) ≡ false) apart past in
        ap (λ b. if b then Some l else look_up n ls) apart ∙ none_first n ls (grind (arith, nat_tests))
  ]

  -- what `position` tells is the place
  pub place_is : (n : ℕ) (ls : List (Line W)) (found : Option ℕ) → found ≡ position (λ l. l.number == n) ls → IsPlace n ls found
  place_is n ls None is = none_first n ls (no_place (nat_lt (position_or_len (λ l. l.number == n) ls) (length ls)) (position_or_len (λ l. l.number == n) ls) is)
  place_is n [] (Some i) is = absurd (cc is)
  place_is n (l ∷ ls) (Some i) is =
      let facts = position-Some (λ k. k.number == n) (l ∷ ls) i l (sym is) in
      at_first n (l ∷ ls) i l facts.0 facts.1 facts.2

  pub place_at : (n : ℕ) (ls : List (Line W)) (found : Option ℕ) (i : ℕ) → found ≡ position (λ l. l.number == n) ls → found ≡ Some i → IsAt n ls i
  place_at n ls found i is some = subst (IsPlace n ls) some (place_is n ls found is)

  pub place_none : (n : ℕ) (ls : List (Line W)) (found : Option ℕ) → found ≡ position (λ l. l.number == n) ls → found ≡ None → look_up n ls ≡ None
  place_none n ls found is none = subst (IsPlace n ls) none (place_is n ls found is)

  pub place_within : (n : ℕ) (ls : List (Line W)) (i : ℕ) → IsAt n ls i → i < length ls
  place_within n [] i at = absurd at
  place_within n (l ∷ ls) zero at = omega arith
  place_within n (l ∷ ls) (suc i) at = omega (arith, place_within n ls i at.1)

  pub look_up_at : (n : ℕ) (ls : List (Line W)) (i : ℕ) → IsAt n ls i → look_up n ls ≡ slice_get ls i
  look_up_at n [] i at = absurd at
  look_up_at n (l ∷ ls) zero at = if_yes l.number n (Some l) (look_up n ls) at
  look_up_at n (l ∷ ls) (suc i) at = if_no l.number n (Some l) (look_up n ls) at.0 ∙ look_up_at n ls i at.1

  pub found_at : (n : ℕ) (ls : List (Line W)) (i : ℕ) → IsAt n ls i → is_some (look_up n ls) ≡ true
  found_at n [] i at = absurd at
  found_at n (l ∷ ls) zero at = ap is_some (if_yes l.number n (Some l) (look_up n ls) at)
  found_at n (l ∷ ls) (suc i) at = ap is_some (if_no l.number n (Some l) (look_up n ls) at.0) ∙ found_at n ls i at.1

  pub number_at : (n : ℕ) (ls : List (Line W)) (i : ℕ) (l : Line W) → IsAt n ls i → slice_get ls i ≡ Some l → l.number ≡ n
  number_at n [] i l at got = absurd at
  number_at n (k ∷ ls) zero l at got = let same : k ≡ l = cc got in ap (λ (r : Line W). r.number) (sym same) ∙ at
  number_at n (k ∷ ls) (suc i) l at got = number_at n ls i l at.1 got

  pub replaced_at : (n : ℕ) (line : Line W) (ls : List (Line W)) (i : ℕ) → IsAt n ls i → replaced n line ls ≡ set ls i line
  replaced_at n line [] i at = absurd at
  replaced_at n line (l ∷ ls) zero at = if_yes l.number n (line ∷ ls) (l ∷ replaced n line ls) at
  replaced_at n line (l ∷ ls) (suc i) at = if_no l.number n (line ∷ ls) (l ∷ replaced n line ls) at.0 ∙ ap (λ rest. l ∷ rest) (replaced_at n line ls i at.1)

  pub removed_at : (n : ℕ) (ls : List (Line W)) (i : ℕ) → IsAt n ls i → removed n ls ≡ remove ls i
  removed_at n [] i at = absurd at
  removed_at n (l ∷ ls) zero at = if_yes l.number n ls (l ∷ removed n ls) at
  removed_at n (l ∷ ls) (suc i) at = if_no l.number n ls (l ∷ removed n ls) at.0 ∙ ap (λ rest. l ∷ rest) (removed_at n ls i at.1)

  pub removed_none : (n : ℕ) (ls : List (Line W)) → look_up n ls ≡ None → removed n ls ≡ ls
  removed_none n [] none = refl
  removed_none n (l ∷ ls) none = elim (cases_eq l.number n) [
    | inl here ↦ absurd (cc (sym (if_yes l.number n (Some l) (look_up n ls) here) ∙ none))
    | inr apart ↦ if_no l.number n ls (l ∷ removed n ls) apart ∙ ap (λ rest. l ∷ rest) (removed_none n ls (sym (if_no l.number n (Some l) (look_up n ls) apart) ∙ none))
  ]

  pub written_at : (n j : ℕ) (copied : Copied W) (ls : List (Line W)) (i : ℕ) (l : Line W) → IsAt n ls i → slice_get ls i ≡ Some l → written n j copied ls ≡ set ls i (with_word j copied l)
  written_at n j copied ls i l at got =
      let there : look_up n ls ≡ Some l = look_up_at n ls i at ∙ got in
      let is : written n j copied ls ≡ replaced n (with_word j copied l) ls = rw there refl in
      is ∙ replaced_at n (with_word j copied l) ls i at

  pub written_none : (n j : ℕ) (copied : Copied W) (ls : List (Line W)) → look_up n ls ≡ None → written n j copied ls ≡ ls
  written_none n j copied ls none = rw none refl

  -- what is read from the place that was found
  pub copy_found : (n j : ℕ) (ls : List (Line W)) (found : Option ℕ) → IsPlace n ls found → option_and_then (λ i. copy_at j (slice_get ls i)) found ≡ copy_at j (look_up n ls)
  copy_found n j ls None none = ap (copy_at j) (sym none)
  copy_found n j ls (Some i) at = ap (copy_at j) (sym (look_up_at n ls i at))

  pub none_found : (n : ℕ) (ls : List (Line W)) (found : Option ℕ) → IsPlace n ls found → is_none found ≡ is_none (look_up n ls)
  none_found n ls None none = ap is_none (sym none)
  none_found n ls (Some i) at = sym (some_is (look_up n ls) (found_at n ls i at))
    where
      some_is : (o : Option (Line W)) → is_some o ≡ true → is_none o ≡ false
      some_is None is = absurd (cc is)
      some_is (Some l) is = refl
