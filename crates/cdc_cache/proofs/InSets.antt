-- The lines of one set, after each kind of call on a cache.
use Rattle.std.proofs.Common.{◌≡◌, ℕ, ◌%◌, List, [], ◌∷◌, ◌++◌, drop, map, refl, sym, ◌∙◌, ap, arith, inl, inr, true, false}
use Rattle.std.specs.Prelude.{Some, ◌==◌}
use Rattle.std.proofs.lemmas.Bool.{cases_eq}
use Rattle.std.proofs.lemmas.Bool.Decides.{nat_tests}
use Rattle.cdc_cache.specs.declared.line.Line.{Line}
use Rattle.cdc_cache.specs.Lines.{look_up, replaced, removed, in_set, without_first}
use Rattle.cdc_cache.specs.Finds.{if_yes, if_no}

module _ {W : Type 0} (sets : ℕ) where
  pub in_set-yes : (s : ℕ) (l : Line W) (ls : List (Line W)) → l.number % sets ≡ s → in_set sets s (l ∷ ls) ≡ l ∷ in_set sets s ls
  in_set-yes s l ls is = let test : (l.number % sets == s) ≡ true = grind (arith, nat_tests) in rw test refl

  pub in_set-no : (s : ℕ) (l : Line W) (ls : List (Line W)) → (l.number % sets ≡ s → ⊥) → in_set sets s (l ∷ ls) ≡ in_set sets s ls
  in_set-no s l ls apart = let test : (l.number % sets == s) ≡ false = grind (arith, nat_tests) in rw test refl

  -- a line is found among the lines of its set
  pub look_up-in_set : (n s : ℕ) (ls : List (Line W)) → n % sets ≡ s → look_up n (in_set sets s ls) ≡ look_up n ls
  look_up-in_set n s [] is = refl
  look_up-in_set n s (l ∷ ls) is = elim (cases_eq l.number n) [
    | inl here ↦
        ap (look_up n) (in_set-yes s l ls (ap (λ m. m % sets) here ∙ is))
        ∙ if_yes l.number n (Some l) (look_up n (in_set sets s ls)) here
        ∙ sym (if_yes l.number n (Some l) (look_up n ls) here)
    | inr apart ↦ elim (cases_eq (l.number % sets) s) [
      | inl same ↦
          ap (look_up n) (in_set-yes s l ls same)
          ∙ if_no l.number n (Some l) (look_up n (in_set sets s ls)) apart
          ∙ look_up-in_set n s ls is
          ∙ sym (if_no l.number n (Some l) (look_up n ls) apart)
      | inr other ↦
          ap (look_up n) (in_set-no s l ls other)
          ∙ look_up-in_set n s ls is
          ∙ sym (if_no l.number n (Some l) (look_up n ls) apart)
    ]
  ]

  -- ---- a line replaced by one with its number

  pub replaced-own : (n s : ℕ) (line : Line W) (ls : List (Line W)) → line.number ≡ n → n % sets ≡ s → in_set sets s (replaced n line ls) ≡ replaced n line (in_set sets s ls)
  replaced-own n s line [] same is = refl
  replaced-own n s line (l ∷ ls) same is = elim (cases_eq l.number n) [
    | inl here ↦
        ap (in_set sets s) (if_yes l.number n (line ∷ ls) (l ∷ replaced n line ls) here)
        ∙ in_set-yes s line ls (ap (λ m. m % sets) same ∙ is)
        ∙ sym (if_yes l.number n (line ∷ in_set sets s ls) (l ∷ replaced n line (in_set sets s ls)) here)
        ∙ ap (replaced n line) (sym (in_set-yes s l ls (ap (λ m. m % sets) here ∙ is)))
    | inr apart ↦ ap (in_set sets s) (if_no l.number n (line ∷ ls) (l ∷ replaced n line ls) apart) ∙ elim (cases_eq (l.number % sets) s) [
      | inl mine ↦
          in_set-yes s l (replaced n line ls) mine
          ∙ ap (λ rest. l ∷ rest) (replaced-own n s line ls same is)
          ∙ sym (if_no l.number n (line ∷ in_set sets s ls) (l ∷ replaced n line (in_set sets s ls)) apart)
          ∙ ap (replaced n line) (sym (in_set-yes s l ls mine))
      | inr other ↦ in_set-no s l (replaced n line ls) other ∙ replaced-own n s line ls same is ∙ ap (replaced n line) (sym (in_set-no s l ls other))
    ]
  ]

  pub replaced-other : (n s : ℕ) (line : Line W) (ls : List (Line W)) → line.number ≡ n → (n % sets ≡ s → ⊥) → in_set sets s (replaced n line ls) ≡ in_set sets s ls
  replaced-other n s line [] same is = refl
  replaced-other n s line (l ∷ ls) same is = elim (cases_eq l.number n) [
    | inl here ↦
        ap (in_set sets s) (if_yes l.number n (line ∷ ls) (l ∷ replaced n line ls) here)
        ∙ in_set-no s line ls (λ mine. is (ap (λ m. m % sets) (sym same) ∙ mine))
        ∙ sym (in_set-no s l ls (λ mine. is (ap (λ m. m % sets) (sym here) ∙ mine)))
    | inr apart ↦ ap (in_set sets s) (if_no l.number n (line ∷ ls) (l ∷ replaced n line ls) apart) ∙ elim (cases_eq (l.number % sets) s) [
      | inl mine ↦ in_set-yes s l (replaced n line ls) mine ∙ ap (λ rest. l ∷ rest) (replaced-other n s line ls same is) ∙ sym (in_set-yes s l ls mine)
      | inr other ↦ in_set-no s l (replaced n line ls) other ∙ replaced-other n s line ls same is ∙ sym (in_set-no s l ls other)
    ]
  ]

  -- ---- a line removed

  pub removed-own : (n s : ℕ) (ls : List (Line W)) → n % sets ≡ s → in_set sets s (removed n ls) ≡ removed n (in_set sets s ls)
  removed-own n s [] is = refl
  removed-own n s (l ∷ ls) is = elim (cases_eq l.number n) [
    | inl here ↦
        ap (in_set sets s) (if_yes l.number n ls (l ∷ removed n ls) here)
        ∙ sym (if_yes l.number n (in_set sets s ls) (l ∷ removed n (in_set sets s ls)) here)
        ∙ ap (removed n) (sym (in_set-yes s l ls (ap (λ m. m % sets) here ∙ is)))
    | inr apart ↦ ap (in_set sets s) (if_no l.number n ls (l ∷ removed n ls) apart) ∙ elim (cases_eq (l.number % sets) s) [
      | inl mine ↦
          in_set-yes s l (removed n ls) mine
          ∙ ap (λ rest. l ∷ rest) (removed-own n s ls is)
          ∙ sym (if_no l.number n (in_set sets s ls) (l ∷ removed n (in_set sets s ls)) apart)
          ∙ ap (removed n) (sym (in_set-yes s l ls mine))
      | inr other ↦ in_set-no s l (removed n ls) other ∙ removed-own n s ls is ∙ ap (removed n) (sym (in_set-no s l ls other))
    ]
  ]

  pub removed-other : (n s : ℕ) (ls : List (Line W)) → (n % sets ≡ s → ⊥) → in_set sets s (removed n ls) ≡ in_set sets s ls
  removed-other n s [] is = refl
  removed-other n s (l ∷ ls) is = elim (cases_eq l.number n) [
    | inl here ↦
        ap (in_set sets s) (if_yes l.number n ls (l ∷ removed n ls) here)
        ∙ sym (in_set-no s l ls (λ mine. is (ap (λ m. m % sets) (sym here) ∙ mine)))
    | inr apart ↦ ap (in_set sets s) (if_no l.number n ls (l ∷ removed n ls) apart) ∙ elim (cases_eq (l.number % sets) s) [
      | inl mine ↦ in_set-yes s l (removed n ls) mine ∙ ap (λ rest. l ∷ rest) (removed-other n s ls is) ∙ sym (in_set-yes s l ls mine)
      | inr other ↦ in_set-no s l (removed n ls) other ∙ removed-other n s ls is ∙ sym (in_set-no s l ls other)
    ]
  ]

  -- ---- the first line of a set dropped

  pub without_first-own : (s : ℕ) (ls : List (Line W)) → in_set sets s (without_first sets s ls) ≡ drop 1 (in_set sets s ls)
  without_first-own s [] = refl
  without_first-own s (l ∷ ls) = elim (cases_eq (l.number % sets) s) [
    | inl mine ↦
        ap (in_set sets s) (if_yes (l.number % sets) s ls (l ∷ without_first sets s ls) mine)
        ∙ ap (drop 1) (sym (in_set-yes s l ls mine))
    | inr other ↦
        ap (in_set sets s) (if_no (l.number % sets) s ls (l ∷ without_first sets s ls) other)
        ∙ in_set-no s l (without_first sets s ls) other
        ∙ without_first-own s ls
        ∙ ap (drop 1) (sym (in_set-no s l ls other))
  ]

  pub without_first-other : (s t : ℕ) (ls : List (Line W)) → (t ≡ s → ⊥) → in_set sets s (without_first sets t ls) ≡ in_set sets s ls
  without_first-other s t [] apart = refl
  without_first-other s t (l ∷ ls) apart = elim (cases_eq (l.number % sets) t) [
    | inl theirs ↦
        ap (in_set sets s) (if_yes (l.number % sets) t ls (l ∷ without_first sets t ls) theirs)
        ∙ sym (in_set-no s l ls (λ mine. apart (sym theirs ∙ mine)))
    | inr other ↦ ap (in_set sets s) (if_no (l.number % sets) t ls (l ∷ without_first sets t ls) other) ∙ elim (cases_eq (l.number % sets) s) [
      | inl mine ↦ in_set-yes s l (without_first sets t ls) mine ∙ ap (λ rest. l ∷ rest) (without_first-other s t ls apart) ∙ sym (in_set-yes s l ls mine)
      | inr neither ↦ in_set-no s l (without_first sets t ls) neither ∙ without_first-other s t ls apart ∙ sym (in_set-no s l ls neither)
    ]
  ]

  -- ---- a line at the end, and each line changed

  pub push-own : (s : ℕ) (ls : List (Line W)) (line : Line W) → line.number % sets ≡ s → in_set sets s (ls ++ line ∷ []) ≡ in_set sets s ls ++ line ∷ []
  push-own s [] line is = in_set-yes s line [] is
  push-own s (l ∷ ls) line is = elim (cases_eq (l.number % sets) s) [
    | inl mine ↦ in_set-yes s l (ls ++ line ∷ []) mine ∙ ap (λ rest. l ∷ rest) (push-own s ls line is) ∙ ap (λ front. front ++ line ∷ []) (sym (in_set-yes s l ls mine))
    | inr other ↦ in_set-no s l (ls ++ line ∷ []) other ∙ push-own s ls line is ∙ ap (λ front. front ++ line ∷ []) (sym (in_set-no s l ls other))
  ]

  pub push-other : (s : ℕ) (ls : List (Line W)) (line : Line W) → (line.number % sets ≡ s → ⊥) → in_set sets s (ls ++ line ∷ []) ≡ in_set sets s ls
  push-other s [] line is = in_set-no s line [] is
  push-other s (l ∷ ls) line is = elim (cases_eq (l.number % sets) s) [
    | inl mine ↦ in_set-yes s l (ls ++ line ∷ []) mine ∙ ap (λ rest. l ∷ rest) (push-other s ls line is) ∙ sym (in_set-yes s l ls mine)
    | inr other ↦ in_set-no s l (ls ++ line ∷ []) other ∙ push-other s ls line is ∙ sym (in_set-no s l ls other)
  ]

  pub map-in_set : (s : ℕ) (f : Line W → Line W) (ls : List (Line W)) → ((l : Line W) → (f l).number ≡ l.number) → in_set sets s (map f ls) ≡ map f (in_set sets s ls)
  map-in_set s f [] same = refl
  map-in_set s f (l ∷ ls) same = elim (cases_eq (l.number % sets) s) [
    | inl mine ↦ in_set-yes s (f l) (map f ls) (ap (λ m. m % sets) (same l) ∙ mine) ∙ ap (λ rest. f l ∷ rest) (map-in_set s f ls same) ∙ ap (map f) (sym (in_set-yes s l ls mine))
    | inr other ↦ in_set-no s (f l) (map f ls) (λ mine. other (ap (λ m. m % sets) (sym (same l)) ∙ mine)) ∙ map-in_set s f ls same ∙ ap (map f) (sym (in_set-no s l ls other))
  ]
