-- What is found in a list of lines after a change.
use Rattle.std.proofs.Common.{◌≡◌, ◌≢◌, ◌⊎◌, ℕ, ◌%◌, List, [], ◌∷◌, ◌++◌, sym, ◌∙◌, ap, inl, inr, ⊎_elim}
use Rattle.std.specs.Prelude.{Some, None, true, is_some}
use Rattle.std.proofs.lemmas.Bool.{cases_eq}
use Rattle.cdc_cache.specs.declared.line.Line.{Line}
use Rattle.cdc_cache.specs.Finds.{if_yes, if_no}
use Rattle.cdc_cache.specs.Lines.{look_up, replaced, removed, without_first, AreDistinct}

module _ {W : Type 0} where
  -- a line that is found stood in the list, or is the one that was put in
  pub find_replaced : (n : ℕ) (line : Line W) (ls : List (Line W)) (m : ℕ) (l : Line W) → line.number ≡ n → is_some (look_up n ls) ≡ true → look_up m (replaced n line ls) ≡ Some l → ((m ≡ n) × (l ≡ line)) ⊎ ((m ≢ n) × (look_up m ls ≡ Some l))
  find_replaced n line [] m l is some found = absurd (cc some)
  find_replaced n line (k ∷ ls) m l is some found = elim (cases_eq k.number n) [
    | inl here ↦
        let at : look_up m (line ∷ ls) ≡ Some l = ap (look_up m) (sym (if_yes k.number n (line ∷ ls) (k ∷ replaced n line ls) here)) ∙ found in
        elim (cases_eq n m) [
          | inl same ↦ inl (sym same, cc (sym (if_yes line.number m (Some line) (look_up m ls) (is ∙ same)) ∙ at))
          | inr other ↦ inr (λ e. other (sym e), if_no k.number m (Some k) (look_up m ls) (λ e. other (sym here ∙ e)) ∙ sym (if_no line.number m (Some line) (look_up m ls) (λ e. other (sym is ∙ e))) ∙ at)
        ]
    | inr apart ↦
        let at : look_up m (k ∷ replaced n line ls) ≡ Some l = ap (look_up m) (sym (if_no k.number n (line ∷ ls) (k ∷ replaced n line ls) apart)) ∙ found in
        let rest_some : is_some (look_up n ls) ≡ true = ap is_some (sym (if_no k.number n (Some k) (look_up n ls) apart)) ∙ some in
        elim (cases_eq k.number m) [
          | inl first ↦ inr (λ e. apart (first ∙ e), if_yes k.number m (Some k) (look_up m ls) first ∙ sym (if_yes k.number m (Some k) (look_up m (replaced n line ls)) first) ∙ at)
          | inr later ↦ ⊎_elim (λ new. inl new) (λ old. inr (old.0, if_no k.number m (Some k) (look_up m ls) later ∙ old.1))
              (find_replaced n line ls m l is rest_some (sym (if_no k.number m (Some k) (look_up m (replaced n line ls)) later) ∙ at))
        ]
  ]

  -- behind a line of one number there is no other, so what is found behind it is found
  behind : (k : Line W) (ls : List (Line W)) (m : ℕ) (l : Line W) → look_up k.number ls ≡ None → look_up m ls ≡ Some l → look_up m (k ∷ ls) ≡ Some l
  behind k ls m l none found = if_no k.number m (Some k) (look_up m ls) (λ same. cc (none, found, same)) ∙ found

  pub find_without : (sets set : ℕ) (ls : List (Line W)) (m : ℕ) (l : Line W) → AreDistinct ls → look_up m (without_first sets set ls) ≡ Some l → look_up m ls ≡ Some l
  find_without sets set [] m l distinct found = found
  find_without sets set (k ∷ ls) m l distinct found = elim (cases_eq (k.number % sets) set) [
    | inl here ↦ behind k ls m l distinct.0 (ap (look_up m) (sym (if_yes (k.number % sets) set ls (k ∷ without_first sets set ls) here)) ∙ found)
    | inr apart ↦
        let at : look_up m (k ∷ without_first sets set ls) ≡ Some l = ap (look_up m) (sym (if_no (k.number % sets) set ls (k ∷ without_first sets set ls) apart)) ∙ found in
        elim (cases_eq k.number m) [
          | inl first ↦ if_yes k.number m (Some k) (look_up m ls) first ∙ sym (if_yes k.number m (Some k) (look_up m (without_first sets set ls)) first) ∙ at
          | inr later ↦ if_no k.number m (Some k) (look_up m ls) later ∙ find_without sets set ls m l distinct.1 (sym (if_no k.number m (Some k) (look_up m (without_first sets set ls)) later) ∙ at)
        ]
  ]

  pub find_removed : (n : ℕ) (ls : List (Line W)) (m : ℕ) (l : Line W) → AreDistinct ls → look_up m (removed n ls) ≡ Some l → look_up m ls ≡ Some l
  find_removed n [] m l distinct found = found
  find_removed n (k ∷ ls) m l distinct found = elim (cases_eq k.number n) [
    | inl here ↦ behind k ls m l distinct.0 (ap (look_up m) (sym (if_yes k.number n ls (k ∷ removed n ls) here)) ∙ found)
    | inr apart ↦
        let at : look_up m (k ∷ removed n ls) ≡ Some l = ap (look_up m) (sym (if_no k.number n ls (k ∷ removed n ls) apart)) ∙ found in
        elim (cases_eq k.number m) [
          | inl first ↦ if_yes k.number m (Some k) (look_up m ls) first ∙ sym (if_yes k.number m (Some k) (look_up m (removed n ls)) first) ∙ at
          | inr later ↦ if_no k.number m (Some k) (look_up m ls) later ∙ find_removed n ls m l distinct.1 (sym (if_no k.number m (Some k) (look_up m (removed n ls)) later) ∙ at)
        ]
  ]

  pub find_push : (line : Line W) (ls : List (Line W)) (m : ℕ) (l : Line W) → look_up line.number ls ≡ None → look_up m (ls ++ line ∷ []) ≡ Some l → ((m ≡ line.number) × (l ≡ line)) ⊎ ((m ≢ line.number) × (look_up m ls ≡ Some l))
  find_push line [] m l none found = elim (cases_eq line.number m) [
    | inl same ↦ inl (sym same, cc (sym (if_yes line.number m (Some line) None same) ∙ found))
    | inr other ↦ absurd (cc (sym (if_no line.number m (Some line) None other) ∙ found))
  ]
  find_push line (k ∷ ls) m l none found = elim (cases_eq k.number line.number) [
    | inl same ↦ absurd (cc (sym (if_yes k.number line.number (Some k) (look_up line.number ls) same) ∙ none))
    | inr apart ↦
        let rest_none : look_up line.number ls ≡ None = sym (if_no k.number line.number (Some k) (look_up line.number ls) apart) ∙ none in
        elim (cases_eq k.number m) [
          | inl first ↦ inr (λ e. apart (first ∙ e), if_yes k.number m (Some k) (look_up m ls) first ∙ sym (if_yes k.number m (Some k) (look_up m (ls ++ line ∷ [])) first) ∙ found)
          | inr later ↦ ⊎_elim (λ new. inl new) (λ old. inr (old.0, if_no k.number m (Some k) (look_up m ls) later ∙ old.1))
              (find_push line ls m l rest_none (sym (if_no k.number m (Some k) (look_up m (ls ++ line ∷ [])) later) ∙ found))
        ]
  ]

  pub number_of : (n : ℕ) (ls : List (Line W)) (l : Line W) → look_up n ls ≡ Some l → l.number ≡ n
  number_of n [] l at = absurd (cc at)
  number_of n (k ∷ ls) l at = elim (cases_eq k.number n) [
    | inl here ↦ let is : k ≡ l = cc (sym (if_yes k.number n (Some k) (look_up n ls) here) ∙ at) in ap (λ (r : Line W). r.number) (sym is) ∙ here
    | inr apart ↦ number_of n ls l (sym (if_no k.number n (Some k) (look_up n ls) apart) ∙ at)
  ]
