-- The first word of a line.
use Rattle.std.proofs.Common.{◌≡◌, ℕ, suc, ◌+◌, ◌<◌, ◌≤◌, Bool, true, false, not, List, [], ◌∷◌, length, take, drop, get_or, length-take-le, nat_lt, Some, None, position, refl, sym, ◌∙◌, ap, ⊎_elim, arith}
use Rattle.std.specs.Prelude.{filter}
use Rattle.std.specs.List.{slice_split, position_or_len}
use Rattle.std.proofs.lemmas.Bool.{cases_Bool}
use Rattle.std.proofs.lemmas.List.Elements.{All-from_get_or}
use Rattle.std.proofs.lemmas.List.Splits.{slice_split_first, slice_split_none}
use Rattle.std.proofs.lemmas.List.Sums.{fails_before_first, passes_at_first}
use Rattle.std.proofs.lemmas.Grind.{common_steps}
use borrow.Author.Tests.{ltb-true, ltb-false}
use Rattle.cdc_sched.specs.Lines.{is_blank, has_byte, words}

abbrev pub no_blank : ℕ → Bool
no_blank b = not (is_blank b)

-- blanks at the front are no part of a word
after_blanks : (line : List ℕ) → words (drop (position_or_len no_blank line) line) ≡ words line
after_blanks [] = refl
after_blanks (b ∷ line) = ⊎_elim
    (λ (on : is_blank b ≡ true).
    let n = position_or_len no_blank line in
    let step : 1 + n ≡ suc n = omega arith in
    rw on (ap (λ k. words (drop k (b ∷ line))) step ∙ after_blanks line))
    (λ (off : is_blank b ≡ false).
    let none : position_or_len no_blank (b ∷ line) ≡ 0 = rw off refl in
    ap (λ k. words (drop k (b ∷ line))) none)
    (cases_Bool (is_blank b))

-- where the first word begins
pub word_from : (line : List ℕ) (start : ℕ) → Some start ≡ position no_blank line → (words line ≡ words (drop start line)) × (start < length line) × (is_blank (get_or line start 0) ≡ false)
word_from line start e = ⊎_elim
    (λ (on : nat_lt (position_or_len no_blank line) (length line) ≡ true).
    let is : start ≡ position_or_len no_blank line = (let same : Some start ≡ Some (position_or_len no_blank line) = rw on at e in cc) in
    let first : no_blank (get_or line (position_or_len no_blank line) 0) ≡ true = passes_at_first no_blank line 0 (ltb-true _ _ on) in
    rw is (sym (after_blanks line), ltb-true _ _ on, not_true (is_blank (get_or line (position_or_len no_blank line) 0)) first))
    (λ (off : nat_lt (position_or_len no_blank line) (length line) ≡ false). let clash : Some start ≡ None = rw off at e in absurd (cc))
    (cases_Bool (nat_lt (position_or_len no_blank line) (length line)))
  where
    not_true : (b : Bool) → not b ≡ true → b ≡ false
    not_true true e = sym e
    not_true false e = refl

-- only blanks
pub no_word : (line : List ℕ) → None ≡ position no_blank line → words line ≡ []
no_word line e = ⊎_elim
    (λ (on : nat_lt (position_or_len no_blank line) (length line) ≡ true). let clash : None ≡ Some (position_or_len no_blank line) = rw on at e in absurd (cc))
    (λ (off : nat_lt (position_or_len no_blank line) (length line) ≡ false). sym (after_blanks line) ∙ ap words (past line (position_or_len no_blank line) (ltb-false _ _ off)))
    (cases_Bool (nat_lt (position_or_len no_blank line) (length line)))
  where
    past : (line : List ℕ) (n : ℕ) → length line ≤ n → drop n line ≡ []
    past line n le = grind (arith, common_steps)

kept_first : (x : List ℕ) (ys : List (List ℕ)) → 0 < length x → filter has_byte (x ∷ ys) ≡ x ∷ filter has_byte ys
kept_first [] ys some = absurd (omega (arith, some))
kept_first (b ∷ x) ys some = refl

-- the first word, up to a blank
pub word_to : (line : List ℕ) (end : ℕ) → 0 < length line → is_blank (get_or line 0 0) ≡ false → Some end ≡ position is_blank line → words line ≡ take end line ∷ words (drop (end + 1) line)
word_to [] end some begins e = absurd (omega (arith, some))
word_to (b ∷ line) end some begins e =
    let n = position_or_len is_blank (b ∷ line) in
    ⊎_elim
    (λ (on : nat_lt n (length (b ∷ line)) ≡ true).
    let is : end ≡ n = (let same : Some end ≡ Some n = rw on at e in cc) in
    let cut : slice_split is_blank (b ∷ line) ≡ take n (b ∷ line) ∷ slice_split is_blank (drop (n + 1) (b ∷ line)) = slice_split_first is_blank (b ∷ line) 0 (ltb-true _ _ on) in
    let more : n ≡ 1 + position_or_len is_blank line = rw begins refl in
    let size : length (take n (b ∷ line)) ≡ n = length-take-le n (b ∷ line) (omega (arith, ltb-true _ _ on)) in
    rw is (ap (filter has_byte) cut ∙ kept_first (take n (b ∷ line)) (slice_split is_blank (drop (n + 1) (b ∷ line))) (omega (arith, size, more))))
    (λ (off : nat_lt n (length (b ∷ line)) ≡ false). let none : Some end ≡ None = rw off at e in absurd (cc))
    (cases_Bool (nat_lt n (length (b ∷ line))))

-- the first word, up to the end of the line
pub word_last : (line : List ℕ) → 0 < length line → None ≡ position is_blank line → words line ≡ line ∷ []
word_last [] some e = absurd (omega (arith, some))
word_last (b ∷ line) some e =
    let n = position_or_len is_blank (b ∷ line) in
    ⊎_elim
    (λ (on : nat_lt n (length (b ∷ line)) ≡ true). let clash : None ≡ Some n = rw on at e in absurd (cc))
    (λ (off : nat_lt n (length (b ∷ line)) ≡ false).
    let past = ltb-false _ _ off in
    ap (filter has_byte) (slice_split_none is_blank (b ∷ line) (All-from_get_or (λ x. is_blank x ≡ false) (b ∷ line) 0 (λ k below. fails_before_first is_blank (b ∷ line) k 0 (omega (arith, past, below))))))
    (cases_Bool (nat_lt n (length (b ∷ line))))
