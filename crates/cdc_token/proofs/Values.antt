-- The values of pieces.
use Rattle.std.proofs.Common.{◌≡◌, ℕ, suc, ◌+◌, ◌-◌, ◌*◌, ◌^◌, ◌≤◌, ◌<◌, Bool, true, false, not, eqb, ltb, List, [], ◌∷◌, ◌++◌, length, get_or, take, drop, length-append, Some, None, Result, Ok, Err, IfOk, sym, refl, ap, ◌∙◌, inl, inr, ⊎_elim, arith}
use Rattle.std.proofs.lemmas.Grind.{common_steps}
use Rattle.std.proofs.lemmas.Bool.{eqb-true, not-true, not-false, false≢true, cases_order, ltb-false}
use Rattle.std.proofs.lemmas.List.Quantifiers.{position-Some}
use Rattle.std.proofs.lemmas.List.Sums.{fails_before_first}
use Rattle.std.proofs.Math.Seq.{drop-cons, take-append_seam}
use Rattle.std.specs.List.{AllByRecursion, position, position_or_len}
use Rattle.std.specs.Char.{is_ascii_digit, digit_value}
use Rattle.std.specs.Str.Parse.{digits_value, digits_value_after}
use Rattle.cdc_token.specs.declared.piece.Kind.{Kind}
use Rattle.cdc_token.specs.declared.piece.Kind.TheVariants as kind
use Rattle.cdc_token.specs.declared.fault.Fault.TheVariants.{BadByte, NumberWide}
use Rattle.cdc_token.specs.declared.token.Symbol as symbols
use Rattle.cdc_token.specs.declared.token.Token.TheVariants as token
use Rattle.cdc_token.specs.declared.meaning.Meaning.TheVariants.{Token}
use Rattle.cdc_token.specs.Bytes.{is_shown}
use Rattle.cdc_token.specs.Symbols.{spellings, symbol}
use Rattle.cdc_token.specs.Pieces.{doubled, Is}
use Rattle.cdc_token.specs.Tokens.{content, undoubled, meaning, symbol_meaning}
use Rattle.cdc_token.specs.Values.{number_after, halved, FirstWrong, NothingWrong}
use Rattle.cdc_token.specs.Cutting.{first_fit}
use Rattle.cdc_token.proofs.Spellings.{by_test, symbol_whole, symbol_found}

-- ---- numbers

number_grows : (n : ℕ) (z : List ℕ) → n ≤ number_after n z
number_grows n [] = omega arith
number_grows n (b ∷ z) = let rec = number_grows (n * 10 + (b - 48)) z in omega (arith, rec)

-- a number that is too big when this digit is read is too big in the end
pub number_reaches : (n m i d : ℕ) (z : List ℕ) → number_after n (drop i z) ≡ m → i < length z → d ≡ get_or z i 0 - 48 → n * 10 + d ≤ m
number_reaches n m i d z is inside digit =
    let cut : drop i z ≡ get_or z i 0 ∷ drop (suc i) z = drop-cons z i 0 inside in
    let rec = number_grows (n * 10 + (get_or z i 0 - 48)) (drop (suc i) z) in
    let same : number_after (n * 10 + (get_or z i 0 - 48)) (drop (suc i) z) ≡ m = ap (number_after n) (sym cut) ∙ is in
    omega (arith, rec, same, digit)

digit_is : (b : ℕ) → is_ascii_digit b ≡ true → digit_value b ≡ b - 48
digit_is b h = grind (arith, common_steps)

value_after : (n : ℕ) (z : List ℕ) → AllByRecursion (λ c. is_ascii_digit c ≡ true) z → digits_value_after 10 n z ≡ number_after n z
value_after n [] h = refl
value_after n (b ∷ z) h = ap (λ d. digits_value_after 10 (n * 10 + d) z) (digit_is b h.0) ∙ value_after (n * 10 + (b - 48)) z h.1

pub number_value : (bytes : List ℕ) → Is kind.Number bytes → digits_value 10 bytes ≡ number_after 0 bytes
number_value [] h = absurd h
number_value (b ∷ z) h = value_after 0 (b ∷ z) h

-- ---- texts

same : (n : ℕ) → eqb n n ≡ true
same n = grind (arith, common_steps)

undoubled_plain : (q b : ℕ) (z : List ℕ) → eqb b q ≡ false → 0 < length z → undoubled q (b ∷ z) ≡ b ∷ undoubled q z
undoubled_plain q b [] off some = absurd (omega (arith, some))
undoubled_plain q b (c ∷ z) off some = rw off refl

-- what was written with doubled quotes is read back
pub undoubled-doubled : (q : ℕ) (s : List ℕ) → undoubled q (doubled q s ++ q ∷ []) ≡ s
undoubled-doubled q [] = refl
undoubled-doubled q (b ∷ s) =
    by_test (eqb b q)
    (λ on. rw on (rw (same q) (λ i. sym (eqb-true b q on) i ∷ undoubled-doubled q s i)))
    (λ off.
    let some : 0 < length (doubled q s ++ q ∷ []) = omega (arith, length-append (doubled q s) (q ∷ [])) in
    rw off (undoubled_plain q b (doubled q s ++ q ∷ []) off some ∙ ap (λ w. b ∷ w) (undoubled-doubled q s)))

halved-doubled : (q : ℕ) (s : List ℕ) → halved q false (doubled q s) ≡ s
halved-doubled q [] = refl
halved-doubled q (b ∷ s) =
    by_test (eqb b q)
    (λ on. rw on (rw (same q) (λ i. sym (eqb-true b q on) i ∷ halved-doubled q s i)))
    (λ off. rw off (rw off (ap (λ w. b ∷ w) (halved-doubled q s))))

pub text_inner : (text : List ℕ) (n : ℕ) → Is kind.Text text → n + 2 ≡ length text → halved (get_or text 0 0) false (take n (drop 1 text)) ≡ content text
text_inner [] n h size = absurd h
text_inner (q ∷ z) n (quote, s, e) size =
    let long : length z ≡ length (doubled q s) + 1 = ap length e ∙ length-append (doubled q s) (q ∷ []) in
    let count : n ≡ length (doubled q s) = omega (arith, size, long) in
    let inner : take n z ≡ doubled q s = (λ i. take (count i) (e i)) ∙ take-append_seam (doubled q s) (q ∷ []) in
    ap (halved q false) inner ∙ halved-doubled q s ∙ sym (ap (undoubled q) e ∙ undoubled-doubled q s)

-- ---- what is wrong with a piece

nonempty : (k : Kind) (f : List ℕ) → Is k f → 0 < length f
nonempty k [] is = absurd is
nonempty k (b ∷ f) is = omega arith

pub wide_number : (bytes : List ℕ) (column : ℕ) → Is kind.Number bytes → 2 ^ 63 ≤ number_after 0 bytes → FirstWrong kind.Number bytes column NumberWide column
wide_number bytes column is wide = record {
  behind = 0;
  place = omega arith;
  within = nonempty kind.Number bytes is;
  wrong = (refl, refl, let same = number_value bytes is in omega (arith, same, wide));
  least = λ e j h. inr (sym h.1, sym h.0);
}

pub fitting_number : (bytes : List ℕ) → Is kind.Number bytes → number_after 0 bytes < 2 ^ 63 → NothingWrong kind.Number bytes
fitting_number bytes is fits d i h = let same = number_value bytes is in omega (arith, same, fits, h.2)

abbrev is_bad : ℕ → Bool
is_bad b = not (is_shown b)

pub bad_text : (bytes : List ℕ) (column behind : ℕ) → Some behind ≡ position is_bad bytes → FirstWrong kind.Text bytes column BadByte (column + behind)
bad_text bytes column behind found =
    let first = position-Some is_bad bytes behind 0 (sym found) in
    record {
      behind = behind;
      place = refl;
      within = first.0;
      wrong = (refl, first.0, not-true (is_shown (get_or bytes behind 0)) first.1);
      least = λ e j h.
          ⊎_elim
          (λ same. inr (same, sym h.0))
          (⊎_elim (λ below. inl below) (λ above. absurd (false≢true (sym h.2 ∙ not-false (is_shown (get_or bytes j 0)) (first.2 j above)))))
          (cases_order behind j);
    }

pub shown_text : (bytes : List ℕ) → None ≡ position is_bad bytes → NothingWrong kind.Text bytes
shown_text bytes none d i h =
    by_test (ltb (position_or_len is_bad bytes) (length bytes))
    (λ on. let clash : None ≡ Some (position_or_len is_bad bytes) = none ∙ rw on refl in absurd (cc))
    (λ off.
    let all = ltb-false (position_or_len is_bad bytes) (length bytes) off in
    let shown = not-false (is_shown (get_or bytes i 0)) (fails_before_first is_bad bytes i 0 (omega (arith, all, h.1))) in
    false≢true (sym h.2 ∙ shown))

-- ---- symbols

symbol_some : (bytes : List ℕ) → Is kind.Symbol bytes → (y : symbols.Symbol) × (symbol bytes ≡ Some y)
symbol_some [] h = absurd h
symbol_some (b ∷ z) h = h

pub symbol_read : (bytes : List ℕ) → Is kind.Symbol bytes → (y : symbols.Symbol) (n : ℕ) → Some (y, n) ≡ first_fit spellings bytes → Token (token.Symbol y) ≡ meaning kind.Symbol bytes
symbol_read bytes is y n found = let some = symbol_some bytes is in sym (ap symbol_meaning (symbol_whole bytes some.0 some.1 y n found))

pub symbol_unread : (bytes : List ℕ) → Is kind.Symbol bytes → None ≡ first_fit spellings bytes → ⊥
symbol_unread bytes is none = let some = symbol_some bytes is in symbol_found bytes some.0 some.1 none

pub if_ok : {T E : Type 0} (r : Result T E) (f : T → List ℕ) (x y : List ℕ) → IfOk r (λ v. f v ≡ x) → x ≡ y → IfOk r (λ v. f v ≡ y)
if_ok (Ok v) f x y h same = h ∙ same
if_ok (Err e) f x y h same = tt
