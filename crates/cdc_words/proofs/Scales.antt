-- The number of `bench`.
use Rattle.std.proofs.Common.{◌≡◌, ◌∙◌, ℕ, ◌&&◌, Bool, true, false, cond, refl, sym, ap, subst, ◌<◌, ◌≤◌, ◌^◌, length, List, [], ◌∷◌, drop, Some, None, Result, Ok, Err, nat_lt, true≢false, arith, lt-ltb, ltb-true}
use Rattle.std.specs.Prelude.{◌==◌, nat_le, slice_index}
use Rattle.std.specs.List.{list_all}
use Rattle.std.specs.Char.{digit_value}
use Rattle.std.specs.Str.Parse.{AllDigits, IsNumeral, ParsesUnsigned, digits_value, without_leading_plus}
use Rattle.std.proofs.lemmas.Bool.{le-leb, leb-true}
use Rattle.cdc_words.specs.Commands.{is_scale, scale_of}

abbrev is_digit : ℕ → Bool
is_digit d = nat_lt (digit_value d) 10

digits_pass : (ds : List ℕ) → AllDigits 10 ds → list_all is_digit ds ≡ true
digits_pass [] h = refl
digits_pass (d ∷ ds) h = rw (lt-ltb (digit_value d) 10 h.0) (digits_pass ds h.1)

both : (a b : Bool) → (a && b) ≡ true → (a ≡ true) × (b ≡ true)
both true b e = (refl, e)
both false b e = absurd (true≢false (sym e))

digits_from : (ds : List ℕ) → list_all is_digit ds ≡ true → AllDigits 10 ds
digits_from [] e = tt
digits_from (d ∷ ds) e = let p = both _ _ e in (ltb-true _ _ p.0, digits_from ds p.1)

unsigned : (word : List ℕ) → (slice_index word 0 == 43) ≡ false → without_leading_plus word ≡ word
unsigned word none = ap (λ (t : Bool). drop (cond t 1 0) word) none

-- the four parts of the test
all_four : (a b c d : Bool) → a ≡ true → b ≡ true → c ≡ true → d ≡ true → (a && (b && (c && d))) ≡ true
all_four a b c d ea eb ec ed = rw (ea, eb, ec, ed) refl

is_scale_from : (word : List ℕ) → IsNumeral 10 word → 1 ≤ digits_value 10 word → digits_value 10 word ≤ 1000 → is_scale word ≡ true
is_scale_from word h low high =
    all_four (nat_lt 0 (length word)) (list_all is_digit word) (nat_le 1 (digits_value 10 word)) (nat_le (digits_value 10 word) 1000)
    (lt-ltb 0 (length word) h.0) (digits_pass word h.1) (le-leb 1 (digits_value 10 word) low) (le-leb (digits_value 10 word) 1000 high)

numeral_from : (word : List ℕ) → is_scale word ≡ true → IsNumeral 10 word × (digits_value 10 word < 2 ^ 16)
numeral_from word e =
    let p = both _ _ e in
    let q = both _ _ p.1 in
    let r = both _ _ q.1 in
    let most : digits_value 10 word ≤ 1000 = leb-true _ _ r.1 in
    ((ltb-true _ _ p.0, digits_from word q.0), omega arith)

pub scale_read : (E : Type 0) (word : List ℕ) (r : Result ℕ E) (n : ℕ) → (slice_index word 0 == 43) ≡ false → ParsesUnsigned {E = E} 16 10 word r → r ≡ Ok n
    → 1 ≤ n → n ≤ 1000 → Some n ≡ scale_of word
scale_read E word r n none parses is low high =
    let h : ParsesUnsigned {E = E} 16 10 word (Ok n) = subst (ParsesUnsigned {E = E} 16 10 word) is parses in
    let e = unsigned word none in
    let value : n ≡ digits_value 10 word = h.1 ∙ ap (digits_value 10) e in
    let yes = is_scale_from word (subst (IsNumeral 10) e h.0.0) (subst (λ (k : ℕ). 1 ≤ k) value low) (subst (λ (k : ℕ). k ≤ 1000) value high) in
    ap Some value ∙ sym (ap (λ (t : Bool). cond t (Some (digits_value 10 word)) None) yes)

pub scale_unread : (E : Type 0) (word : List ℕ) (r : Result ℕ E) (e : E) → (slice_index word 0 == 43) ≡ false → ParsesUnsigned {E = E} 16 10 word r → r ≡ Err e → None ≡ scale_of word
scale_unread E word r e none parses failed = go (is_scale word) refl
  where
    h : ParsesUnsigned {E = E} 16 10 word (Err e)
    h = subst (ParsesUnsigned {E = E} 16 10 word) failed parses

    go : (t : Bool) → is_scale word ≡ t → None ≡ scale_of word
    go true is = absurd (subst (λ (w : List ℕ). IsNumeral 10 w × (digits_value 10 w < 2 ^ 16) → ⊥) (unsigned word none) h (numeral_from word is))
    go false is = sym (ap (λ (t : Bool). cond t (Some (digits_value 10 word)) None) is)
