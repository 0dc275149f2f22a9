-- Numerals and the numbers that they write.
use Rattle.std.proofs.Common.{◌≡◌, ℕ, ◌^◌, ◌<◌, ◌&&◌, Bool, true, false, List, [], ◌∷◌, length, nat_le, Some, None, Ok, Err, Result, refl, sym, ◌∙◌, ap, subst, arith}
use Rattle.std.specs.Prelude.{IsUtf8}
use Rattle.std.specs.Char.{is_digit}
use Rattle.std.specs.List.{list_all}
use Rattle.std.specs.Result.{result_ok}
use Rattle.std.specs.Str.Parse.{AllDigits, IsNumeral, ParsesUnsigned, digits_value, without_leading_plus}
use Rattle.std.proofs.lemmas.Bool.{ltb-true, lt-ltb}
use Rattle.std.proofs.lemmas.Bool.Decides.{nat_tests}
use Rattle.std.proofs.lemmas.Fmt.{IsAscii-from_digits}
use Rattle.std.proofs.lemmas.Str.{IsUtf8-from_ascii}
use Rattle.std.proofs.lemmas.Str.Parse.{without_leading_plus_none, digit_at}
use Rattle.cdc_sched.specs.Lines.{is_numeral, below}

both : (a b : Bool) → (a && b) ≡ true → (a ≡ true) × (b ≡ true)
both true true e = (refl, refl)
both true false e = (refl, e)
both false b e = (e, absurd (cc))

all_digits : (word : List ℕ) → list_all (λ b. is_digit b 10) word ≡ true → AllDigits 10 word
all_digits [] e = tt
all_digits (b ∷ word) e =
    let p = both (is_digit b 10) (list_all (λ c. is_digit c 10) word) e in
    (ltb-true _ _ p.0, all_digits word p.1)

digits : (word : List ℕ) → is_numeral word ≡ true → IsNumeral 10 word
digits word e =
    let p = both (nat_le 1 (length word) && nat_le (length word) 20) (list_all (λ b. is_digit b 10) word) e in
    let q = both (nat_le 1 (length word)) (nat_le (length word) 20) p.0 in
    let some : 0 < length word = grind (arith, nat_tests, q.0) in
    (some, all_digits word p.1)

pub text_of_numeral : (word : List ℕ) → is_numeral word ≡ true → IsUtf8 word
text_of_numeral word e = IsUtf8-from_ascii word (IsAscii-from_digits word (digits word e).1)

no_plus : (word : List ℕ) → is_numeral word ≡ true → without_leading_plus word ≡ word
no_plus word e =
    let is = digits word e in
    let first = digit_at word 0 is.1 is.0 in
    without_leading_plus_none word (λ plus. absurd (omega (arith, plus, first)))

pub parsed : {E : Type 0} (word : List ℕ) (r : Result ℕ E) → is_numeral word ≡ true → ParsesUnsigned 64 10 word r → result_ok r ≡ below (2 ^ 64) (digits_value 10 word)
parsed word (Ok n) e is =
    let fits : digits_value 10 word < 2 ^ 64 = subst (λ w. digits_value 10 w < 2 ^ 64) (no_plus word e) is.0.1 in
    let same : n ≡ digits_value 10 word = is.1 ∙ ap (digits_value 10) (no_plus word e) in
    rw (lt-ltb _ _ fits) (ap Some same)
parsed word (Err x) e is = over (digits_value 10 word) (λ fits. is (subst (λ w. IsNumeral 10 w × (digits_value 10 w < 2 ^ 64)) (sym (no_plus word e)) (digits word e, fits)))
  where
    over : (n : ℕ) → (n < 2 ^ 64 → ⊥) → None ≡ below (2 ^ 64) n
    over n not = grind (arith, nat_tests, not)
