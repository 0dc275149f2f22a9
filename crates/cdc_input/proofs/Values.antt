-- A value is ASCII.
use Rattle.std.proofs.Common.{◌≡◌, ℕ, true, false, List, [], ◌∷◌, ⊎_elim, arith}
use Rattle.std.specs.Prelude.{IsUtf8, ◌==◌}
use Rattle.std.specs.Str.{IsAscii}
use Rattle.std.specs.Str.Parse.{AllDigits, without_leading_sign, without_leading_plus}
use Rattle.std.proofs.lemmas.Bool.{cases_Bool, eqb-true}
use Rattle.std.proofs.lemmas.Fmt.{IsAscii-from_digits}
use Rattle.std.proofs.lemmas.Str.{IsUtf8-from_ascii}
use Rattle.std.proofs.lemmas.Str.Ascii.{IsAscii-cons, IsAscii-nil}
use Rattle.cdc_input.specs.Records.{IsValue}

signed : (run : List ℕ) → AllDigits 10 (without_leading_sign run) → IsAscii run
signed [] digits = IsAscii-nil
signed (b ∷ run) digits = ⊎_elim
    (λ (minus : (b == 45) ≡ true). IsAscii-cons b run (omega (arith, eqb-true b 45 minus)) (IsAscii-from_digits run (rw minus at digits)))
    (λ (off : (b == 45) ≡ false). unsigned (rw off at digits))
    (cases_Bool (b == 45))
  where
    unsigned : AllDigits 10 (without_leading_plus (b ∷ run)) → IsAscii (b ∷ run)
    unsigned digits = ⊎_elim
        (λ (plus : (b == 43) ≡ true). IsAscii-cons b run (omega (arith, eqb-true b 43 plus)) (IsAscii-from_digits run (rw plus at digits)))
        (λ (off : (b == 43) ≡ false). IsAscii-from_digits (b ∷ run) (rw off at digits))
        (cases_Bool (b == 43))

pub text_of_value : (run : List ℕ) → IsValue run → IsUtf8 run
text_of_value run is = IsUtf8-from_ascii run (signed run is.digits.1)
