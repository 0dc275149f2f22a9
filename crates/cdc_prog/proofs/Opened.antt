-- Lines that bytes leave open.
use Rattle.std.proofs.Common.{◌≡◌, ◌<◌, ℕ, zero, suc, ◌+◌, Bool, true, false, List, [], ◌∷◌, ◌++◌, length, get_or, refl, ap, ◌∙◌, arith}
use Rattle.std.specs.Prelude.{ℤ, pos, negsuc, not, ◌==◌}
use Rattle.std.specs.Char.{digit_value}
use Rattle.std.specs.Str.Parse.{AllDigits}
use Rattle.std.proofs.lemmas.Bool.Decides.{nat_tests}
use Rattle.cdc_num.specs.Decimal.{decimal_bytes, IsDecimalOf}
use Rattle.cdc_prog.specs.Lines.{opened}

pub opened-opened : (before : Bool) (xs ys : List ℕ) → opened (opened before xs) ys ≡ opened before (xs ++ ys)
opened-opened before [] ys = refl
opened-opened before (x ∷ xs) ys = opened-opened (not (x == 10)) xs ys

digit_opens : (b : ℕ) → digit_value b < 10 → (b == 10) ≡ false
digit_opens b is = grind (arith, nat_tests, is)

-- digits are no line end
digits_open : (before : Bool) (b : ℕ) (ds : List ℕ) → AllDigits 10 (b ∷ ds) → opened before (b ∷ ds) ≡ true
digits_open before b [] is = ap not (digit_opens b is.0)
digits_open before b (c ∷ ds) is = digits_open (not (b == 10)) c ds is.1

text_opens : (before : Bool) (text : List ℕ) → 0 < length text → AllDigits 10 text → opened before text ≡ true
text_opens before [] some is = absurd (omega (arith, some))
text_opens before (b ∷ ds) some is = digits_open before b ds is

-- the text of a number opens a line
pub number_opens : (before : Bool) (value : ℤ) → IsDecimalOf value (decimal_bytes value) → opened before (decimal_bytes value) ≡ true
number_opens before (pos n) is = text_opens before (decimal_bytes (pos n)) is.some is.digits
number_opens before (negsuc n) is = ap (opened before) is.1 ∙ text_opens true is.0 is.2.some is.2.digits

-- the last byte decides
pub last_opens : (before : Bool) (bytes : List ℕ) (k d : ℕ) → length bytes ≡ k + 1 → opened before bytes ≡ not (get_or bytes k d == 10)
last_opens before [] k d is = absurd (omega (arith, is))
last_opens before (b ∷ []) zero d is = refl
last_opens before (b ∷ []) (suc k) d is = absurd (omega (arith, is))
last_opens before (b ∷ c ∷ bytes) zero d is = absurd (omega (arith, is))
last_opens before (b ∷ c ∷ bytes) (suc k) d is = last_opens (not (b == 10)) (c ∷ bytes) k d (omega (arith, is))
