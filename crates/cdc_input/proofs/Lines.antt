-- The first line of a file.
use Rattle.std.proofs.Common.{◌≡◌, ℕ, ◌+◌, ◌-◌, ◌<◌, ◌==◌, true, false, List, [], ◌∷◌, length, take, drop, nat_lt, Some, None, position, refl, sym, ◌∙◌, ap, ⊎_elim, arith}
use Rattle.std.specs.List.{slice_split, position_or_len}
use Rattle.std.specs.Str.Lines.{lines, lines_of_parts, strip_carriage_return}
use Rattle.std.proofs.lemmas.Bool.{cases_Bool, eqb-true}
use Rattle.std.proofs.lemmas.List.{take_all, length-drop}
use Rattle.std.proofs.lemmas.List.Elements.{All-from_get_or}
use Rattle.std.proofs.lemmas.List.Splits.{slice_split_first, slice_split_none, length-slice_split}
use Rattle.std.proofs.lemmas.List.Sums.{fails_before_first}
use borrow.Author.Tests.{ltb-true, ltb-false}

parts_shown : (x : List ℕ) (ps : List (List ℕ)) → 0 < length ps → lines_of_parts (x ∷ ps) ≡ strip_carriage_return x ∷ lines_of_parts ps
parts_shown x [] some = absurd (omega (arith, some))
parts_shown x (y ∷ more) some = refl

alone : (x : List ℕ) → 0 < length x → lines_of_parts (x ∷ []) ≡ x ∷ []
alone x some = ⊎_elim
    (λ (none : (length x == 0) ≡ true). absurd (omega (arith, eqb-true (length x) 0 none, some)))
    (λ (off : (length x == 0) ≡ false). rw off refl)
    (cases_Bool (length x == 0))

pub first_line : (bytes : List ℕ) (end : ℕ) → Some end ≡ position (λ b. b == 10) bytes → lines bytes ≡ strip_carriage_return (take end bytes) ∷ lines (drop (end + 1) bytes)
first_line bytes end e =
    let n = position_or_len (λ b. b == 10) bytes in
    ⊎_elim
    (λ (on : nat_lt n (length bytes) ≡ true).
    let is : end ≡ n = (let same : Some end ≡ Some n = rw on at e in cc) in
    ap lines_of_parts (slice_split_first (λ b. b == 10) bytes 0 (ltb-true _ _ on)) ∙
    parts_shown (take n bytes) (slice_split (λ b. b == 10) (drop (n + 1) bytes)) (omega (arith, length-slice_split (λ b. b == 10) (drop (n + 1) bytes))) ∙
    (λ i. strip_carriage_return (take (sym is i) bytes) ∷ lines (drop (sym is i + 1) bytes)))
    (λ (off : nat_lt n (length bytes) ≡ false). let none : Some end ≡ None = rw off at e in absurd (cc))
    (cases_Bool (nat_lt n (length bytes)))

pub last_line : (bytes : List ℕ) → 0 < length bytes → None ≡ position (λ b. b == 10) bytes → lines bytes ≡ bytes ∷ []
last_line [] some e = absurd (omega (arith, some))
last_line (b ∷ bytes) some e =
    let n = position_or_len (λ b. b == 10) (b ∷ bytes) in
    ⊎_elim
    (λ (on : nat_lt n (length (b ∷ bytes)) ≡ true). let clash : None ≡ Some n = rw on at e in absurd (cc))
    (λ (off : nat_lt n (length (b ∷ bytes)) ≡ false).
    let past = ltb-false _ _ off in
    ap lines_of_parts (slice_split_none (λ b. b == 10) (b ∷ bytes) (All-from_get_or (λ x. (x == 10) ≡ false) (b ∷ bytes) 0 (λ k below. fails_before_first (λ b. b == 10) (b ∷ bytes) k 0 (omega (arith, past, below))))) ∙ alone (b ∷ bytes) some)
    (cases_Bool (nat_lt n (length (b ∷ bytes))))

pub rest_whole : (n : ℕ) (bytes : List ℕ) → take (length bytes - n) (drop n bytes) ≡ drop n bytes
rest_whole n bytes = take_all _ (drop n bytes) (omega (arith, length-drop n bytes))
