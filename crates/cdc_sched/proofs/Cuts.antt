-- The first line of a file, and what is left.
use Rattle.std.proofs.Common.{◌≡◌, ℕ, ◌+◌, ◌-◌, ◌<◌, ◌==◌, true, false, List, [], ◌∷◌, ◌++◌, length, take, drop, get_or, length-take-le, nat_lt, Some, None, position, refl, sym, ◌∙◌, ap, inl, inr, subst, ⊎_elim, arith, append_assoc, append-nil, take-append-drop}
use Rattle.std.specs.List.{All, slice_split, position_or_len}
use Rattle.std.specs.Str.Lines.{lines, lines_of_parts, strip_carriage_return}
use Rattle.std.proofs.lemmas.Bool.{cases_Bool, eqb-true}
use Rattle.std.proofs.lemmas.List.{take_all, length-drop, drop_more, get_or-take}
use Rattle.std.proofs.lemmas.List.Elements.{All-from_get_or}
use Rattle.std.proofs.lemmas.List.Splits.{slice_split_at, slice_split_none, length-slice_split}
use Rattle.std.proofs.lemmas.List.Sums.{fails_before_first, passes_at_first}
use borrow.Author.Tests.{ltb-true, ltb-false}
use Rattle.cdc_sched.specs.Kept.{IsWhole, IsCut, IsCutLine}

parts_shown : (x : List ℕ) (ps : List (List ℕ)) → 0 < length ps → lines_of_parts (x ∷ ps) ≡ strip_carriage_return x ∷ lines_of_parts ps
parts_shown x [] some = absurd (omega (arith, some))
parts_shown x (y ∷ more) some = refl

alone : (x : List ℕ) → 0 < length x → lines_of_parts (x ∷ []) ≡ x ∷ []
alone x some = ⊎_elim
    (λ (none : (length x == 0) ≡ true). absurd (omega (arith, eqb-true (length x) 0 none, some)))
    (λ (off : (length x == 0) ≡ false). rw off refl)
    (cases_Bool (length x == 0))

-- a line with its end
ended : (line more : List ℕ) → All (λ b. (b == 10) ≡ false) line → lines (line ++ 10 ∷ more) ≡ strip_carriage_return line ∷ lines more
ended line more plain =
    ap lines_of_parts (slice_split_at (λ b. b == 10) line 10 more plain refl) ∙
    parts_shown line (slice_split (λ b. b == 10) more) (omega (arith, length-slice_split (λ b. b == 10) more))

ended_whole : (line : List ℕ) → All (λ b. (b == 10) ≡ false) line → IsWhole (line ++ 10 ∷ [])
ended_whole line plain more =
    ap lines (append_assoc line (10 ∷ []) more) ∙ ended line more plain ∙ ap (λ ls. ls ++ lines more) (sym (ended line [] plain))

record Found (bytes : List ℕ) (end : ℕ) : Type 0 where
  plain : All (λ b. (b == 10) ≡ false) (take end bytes)
  split : bytes ≡ take end bytes ++ 10 ∷ drop (end + 1) bytes

found : (bytes : List ℕ) (end : ℕ) → Some end ≡ position (λ b. b == 10) bytes → Found bytes end
found bytes end e =
    let n = position_or_len (λ b. b == 10) bytes in
    ⊎_elim
    (λ (on : nat_lt n (length bytes) ≡ true).
    let is : end ≡ n = (let same : Some end ≡ Some n = rw on at e in cc) in
    let below : n < length bytes = ltb-true _ _ on in
    let byte : get_or bytes n 0 ≡ 10 = eqb-true (get_or bytes n 0) 10 (passes_at_first (λ b. b == 10) bytes 0 below) in
    rw is (record {
      plain = All-from_get_or (λ b. (b == 10) ≡ false) (take n bytes) 0 (λ k inside.
          let short : k < n = omega (arith, inside, length-take-le n bytes (omega (arith, below))) in
          subst (λ b. (b == 10) ≡ false) (sym (get_or-take n bytes k 0 short)) (fails_before_first (λ b. b == 10) bytes k 0 short));
      split = sym (take-append-drop n bytes) ∙ ap (λ z. take n bytes ++ z) (drop_more bytes n 0 below ∙ ap (λ b. b ∷ drop (n + 1) bytes) byte);
    }))
    (λ (off : nat_lt n (length bytes) ≡ false). let none : Some end ≡ None = rw off at e in absurd (cc))
    (cases_Bool (nat_lt n (length bytes)))

pub first_line : (bytes : List ℕ) (end : ℕ) → Some end ≡ position (λ b. b == 10) bytes → IsCutLine bytes (strip_carriage_return (take end bytes)) (drop (end + 1) bytes)
first_line bytes end e =
    let f = found bytes end e in
    record {
      front = take end bytes ++ 10 ∷ [];
      cut = record {
        split = f.split ∙ sym (append_assoc (take end bytes) (10 ∷ []) (drop (end + 1) bytes));
        whole = inr (ended_whole (take end bytes) f.plain);
      };
      alone = ended (take end bytes) [] f.plain;
    }

last_alone : (bytes : List ℕ) → 0 < length bytes → None ≡ position (λ b. b == 10) bytes → lines bytes ≡ bytes ∷ []
last_alone [] some e = absurd (omega (arith, some))
last_alone (b ∷ bytes) some e =
    let n = position_or_len (λ b. b == 10) (b ∷ bytes) in
    ⊎_elim
    (λ (on : nat_lt n (length (b ∷ bytes)) ≡ true). let clash : None ≡ Some n = rw on at e in absurd (cc))
    (λ (off : nat_lt n (length (b ∷ bytes)) ≡ false).
    let past = ltb-false _ _ off in
    ap lines_of_parts (slice_split_none (λ b. b == 10) (b ∷ bytes) (All-from_get_or (λ x. (x == 10) ≡ false) (b ∷ bytes) 0 (λ k below. fails_before_first (λ b. b == 10) (b ∷ bytes) k 0 (omega (arith, past, below))))) ∙ alone (b ∷ bytes) some)
    (cases_Bool (nat_lt n (length (b ∷ bytes))))

pub last_line : (bytes : List ℕ) → 0 < length bytes → None ≡ position (λ b. b == 10) bytes → IsCutLine bytes bytes []
last_line bytes some e = record {
  front = bytes;
  cut = record { split = sym (append-nil bytes); whole = inl refl };
  alone = last_alone bytes some e;
}

pub rest_whole : (n : ℕ) (bytes : List ℕ) → take (length bytes - n) (drop n bytes) ≡ drop n bytes
rest_whole n bytes = take_all _ (drop n bytes) (omega (arith, length-drop n bytes))

-- ---- lines one after another

pub cut_start : (bytes : List ℕ) → IsCut bytes [] bytes
cut_start bytes = record { split = refl; whole = inr (λ more. refl) }

pub cut_lines : {bytes front rest : List ℕ} → IsCut bytes front rest → lines bytes ≡ lines front ++ lines rest
cut_lines {bytes} {front} {rest} c = ⊎_elim
    (λ (none : rest ≡ []). ap lines (c.split ∙ ap (λ r. front ++ r) none ∙ append-nil front) ∙ sym (append-nil (lines front)) ∙ ap (λ r. lines front ++ lines r) (sym none))
    (λ (whole : IsWhole front). ap lines c.split ∙ whole rest)
    c.whole

whole_more : (front next : List ℕ) → IsWhole front → IsWhole next → IsWhole (front ++ next)
whole_more front next first then more =
    ap lines (append_assoc front next more) ∙ first (next ++ more) ∙ ap (λ ls. lines front ++ ls) (then more) ∙
    sym (append_assoc (lines front) (lines next) (lines more)) ∙ ap (λ ls. ls ++ lines more) (sym (first next))

pub record IsCutMore (bytes front next after : List ℕ) : Type 0 where
  pub cut : IsCut bytes (front ++ next) after
  pub lines_are : lines (front ++ next) ≡ lines front ++ lines next

pub cut_more : {bytes front rest next after : List ℕ} → IsCut bytes front rest → IsCut rest next after → 0 < length rest → IsCutMore bytes front next after
cut_more {bytes} {front} {rest} {next} {after} c d some = ⊎_elim
    (λ (none : rest ≡ []). absurd (omega (arith, some, ap length none)))
    (λ (whole : IsWhole front). record {
      cut = record {
        split = c.split ∙ ap (λ r. front ++ r) d.split ∙ sym (append_assoc front next after);
        whole = ⊎_elim (λ (none : after ≡ []). inl none) (λ (more : IsWhole next). inr (whole_more front next whole more)) d.whole;
      };
      lines_are = whole next;
    })
    c.whole

pub cut_one : {bytes line rest : List ℕ} → IsCutLine bytes line rest → lines bytes ≡ line ∷ lines rest
cut_one {bytes} {line} {rest} c = cut_lines c.cut ∙ ap (λ ls. ls ++ lines rest) c.alone
