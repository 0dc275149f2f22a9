-- The first line of a source.
use Rattle.std.proofs.Common.{◌≡◌, ℕ, ◌+◌, ◌-◌, ◌≤◌, ◌<◌, Bool, false, cond, eqb, List, [], ◌∷◌, length, get_or, take, drop, sym, refl, ap, ◌∙◌, arith}
use Rattle.std.proofs.lemmas.Bool.{not-true, ne_eqb}
use Rattle.std.proofs.lemmas.List.{length-drop, take_all, nil_from_length, drop-drop}
use Rattle.std.proofs.lemmas.List.Splits.{slice_split_none, slice_split_first}
use Rattle.std.proofs.lemmas.List.Sums.{prefix_len_passes}
use Rattle.std.specs.List.{prefix_len, slice_split, onto_first, All}
use Rattle.std.specs.Str.Lines.{lines, lines_of_parts, strip_carriage_return}
use Rattle.cdc_token.specs.Cutting.{is_inner}
use Rattle.cdc_token.proofs.Spellings.{by_test}

abbrev is_feed : ℕ → Bool
is_feed b = eqb b 10

pub record Parts (z : List ℕ) : Type 0 where
  pub first : List ℕ
  pub more : List (List ℕ)
  pub is : slice_split is_feed z ≡ first ∷ more

onto : (b : ℕ) (z : List ℕ) → Parts z → slice_split is_feed (b ∷ z) ≡ cond (is_feed b) ([] ∷ slice_split is_feed z) (onto_first b (slice_split is_feed z))
onto b z parts = refl

parts_of : (z : List ℕ) → Parts z
parts_of [] = record { first = []; more = []; is = refl }
parts_of (b ∷ z) =
    let rec = parts_of z in
    by_test (is_feed b)
    (λ on. record { first = []; more = slice_split is_feed z; is = rw on refl })
    (λ off. record { first = b ∷ rec.first; more = rec.more; is = rw off (ap (onto_first b) rec.is) })

lines_more : (x z : List ℕ) → lines_of_parts (x ∷ slice_split is_feed z) ≡ strip_carriage_return x ∷ lines z
lines_more x z = let parts = parts_of z in rw (parts.is) refl

pub lines_cut : (z : List ℕ) (n : ℕ) → n ≡ prefix_len is_inner z → 1 ≤ length (drop n z) → lines z ≡ strip_carriage_return (take n z) ∷ lines (drop 1 (drop n z))
lines_cut z n is some =
    let inside : prefix_len is_inner z < length z = let left = length-drop n z in omega (arith, left, is, some) in
    let next : drop (prefix_len is_inner z + 1) z ≡ drop 1 (drop n z) = ap (λ k. drop (k + 1) z) (sym is) ∙ sym (drop-drop 1 n z) in
    ap lines_of_parts (slice_split_first is_feed z 0 inside)
    ∙ lines_more (take (prefix_len is_inner z) z) (drop (prefix_len is_inner z + 1) z)
    ∙ (λ i. strip_carriage_return (take (sym is i) z) ∷ lines (next i))

pub lines_last : (z : List ℕ) (n : ℕ) → n ≡ prefix_len is_inner z → 0 < length z → length (drop n z) < 1 → lines z ≡ take n z ∷ lines (drop n z)
lines_last z n is some none =
    let all : length z ≤ n = let left = length-drop n z in omega (arith, left, none) in
    let whole : take n z ≡ z = take_all n z all in
    let nothing : drop n z ≡ [] = nil_from_length (drop n z) (omega (arith, none)) in
    let inner : All (λ b. is_feed b ≡ false) z = λ k d below. not-true (is_feed (get_or z k d)) (prefix_len_passes is_inner z k d (omega (arith, below, all, is))) in
    let full : eqb (length z) 0 ≡ false = ne_eqb (length z) 0 (λ e. omega (arith, e, some)) in
    ap lines_of_parts (slice_split_none is_feed z inner) ∙ rw full (λ i. sym whole i ∷ lines (sym nothing i))

pub first_ended : (z line rest w : List ℕ) (n : ℕ) → line ≡ take n z → rest ≡ drop n z → n ≡ prefix_len is_inner z → 1 ≤ length rest → w ≡ strip_carriage_return line → lines z ≡ w ∷ lines (take (length rest - 1) (drop 1 rest))
first_ended z line rest w n front back is some stripped =
    let all : take (length rest - 1) (drop 1 rest) ≡ drop 1 rest = take_all (length rest - 1) (drop 1 rest) (omega (arith, length-drop 1 rest)) in
    let first : strip_carriage_return (take n z) ≡ w = ap strip_carriage_return (sym front) ∙ sym stripped in
    let next : drop 1 (drop n z) ≡ take (length rest - 1) (drop 1 rest) = ap (drop 1) (sym back) ∙ sym all in
    lines_cut z n is (omega (arith, some, ap length back)) ∙ (λ i. first i ∷ lines (next i))

pub first_last : (z line rest : List ℕ) (n : ℕ) → line ≡ take n z → rest ≡ drop n z → n ≡ prefix_len is_inner z → 0 < length z → length rest < 1 → lines z ≡ line ∷ lines rest
first_last z line rest n front back is some none =
    lines_last z n is some (omega (arith, none, ap length back)) ∙ (λ i. sym front i ∷ lines (sym back i))
