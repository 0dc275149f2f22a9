-- The lines of a header that were read so far.
use Rattle.std.proofs.Common.{◌≡◌, ℕ, ◌+◌, ◌<◌, true, false, List, [], ◌∷◌, ◌++◌, length, take, drop, map, refl, sym, ◌∙◌, ap, subst, arith, append_assoc, append-nil, length-append}
use Rattle.std.specs.Prelude.{filter}
use Rattle.std.specs.Str.Lines.{lines}
use Rattle.std.proofs.lemmas.List.{map-append}
use Rattle.std.proofs.lemmas.List.Elements.{filter-append}
use Rattle.std.proofs.Math.Seq.{take-append_seam, drop-append_seam}
use Rattle.cdc_sched.specs.declared.header.Header.{Header}
use Rattle.cdc_sched.specs.declared.kept.Kept.{Kept}
use Rattle.cdc_sched.specs.Built.{is_built}
use Rattle.cdc_sched.specs.Headers.{places, SayAll, kept_words, IsBadHeader, HasHeader}
use Rattle.cdc_sched.specs.Kept.{IsCut, AreSkipped, IsNextKept, HasNoKept}
use Rattle.cdc_sched.specs.Limits.{IsHeader}
use Rattle.cdc_sched.specs.Lines.{is_skipped, is_kept, read_words}
use Rattle.cdc_sched.proofs.Cuts.{cut_start, cut_lines, cut_more}

-- the kept lines before the rest have these words, and the rest begins with the line of this number
pub record Before (bytes : List ℕ) (said : List (List (List ℕ))) (rest : List ℕ) (number : ℕ) : Type 0 where
  pub front : List ℕ
  pub cut : IsCut bytes front rest
  pub said_are : kept_words (lines front) ≡ said
  pub number_is : number ≡ length (lines front) + 1

pub before_start : (bytes : List ℕ) → Before bytes [] bytes 1
before_start bytes = record { front = []; cut = cut_start bytes; said_are = refl; number_is = refl }

words_skipped : (xs ys : List (List ℕ)) → AreSkipped ys → kept_words (xs ++ ys) ≡ kept_words xs
words_skipped xs ys none =
    ap (map read_words) (filter-append is_kept xs ys ∙ ap (λ z. filter is_kept xs ++ z) none ∙ append-nil (filter is_kept xs))

words_kept : (xs : List (List ℕ)) (line : List ℕ) → is_skipped line ≡ false → kept_words (xs ++ line ∷ []) ≡ kept_words xs ++ read_words line ∷ []
words_kept xs line off =
    let one : filter is_kept (line ∷ []) ≡ line ∷ [] = rw off refl in
    ap (map read_words) (filter-append is_kept xs (line ∷ []) ∙ ap (λ z. filter is_kept xs ++ z) one) ∙ map-append read_words (filter is_kept xs) (line ∷ [])

-- the lines above the next one that is kept
module _ {bytes : List ℕ} {said : List (List (List ℕ))} {rest : List ℕ} {number : ℕ} (b : Before bytes said rest number) {kept : Kept} (k : IsNextKept rest number kept) where
  above : List (List ℕ)
  above = lines b.front ++ k.skipped

  above_said : kept_words above ≡ said
  unfolding above
  above_said = words_skipped (lines b.front) k.skipped k.none ∙ b.said_are

  above_lines : lines b.front ++ lines k.front ≡ above ++ kept.line.now ∷ []
  unfolding above
  above_lines = ap (λ z. lines b.front ++ z) k.lines_are ∙ sym (append_assoc (lines b.front) k.skipped (kept.line.now ∷ []))

  above_number : kept.number ≡ length above + 1
  unfolding above
  above_number = omega (arith, b.number_is, k.number_is, length-append (lines b.front) k.skipped)

  above_more : kept_words (above ++ kept.line.now ∷ []) ≡ said ++ read_words kept.line.now ∷ []
  above_more = words_kept above kept.line.now k.is_kept ∙ ap (λ z. z ++ read_words kept.line.now ∷ []) above_said

  some : 0 < length rest
  some = omega (arith, k.size, k.number_is)

  whole_lines : lines bytes ≡ above ++ kept.line.now ∷ lines kept.after.now
  whole_lines =
      cut_lines b.cut ∙ ap (λ z. lines b.front ++ z) (cut_lines k.cut) ∙ sym (append_assoc (lines b.front) (lines k.front) (lines kept.after.now)) ∙
      ap (λ z. z ++ lines kept.after.now) above_lines ∙ append_assoc above (kept.line.now ∷ []) (lines kept.after.now)

  -- the line fits
  pub before_more : Before bytes (said ++ read_words kept.line.now ∷ []) kept.after.now (kept.number + 1)
  before_more =
      let m = cut_more b.cut k.cut some in
      let ls = m.lines_are ∙ above_lines in
      record {
        front = b.front ++ k.front;
        cut = m.cut;
        said_are = ap kept_words ls ∙ above_more;
        number_is = omega (arith, above_number, ap length ls, length-append above (kept.line.now ∷ []));
      }

  -- the line does not fit
  pub bad_line : (header : Header) → IsHeader header → is_built header.scheme ≡ true → SayAll places header said → length said < 7 → ((h : Header) → IsHeader h → is_built h.scheme ≡ true → SayAll places h (said ++ read_words kept.line.now ∷ []) → ⊥) → IsBadHeader bytes kept.number
  bad_line header limits built says short none = record {
    above = above;
    rest = kept.line.now ∷ lines kept.after.now;
    split = whole_lines;
    number_is = above_number;
    fits = (header, record { limits = limits; built = built; says = subst (SayAll places header) (sym above_said) says });
    short = omega (arith, short, ap length above_said);
    departs = λ f. none f.0 f.1.limits f.1.built (subst (SayAll places f.0) above_more f.1.says);
  }

  -- the header ends with the line
  pub whole_header : (header : Header) → IsHeader header → is_built header.scheme ≡ true → SayAll places header (said ++ read_words kept.line.now ∷ []) → length said ≡ 6 → (at : ℕ) → at + length kept.after.now ≡ length bytes → HasHeader bytes header at
  whole_header header limits built says six at size =
      let m = cut_more b.cut k.cut some in
      let ls = m.lines_are ∙ above_lines in
      let front = b.front ++ k.front in
      let count : length bytes ≡ length front + length kept.after.now = ap length m.cut.split ∙ length-append front kept.after.now in
      let is : at ≡ length front = omega (arith, size, count) in
      let taken : take at bytes ≡ front = (λ i. take (is i) (m.cut.split i)) ∙ take-append_seam front kept.after.now in
      let left : drop at bytes ≡ kept.after.now = (λ i. drop (is i) (m.cut.split i)) ∙ drop-append_seam front kept.after.now in
      let words : kept_words (lines (take at bytes)) ≡ said ++ read_words kept.line.now ∷ [] = ap (λ z. kept_words (lines z)) taken ∙ ap kept_words ls ∙ above_more in
      let on : is_kept kept.line.now ≡ true = rw k.is_kept refl in
      record {
        start = record { within = omega (arith, is, count); split = cut_lines m.cut ∙ (λ i. lines (sym taken i) ++ lines (sym left i)) };
        front = record { limits = limits; built = built; says = subst (SayAll places header) (sym words) says };
        all = omega (arith, ap length words, length-append said (read_words kept.line.now ∷ []), six);
        above = above;
        last = kept.line.now;
        ends = ap lines taken ∙ ls;
        last_is = on;
      }

-- the file ends
pub no_line : {bytes : List ℕ} {said : List (List (List ℕ))} {rest : List ℕ} {number after : ℕ} → Before bytes said rest number → HasNoKept rest number after → (header : Header) → IsHeader header → is_built header.scheme ≡ true → SayAll places header said → length said < 7 → IsBadHeader bytes after
no_line {bytes} {said} {rest} b k header limits built says short =
    let said_is : kept_words (lines b.front ++ lines rest) ≡ said = words_skipped (lines b.front) (lines rest) k.none ∙ b.said_are in
    record {
      above = lines b.front ++ lines rest;
      rest = [];
      split = cut_lines b.cut ∙ sym (append-nil (lines b.front ++ lines rest));
      number_is = omega (arith, b.number_is, k.after_is, length-append (lines b.front) (lines rest));
      fits = (header, record { limits = limits; built = built; says = subst (SayAll places header) (sym said_is) says });
      short = omega (arith, short, ap length said_is);
      departs = tt;
    }
