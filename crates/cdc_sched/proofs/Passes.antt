-- The lines that are passed over on the way to one that is kept.
use Rattle.std.proofs.Common.{◌≡◌, ℕ, ◌+◌, ◌<◌, ◌≤◌, true, false, List, [], ◌∷◌, ◌++◌, length, refl, sym, ◌∙◌, ap, subst, arith, length-append, append-nil}
use Rattle.std.specs.Prelude.{filter}
use Rattle.std.specs.Str.Lines.{lines}
use Rattle.std.proofs.lemmas.List.Elements.{filter-append}
use Rattle.cdc_sched.specs.declared.kept.Kept.{Kept}
use Rattle.cdc_sched.specs.Lines.{is_skipped, is_kept}
use Rattle.cdc_sched.specs.Kept.{IsCut, IsCutLine, AreSkipped, IsNextKept, HasNoKept}
use Rattle.cdc_sched.proofs.Cuts.{cut_start, cut_lines, cut_more}

-- so far all lines were skipped
pub record Passes (bytes : List ℕ) (number : ℕ) (rest : List ℕ) (at : ℕ) : Type 0 where
  pub front : List ℕ
  pub cut : IsCut bytes front rest
  pub none : AreSkipped (lines front)
  pub at_is : at ≡ number + length (lines front)
  pub size : at + length rest ≤ number + length bytes

pub passes_start : (bytes : List ℕ) (number : ℕ) → Passes bytes number bytes number
passes_start bytes number = record { front = []; cut = cut_start bytes; none = refl; at_is = omega arith; size = omega arith }

pub skipped_one : (line : List ℕ) → is_skipped line ≡ true → AreSkipped (line ∷ [])
skipped_one line on = rw on refl

module _ {bytes rest line after : List ℕ} {number at : ℕ} (p : Passes bytes number rest at) (some : 0 < length rest) (c : IsCutLine rest line after) (less : length after < length rest) where
  pub passes_more : is_skipped line ≡ true → Passes bytes number after (at + 1)
  passes_more on =
      let m = cut_more p.cut c.cut some in
      let ls : lines (p.front ++ c.front) ≡ lines p.front ++ line ∷ [] = m.lines_are ∙ ap (λ z. lines p.front ++ z) c.alone in
      let count : length (lines (p.front ++ c.front)) ≡ length (lines p.front) + 1 = ap length ls ∙ length-append (lines p.front) (line ∷ []) in
      record {
        front = p.front ++ c.front;
        cut = m.cut;
        none = ap (filter is_kept) ls ∙ filter-append is_kept (lines p.front) (line ∷ []) ∙ (λ i. p.none i ++ skipped_one line on i);
        at_is = omega (arith, p.at_is, count);
        size = omega (arith, p.size, less);
      }

  pub passes_kept : (kept : Kept) → kept.line.now ≡ line → kept.number ≡ at → kept.after.now ≡ after → is_skipped line ≡ false → IsNextKept bytes number kept
  passes_kept kept e f g off =
      let m = cut_more p.cut c.cut some in
      let size = p.size in
      let at_is = p.at_is in
      record {
        front = p.front ++ c.front;
        cut = subst (λ z. IsCut bytes (p.front ++ c.front) z) (sym g) m.cut;
        skipped = lines p.front;
        lines_are = m.lines_are ∙ ap (λ z. lines p.front ++ z) (c.alone ∙ ap (λ z. z ∷ []) (sym e));
        none = p.none;
        is_kept = ap is_skipped e ∙ off;
        number_is = f ∙ p.at_is;
        size = omega (arith, size, less, f, ap length g);
      }

pub passes_all : {bytes : List ℕ} {number : ℕ} (rest : List ℕ) {at : ℕ} → Passes bytes number rest at → length rest ≡ 0 → HasNoKept bytes number at
passes_all {bytes} [] p e =
    let ls : lines bytes ≡ lines p.front = cut_lines p.cut ∙ append-nil (lines p.front) in
    let count = ap length ls in
    record { none = ap (filter is_kept) ls ∙ p.none; after_is = omega (arith, p.at_is, count) }
passes_all (b ∷ rest) p e = absurd (omega (arith, e))
