-- The listed events behind lines that are skipped.
use Rattle.std.proofs.Common.{◌≡◌, ℕ, suc, ◌+◌, ◌-◌, true, false, List, [], ◌∷◌, ◌++◌, length, drop, Some, None, refl, sym, ◌∙◌, ap, arith, append_assoc, append-nil, length-append, ⊎_elim}
use Rattle.std.specs.Str.Lines.{lines}
use Rattle.std.proofs.lemmas.Bool.{cases_Bool}
use Rattle.std.proofs.Math.Seq.{drop-append_seam}
use Rattle.cdc_sched.specs.declared.event.Repeated.{Repeated}
use Rattle.cdc_sched.specs.declared.kept.Kept.{Kept}
use Rattle.cdc_sched.specs.Events.{repeated, event_of, listed, bad_line, IsWithin}
use Rattle.cdc_sched.specs.Kept.{AreSkipped, IsNextKept, HasNoKept}
use Rattle.cdc_sched.specs.Lines.{is_skipped, read_words}
use Rattle.cdc_sched.specs.ListedLines.{IsNextListed, HasNoEvents}
use Rattle.cdc_sched.proofs.Cuts.{cut_lines}

listed_skipped : (procs : ℕ) (xs ys : List (List ℕ)) → AreSkipped xs → listed procs (xs ++ ys) ≡ listed procs ys
listed_skipped procs [] ys none = refl
listed_skipped procs (line ∷ xs) ys none = ⊎_elim
    (λ (on : is_skipped line ≡ true). rw on (listed_skipped procs xs ys (rw on at none)))
    (λ (off : is_skipped line ≡ false). let clash = rw off at none in absurd (cc))
    (cases_Bool (is_skipped line))

bad_skipped : (procs above : ℕ) (xs ys : List (List ℕ)) → AreSkipped xs → bad_line procs above (xs ++ ys) ≡ bad_line procs (above + length xs) ys
bad_skipped procs above [] ys none = let same : above ≡ above + 0 = omega arith in ap (λ a. bad_line procs a ys) same
bad_skipped procs above (line ∷ xs) ys none = ⊎_elim
    (λ (on : is_skipped line ≡ true).
    let same : above + 1 + length xs ≡ above + suc (length xs) = omega arith in
    rw on (bad_skipped procs (above + 1) xs ys (rw on at none) ∙ ap (λ a. bad_line procs a ys) same))
    (λ (off : is_skipped line ≡ false). let clash = rw off at none in absurd (cc))
    (cases_Bool (is_skipped line))

pub no_events : {bytes : List ℕ} {above after : ℕ} (procs : ℕ) → HasNoKept bytes (above + 1) after → HasNoEvents procs bytes above None
no_events {bytes} {above} procs k =
    let all : lines bytes ++ [] ≡ lines bytes = append-nil (lines bytes) in
    record {
      events = ap (listed procs) (sym all) ∙ listed_skipped procs (lines bytes) [] k.none;
      bad_is = ap (bad_line procs above) (sym all) ∙ bad_skipped procs above (lines bytes) [] k.none;
    }

module _ {bytes : List ℕ} (procs above : ℕ) (kept : Kept) (k : IsNextKept bytes (above + 1) kept) where
  kept_lines : lines bytes ≡ k.skipped ++ kept.line.now ∷ lines kept.after.now
  kept_lines = cut_lines k.cut ∙ ap (λ ls. ls ++ lines kept.after.now) k.lines_are ∙ append_assoc k.skipped (kept.line.now ∷ []) (lines kept.after.now)

  events_are : listed procs (lines bytes) ≡ listed procs (kept.line.now ∷ lines kept.after.now)
  events_are = ap (listed procs) kept_lines ∙ listed_skipped procs k.skipped (kept.line.now ∷ lines kept.after.now) k.none

  bad_is : bad_line procs above (lines bytes) ≡ bad_line procs (above + length k.skipped) (kept.line.now ∷ lines kept.after.now)
  bad_is = ap (bad_line procs above) kept_lines ∙ bad_skipped procs above k.skipped (kept.line.now ∷ lines kept.after.now) k.none

  number : above + length k.skipped + 1 ≡ kept.number
  number = omega (arith, k.number_is)

  pub some_events : (r : Repeated) → event_of procs (read_words kept.line.now) ≡ Some r → IsWithin procs r → IsNextListed procs bytes above (record { repeated = r; above = kept.number; after = kept.after })
  some_events r e w =
      let shown : listed procs (kept.line.now ∷ lines kept.after.now) ≡ repeated r ++ listed procs (lines kept.after.now) = rw (k.is_kept, e) refl in
      let next : bad_line procs (above + length k.skipped) (kept.line.now ∷ lines kept.after.now) ≡ bad_line procs (above + length k.skipped + 1) (lines kept.after.now) = rw (k.is_kept, e) refl in
      let count : length bytes ≡ length k.front + length kept.after.now = ap length k.cut.split ∙ length-append k.front kept.after.now in
      let gone : length bytes - length kept.after.now ≡ length k.front = omega (arith, count) in
      record {
        events = events_are ∙ shown;
        bad = bad_is ∙ next ∙ ap (λ n. bad_line procs n (lines kept.after.now)) number;
        back = sym ((λ i. drop (gone i) (k.cut.split i)) ∙ drop-append_seam k.front kept.after.now);
        some = w.some;
        below = w.below;
        size = omega (arith, k.size);
        less = omega (arith, k.size, k.number_is);
      }

  pub bad_event : event_of procs (read_words kept.line.now) ≡ None → HasNoEvents procs bytes above (Some kept.number)
  bad_event e =
      let shown : listed procs (kept.line.now ∷ lines kept.after.now) ≡ [] = rw (k.is_kept, e) refl in
      let next : bad_line procs (above + length k.skipped) (kept.line.now ∷ lines kept.after.now) ≡ Some (above + length k.skipped + 1) = rw (k.is_kept, e) refl in
      record { events = events_are ∙ shown; bad_is = bad_is ∙ next ∙ ap Some number }
