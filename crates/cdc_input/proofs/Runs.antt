-- The runs of what is left of a line.
use Rattle.std.proofs.Common.{◌≡◌, ℕ, ◌+◌, ◌-◌, ◌<◌, true, false, List, [], ◌∷◌, ◌++◌, length, take, drop, get_or, sym, ◌∙◌, ap, subst, arith, append-nil, take-append-drop, length-take-le, length-drop}
use Rattle.std.specs.Prelude.{filter, slice_range}
use Rattle.std.specs.List.{All}
use Rattle.std.proofs.lemmas.List.{drop_more, drop-drop, get_or-take, get_or-drop}
use Rattle.std.proofs.lemmas.List.Elements.{All-from_get_or}
use Rattle.std.proofs.lemmas.List.Splits.{slice_split_none, slice_split_at, slice_split-cons_yes}
use Rattle.cdc_input.specs.Records.{is_separator, has_byte, runs}
use Rattle.cdc_input.specs.Faults.{IsRun}

after_separator : (b : ℕ) (z : List ℕ) → is_separator b ≡ true → runs (b ∷ z) ≡ runs z
after_separator b z on = ap (filter has_byte) (slice_split-cons_yes is_separator b z on)

first_run : (run z : List ℕ) → 0 < length run → All (λ b. is_separator b ≡ false) run → (0 < length z → is_separator (get_or z 0 0) ≡ true) → runs (run ++ z) ≡ run ∷ runs z
first_run [] z some plain ends = absurd (omega (arith, some))
first_run (b ∷ run) [] some plain ends =
    ap runs (append-nil (b ∷ run)) ∙ ap (filter has_byte) (slice_split_none is_separator (b ∷ run) plain)
first_run (b ∷ run) (y ∷ ys) some plain ends =
    let on : is_separator y ≡ true = ends (omega arith) in
    ap (filter has_byte) (slice_split_at is_separator (b ∷ run) y ys plain on) ∙ ap (λ rs. (b ∷ run) ∷ rs) (sym (after_separator y ys on))

pub runs_after_separator : (line : List ℕ) (at : ℕ) → at < length line → is_separator (get_or line at 0) ≡ true → runs (drop at line) ≡ runs (drop (at + 1) line)
runs_after_separator line at below on = ap runs (drop_more line at 0 below) ∙ after_separator (get_or line at 0) (drop (at + 1) line) on

pub runs_after_run : (line : List ℕ) (at end : ℕ) → IsRun line at end → runs (drop at line) ≡ slice_range line at end ∷ runs (drop end line)
runs_after_run line at end is =
    let n = end - at in
    let some = is.some in
    let within = is.within in
    let rest = drop at line in
    let size : length rest ≡ length line - at = length-drop at line in
    let taken : length (take n rest) ≡ n = length-take-le n rest (omega (arith, size, some, within)) in
    let after : drop n rest ≡ drop end line = drop-drop n at line ∙ ap (λ k. drop k line) (omega (arith, some)) in
    let plain : All (λ b. is_separator b ≡ false) (take n rest) =
    All-from_get_or (λ b. is_separator b ≡ false) (take n rest) 0 (λ k below.
    let inside : k < n = omega (arith, taken, below) in
    subst (λ b. is_separator b ≡ false) (sym (get_or-take n rest k 0 inside ∙ get_or-drop at line k 0)) (is.plain (at + k) (omega arith) (omega (arith, inside, some)))) in
    let ends : 0 < length (drop end line) → is_separator (get_or (drop end line) 0 0) ≡ true =
    λ more. subst (λ b. is_separator b ≡ true) (sym (get_or-drop end line 0 0 ∙ ap (λ k. get_or line k 0) (omega arith))) (is.ends (omega (arith, more, length-drop end line))) in
    ap runs (sym (take-append-drop n rest)) ∙ ap (λ z. runs (take n rest ++ z)) after ∙ first_run (take n rest) (drop end line) (omega (arith, taken, some)) plain ends
