-- Stacks whose last element is their top.
use Rattle.std.proofs.Common.{◌≡◌, ℕ, ◌-◌, ◌≤◌, ℤ, List, [], ◌∷◌, ◌++◌, length, drop, take, refl, sym, ap, ◌∙◌, arith, append_assoc, length-drop}
use Rattle.std.specs.Prelude.{reverse}
use Rattle.std.proofs.lemmas.List.{append-nil, reverse-append, length-reverse, take-append-drop}
use Rattle.std.proofs.Math.Seq.{drop-append_seam}
use Rattle.cdc_code.specs.Act.{Act}
use Rattle.cdc_code.specs.Frames.{Frame, in_order}
use Rattle.cdc_code.specs.Rows.{pops}
use Rattle.cdc_code.proofs.Rows.{onto, ordered, pops_all}

onto_reverse : {X : Type 0} (vs s : List X) → onto vs s ≡ reverse vs ++ s
onto_reverse [] s = refl
onto_reverse (v ∷ vs) s =
    onto_reverse vs (v ∷ s) ∙ (sym (append_assoc (reverse vs) (v ∷ []) s) ∙ ap (λ l. l ++ s) (sym (reverse-append (v ∷ []) vs)))

-- what was gathered
pub gathered : (ks : List ℕ) → in_order (reverse ks) [] ≡ ks
gathered ks =
    let e : reverse ks ≡ onto ks [] = sym (onto_reverse ks [] ∙ append-nil (reverse ks)) in
    ap (λ l. in_order l []) e ∙ ordered ks

-- a stack in two parts
pub parted : {X : Type 0} (xs : List X) (n : ℕ) → reverse xs ≡ reverse (drop n xs) ++ reverse (take n xs)
parted xs n = ap reverse (sym (take-append-drop n xs)) ∙ reverse-append (take n xs) (drop n xs)

pub below_top : {X : Type 0} (xs : List X) (count : ℕ) → count ≤ length xs → drop count (reverse xs) ≡ reverse (take (length xs - count) xs)
below_top xs count le =
    let n = length xs - count in
    let high : length (reverse (drop n xs)) ≡ count = length-reverse (drop n xs) ∙ (length-drop n xs ∙ omega arith) in
    ap (drop count) (parted xs n)
    ∙ (ap (λ k. drop k (reverse (drop n xs) ++ reverse (take n xs))) (sym high)
    ∙ drop-append_seam (reverse (drop n xs)) (reverse (take n xs)))

-- the top numbers are popped
pub popped_top : (xs : List ℤ) (count : ℕ) (go : List ℤ → List ℤ → Act Frame) → count ≤ length xs → pops count [] (reverse xs) go ≡ go (drop (length xs - count) xs) (drop count (reverse xs))
popped_top xs count go le =
    let n = length xs - count in
    let top = drop n xs in
    let below = reverse (take n xs) in
    let high : length top ≡ count = length-drop n xs ∙ omega arith in
    ap (λ s. pops count [] s go) (parted xs n ∙ sym (onto_reverse top below))
    ∙ (pops_all top below count go high ∙ ap (go top) (sym (below_top xs count le)))
