-- The number of an element as a sum over its dimensions.
use Rattle.std.proofs.Common.{◌≡◌, ℕ, zero, suc, ◌+◌, ◌*◌, List, [], ◌∷◌, ℤ, take, length, get_or, Ok, sym, ap, ap₂, ◌∙◌, arith}
use Rattle.std.specs.Prelude.{sum_by}
use Rattle.std.specs.List.{range_with_len}
use Rattle.std.proofs.Math.Nat.{mul_comm, mul_assoc, mul-add}
use Rattle.std.proofs.lemmas.List.Sums.{sum_by-cons}
use Rattle.cdc_prog.specs.declared.program.Dim.{Dim}
use Rattle.cdc_prog.specs.Data.{size_of, position, with_position, element_from, element}
use Rattle.cdc_prog.specs.Laws.{HavePositions, column_major}
use Rattle.cdc_prog.proofs.Numbers.{Gets, position_got, scaled}

-- the sum of f over n numbers from a on
abbrev sums : (ℕ → ℕ) → ℕ → ℕ → ℕ
sums f a n = sum_by f (range_with_len a n)

-- from the next number on, with a factor taken out
shifted : (f g : ℕ → ℕ) (e a n : ℕ) → ((k : ℕ) → g (suc k) ≡ e * f k) → sums g (a + 1) n ≡ e * sums f a n
shifted f g e a zero h = omega arith
shifted f g e a (suc n) h =
    let next : a + 1 ≡ suc a = omega arith in
    sum_by-cons g (a + 1) (range_with_len (a + 1 + 1) n)
    ∙ ap₂ (λ (x y : ℕ). x + y) (ap g next ∙ h a) (shifted f g e (a + 1) n h)
    ∙ sym (mul-add e (f a) (sums f (a + 1) n))
    ∙ ap (λ s. e * s) (sym (sum_by-cons f a (range_with_len (a + 1) n)))

factored : (x e s : ℕ) → x * (e * s) ≡ e * (x * s)
factored x e s = sym (mul_assoc x e s) ∙ ap (λ y. y * s) (mul_comm x e) ∙ mul_assoc e x s

-- the sum by what is left of it in the later dimensions
column_step : (d : Dim) (dims : List Dim) (n : ℕ) (positions : List ℕ) → column_major (d ∷ dims) (n ∷ positions) ≡ column_major dims positions * d.extent + n
column_step d dims n positions =
    let f = λ (k : ℕ). get_or positions k 0 * size_of (take k dims) in
    let g = λ (k : ℕ). get_or (n ∷ positions) k 0 * size_of (take k (d ∷ dims)) in
    let rest : sums g (0 + 1) (length dims) ≡ d.extent * sums f 0 (length dims) =
    shifted f g d.extent 0 (length dims) (λ k. factored (get_or positions k 0) d.extent (size_of (take k dims))) in
    sum_by-cons g 0 (range_with_len (0 + 1) (length dims)) ∙ omega (arith, rest, mul_comm d.extent (sums f 0 (length dims)))

sum_from : (stride : ℕ) (dims : List Dim) (subs : List ℤ) (positions : List ℕ) → HavePositions dims subs positions → Gets (element_from stride dims subs) (column_major dims positions * stride)
sum_from stride [] [] [] h = ap Ok (omega arith)
sum_from stride [] [] (n ∷ ns) h = absurd h
sum_from stride [] (x ∷ xs) ns h = absurd h
sum_from stride (d ∷ ds) [] ns h = absurd h
sum_from stride (d ∷ ds) (x ∷ xs) [] h = absurd h
sum_from stride (d ∷ ds) (x ∷ xs) (n ∷ ns) h =
    let later = sum_from (stride * d.extent) ds xs ns h.1 in
    ap (λ g. with_position g (λ k. with_position (element_from (stride * d.extent) ds xs) (λ m. Ok (k * stride + m)))) h.0
    ∙ ap (λ g. with_position g (λ m. Ok (n * stride + m))) later
    ∙ ap Ok (scaled (column_major ds ns) d.extent n stride ∙ ap (λ k. k * stride) (sym (column_step d ds n ns)))

pub column_major_sum : (dims : List Dim) (subs : List ℤ) (positions : List ℕ) → HavePositions dims subs positions → element dims subs ≡ Ok (column_major dims positions)
column_major_sum dims subs positions h = sum_from 1 dims subs positions h ∙ ap Ok (omega arith)

has_positions : (stride : ℕ) (dims : List Dim) (subs : List ℤ) (n : ℕ) → Gets (element_from stride dims subs) n → (positions : List ℕ) × HavePositions dims subs positions
has_positions stride [] [] n e = ([], tt)
has_positions stride [] (x ∷ xs) n e = cc
has_positions stride (d ∷ ds) [] n e = cc
has_positions stride (d ∷ ds) (x ∷ xs) n e =
    let p = position_got (position d x) (λ k. with_position (element_from (stride * d.extent) ds xs) (λ m. Ok (k * stride + m))) n e in
    let q = position_got (element_from (stride * d.extent) ds xs) (λ m. Ok (p.0 * stride + m)) n p.2 in
    let rest = has_positions (stride * d.extent) ds xs q.0 q.1 in
    (p.0 ∷ rest.0, (p.1, rest.1))

pub column_major_only : (dims : List Dim) (subs : List ℤ) (n : ℕ) → element dims subs ≡ Ok n → (positions : List ℕ) × HavePositions dims subs positions × (column_major dims positions ≡ n)
column_major_only dims subs n e =
    let h = has_positions 1 dims subs n e in
    let both = sym (column_major_sum dims subs h.0 h.1) ∙ e in
    (h.0, h.1, (let same : column_major dims h.0 ≡ n = cc in same))
