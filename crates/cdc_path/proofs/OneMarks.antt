-- Marks and written lists of a program are determined.
use Rattle.std.proofs.Common.{◌≡◌, inl, inr, ℕ, zero, suc, ◌+◌, ◌-◌, ◌<◌, ◌≤◌, List, [], ◌∷◌, length, slice_get, slice_index, slice_index_or, get_or, Some, refl, sym, ap, ap₂, ◌∙◌, subst, le_antisymm, arith}
use Rattle.std.proofs.lemmas.Option.{slice_get-get_or, get_or_from_slice_get, slice_get_within}
use Rattle.std.specs.List.{All}
use Rattle.std.specs.List.Sorted.{IsStrictlyIncreasing}
use Rattle.cdc_prog.specs.declared.program.Mark.{Mark}
use Rattle.cdc_prog.specs.declared.program.Mark.TheVariants.{Ordinary, Time}
use Rattle.cdc_prog.specs.declared.program.Marks.{Marks}
use Rattle.cdc_prog.specs.Plain.{Program}
use Rattle.cdc_prog.specs.Iterations.{IsIn}
use Rattle.cdc_prog.specs.Marked.{mark_of}
use Rattle.cdc_path.specs.declared.point.Point.{Point}
use Rattle.cdc_path.specs.declared.point.Point.TheVariants.{Entry, Exit}
use Rattle.cdc_path.specs.Marks.{IsMark, IsAscending, IsWrittenList, AreWrittenLists, AreMarks}

-- ---- marks
one_mark : (p : Program) (site : ℕ) (m n : Mark) → IsMark p site m → IsMark p site n → m ≡ n
one_mark p site Ordinary Ordinary f g = refl
one_mark p site Ordinary (Time d) (inl covered) g = absurd (g.0 covered)
one_mark p site Ordinary (Time d) (inr none) g = absurd (none g.2.0 g.2.1)
one_mark p site (Time d) Ordinary f (inl covered) = absurd (f.0 covered)
one_mark p site (Time d) Ordinary f (inr none) = absurd (none f.2.0 f.2.1)
one_mark p site (Time d) (Time e) f g =
    let low : d ≤ e = subst (λ n. d ≤ n) g.2.2 (f.1 g.2.0 g.2.1) in
    let high : e ≤ d = subst (λ n. e ≤ n) f.2.2 (g.1 f.2.0 f.2.1) in
    ap Time (le_antisymm low high)

-- ---- lists in ascending order
pub later : (a : ℕ) (xs : List ℕ) → IsAscending (a ∷ xs) → IsAscending xs
later a [] h = tt
later a (b ∷ bs) h = h.1

above : (a : ℕ) (xs : List ℕ) → IsAscending (a ∷ xs) → (x : ℕ) → IsIn x xs → a < x
above a [] h x m = absurd m
above a (b ∷ bs) h x (inl e) = subst (λ n. a < n) (sym e) h.0
above a (b ∷ bs) h x (inr m) = let more : b < x = above b bs h.1 x m in omega (arith, h.0, more)

-- of two lists with the same members in ascending order the first members are equal
first_same : (x y : ℕ) (xs ys : List ℕ) → IsAscending (x ∷ xs) → IsAscending (y ∷ ys) → IsIn x (y ∷ ys) → IsIn y (x ∷ xs) → x ≡ y
first_same x y xs ys f g (inl e) n = e
first_same x y xs ys f g (inr m) (inl e) = sym e
first_same x y xs ys f g (inr m) (inr n) =
    let low : y < x = above y ys g x m in
    let high : x < y = above x xs f y n in
    absurd (omega (arith, low, high))

-- what comes behind the first
behind : (x y z : ℕ) (ys : List ℕ) → x ≡ y → x < z → IsIn z (y ∷ ys) → IsIn z ys
behind x y z ys same above (inl e) = absurd (omega (arith, same, above, e))
behind x y z ys same above (inr m) = m

same_ascending : (xs ys : List ℕ) → IsAscending xs → IsAscending ys → ((x : ℕ) → IsIn x xs → IsIn x ys) → ((x : ℕ) → IsIn x ys → IsIn x xs) → xs ≡ ys
same_ascending [] [] f g to from = refl
same_ascending [] (y ∷ ys) f g to from = absurd (from y (inl refl))
same_ascending (x ∷ xs) [] f g to from = absurd (to x (inl refl))
same_ascending (x ∷ xs) (y ∷ ys) f g to from =
    let first : x ≡ y = first_same x y xs ys f g (to x (inl refl)) (from y (inl refl)) in
    ap₂ (λ (a : ℕ) (more : List ℕ). a ∷ more) first
    (same_ascending xs ys (later x xs f) (later y ys g) (λ z m. behind x y z ys first (above x xs f z m) (to z (inr m))) (λ z m. behind y x z xs (sym first) (above y ys g z m) (from z (inr m))))

one_list : (p : Program) (b : Point) (xs ys : List ℕ) → IsWrittenList p b xs → IsWrittenList p b ys → xs ≡ ys
one_list p b xs ys f g = same_ascending xs ys f.ascending g.ascending (λ x m. (g.written x).1 ((f.written x).0 m)) (λ x m. (f.written x).1 ((g.written x).0 m))

-- lists of as many elements are equal where the element at each place is determined
same_each : {X : Type 0} (P : ℕ → X → Type 0) → ((k : ℕ) (a b : X) → P k a → P k b → a ≡ b) → (xs ys : List X) → length xs ≡ length ys
    → ((k : ℕ) (a : X) → slice_get xs k ≡ Some a → P k a) → ((k : ℕ) (a : X) → slice_get ys k ≡ Some a → P k a) → xs ≡ ys
same_each P one [] [] n f g = refl
same_each P one [] (y ∷ ys) n f g = absurd (omega (arith, n))
same_each P one (x ∷ xs) [] n f g = absurd (omega (arith, n))
same_each {X} P one (x ∷ xs) (y ∷ ys) n f g =
    ap₂ (λ (a : X) (more : List X). a ∷ more) (one 0 x y (f 0 x refl) (g 0 y refl))
    (same_each (λ k. P (suc k)) (λ k. one (suc k)) xs ys (omega (arith, n)) (λ k. f (suc k)) (λ k. g (suc k)))

one_lists : (p : Program) (at : ℕ → Point) (xs ys : List (List ℕ)) → AreWrittenLists p at xs → AreWrittenLists p at ys → xs ≡ ys
one_lists p at xs ys f g = same_each (λ k. IsWrittenList p (at (suc k))) (λ k. one_list p (at (suc k))) xs ys (f.count ∙ sym g.count) f.each g.each

-- the mark at each place of the list
mark_there : (p : Program) (m : Marks) → AreMarks p m → (k : ℕ) (x : Mark) → slice_get m.reads k ≡ Some x → IsMark p (suc k) x
mark_there p m h k x is =
    let below : k < length m.reads = slice_get_within m.reads k x is in
    let place : suc k - 1 ≡ k = omega arith in
    let read : mark_of m.reads (suc k) ≡ x = ap (λ (n : ℕ). get_or m.reads n Ordinary) place ∙ get_or_from_slice_get m.reads k x Ordinary is in
    subst (IsMark p (suc k)) read (h.reads (suc k) (omega arith) (omega (arith, below, h.count)))

pub one_marks : (p : Program) (m n : Marks) → AreMarks p m → AreMarks p n → m ≡ n
one_marks p m n f g =
    let reads : m.reads ≡ n.reads = same_each (λ k. IsMark p (suc k)) (λ k. one_mark p (suc k)) m.reads n.reads (f.count ∙ sym g.count) (mark_there p m f) (mark_there p n g) in
    let entries : m.entries ≡ n.entries = one_lists p Entry m.entries n.entries f.entries g.entries in
    let exits : m.exits ≡ n.exits = one_lists p Exit m.exits n.exits f.exits g.exits in
    ap (λ (l : List Mark). record { reads = l; entries = m.entries; exits = m.exits }) reads
    ∙ ap₂ (λ (l r : List (List ℕ)). record { reads = n.reads; entries = l; exits = r }) entries exits

-- ---- written lists
pub increasing : (xs : List ℕ) → IsAscending xs → IsStrictlyIncreasing xs
increasing [] h k lt = absurd (omega (arith, lt))
increasing (a ∷ []) h k lt = absurd (omega (arith, lt))
increasing (a ∷ (b ∷ bs)) h zero lt = h.0
increasing (a ∷ (b ∷ bs)) h (suc k) lt =
    let next : suc (k + 1) ≡ suc k + 1 = omega arith in
    subst (λ n. slice_index (b ∷ bs) k < slice_index (a ∷ (b ∷ bs)) n) next (increasing (b ∷ bs) h.1 k (omega (arith, lt)))

pub member_at : (xs : List ℕ) (k d : ℕ) → k < length xs → IsIn (slice_index_or xs k d) xs
member_at [] k d lt = absurd (omega (arith, lt))
member_at (x ∷ xs) zero d lt = inl refl
member_at (x ∷ xs) (suc k) d lt = inr (member_at xs k d (omega (arith, lt)))

-- what holds of each written list of a program holds of all in these lists
pub each_list : (p : Program) (at : ℕ → Point) (lists : List (List ℕ)) (P : List ℕ → Type 0) → ((b : Point) (l : List ℕ) → IsWrittenList p b l → P l) → AreWrittenLists p at lists → All P lists
each_list p at lists P f h = λ k d lt. f (at (suc k)) _ (h.each k _ (slice_get-get_or lists k d lt))

pub lists_increase : (p : Program) (m : Marks) → AreMarks p m → All IsStrictlyIncreasing m.entries × All IsStrictlyIncreasing m.exits
lists_increase p m h =
    let one = λ (b : Point) (l : List ℕ) (w : IsWrittenList p b l). increasing l w.ascending in
    (each_list p Entry m.entries IsStrictlyIncreasing one h.entries, each_list p Exit m.exits IsStrictlyIncreasing one h.exits)
