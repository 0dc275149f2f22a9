-- Lists of which the first places are in use.
use Rattle.std.proofs.Common.{◌≡◌, ℕ, suc, ◌-◌, ◌<◌, ◌≤◌, List, [], ◌∷◌, ◌++◌, length, get_or, set, take, drop, sym, ◌∙◌, ap, subst, arith, length-append, append_assoc}
use Rattle.std.specs.Prelude.{Some, remove, slice_get, All}
use Rattle.std.proofs.lemmas.List.{take-append-drop, length-take-le, length-drop, take_at, take_all, set_at, get_or-take}
use Rattle.std.proofs.lemmas.List.Edits.{remove-append_left, length-remove}
use Rattle.std.proofs.lemmas.List.Elements.{All-append, All-take, All-drop}
use Rattle.std.proofs.lemmas.Option.{slice_get-get_or}
use borrow.Rule.Slice.PartMut.{put_mid, mid_of}
use Rattle.std.proofs.lemmas.Slice.{put_mid-rotated}
use Rattle.std.proofs.lemmas.List.{drop_more}

module _ {A : Type 0} where
  first_of : (xs : List A) → 0 < length xs → A
  first_of [] some = absurd (omega (arith, some))
  first_of (x ∷ xs) some = x

  -- the element at i moved to the end
  pub moved_to_end : (xs ys : List A) (i : ℕ) → i < length xs → ys ≡ drop 1 (mid_of i (length xs - i) xs) ++ take 1 (mid_of i (length xs - i) xs) → put_mid i (length xs - i) xs ys ≡ remove xs i ++ take 1 (drop i xs)
  moved_to_end xs ys i within rotated =
      let d = first_of xs (omega (arith, within)) in
      put_mid-rotated i (length xs - i) xs ys d within (omega (arith, within)) rotated
      ∙ ap (λ l. remove xs i ++ l) (sym (ap (take 1) (drop_more xs i d within)))

  pub length-moved : (xs ys : List A) (i : ℕ) → i < length xs → ys ≡ remove xs i ++ take 1 (drop i xs) → length ys ≡ length xs
  length-moved xs ys i within is =
      let rest : 1 ≤ length (drop i xs) = omega (arith, length-drop i xs, within) in
      omega (arith, ap length is, length-append (remove xs i) (take 1 (drop i xs)), length-remove xs i within, length-take-le 1 (drop i xs) rest)

  pub All-moved : (P : A → Type 0) (xs ys : List A) (i : ℕ) → ys ≡ remove xs i ++ take 1 (drop i xs) → All P xs → All P ys
  All-moved P xs ys i is all =
      subst (All P) (sym is)
      (All-append P (remove xs i) (take 1 (drop i xs)) (All-append P (take i xs) (drop (suc i) xs) (All-take P i xs all) (All-drop P (suc i) xs all)) (All-take P 1 (drop i xs) (All-drop P i xs all)))

  -- one of the places in use is freed
  pub take-moved : (xs ys : List A) (u i : ℕ) → i < u → u ≤ length xs → ys ≡ remove xs i ++ take 1 (drop i xs) → take (u - 1) ys ≡ remove (take u xs) i
  take-moved xs ys u i below within is =
      let front : length (take u xs) ≡ u = length-take-le u xs within in
      let split : remove xs i ≡ remove (take u xs) i ++ drop u xs =
      ap (λ l. remove l i) (sym (take-append-drop u xs)) ∙ remove-append_left (take u xs) (drop u xs) i (omega (arith, front, below)) in
      let long : length (remove (take u xs) i) ≡ u - 1 = omega (arith, length-remove (take u xs) i (omega (arith, front, below)), front) in
      ap (take (u - 1)) (is ∙ ap (λ l. l ++ take 1 (drop i xs)) split ∙ append_assoc (remove (take u xs) i) (drop u xs) (take 1 (drop i xs)))
      ∙ take_at (remove (take u xs) i) (drop u xs ++ take 1 (drop i xs)) (u - 1) long

  -- all places are in use, and the first goes to the end with another element
  pub replaced_first : (xs ys : List A) (u : ℕ) (v : A) → 0 < u → u ≡ length xs → ys ≡ remove xs 0 ++ take 1 (drop 0 xs) → take u (set ys (u - 1) v) ≡ drop 1 (take u xs) ++ v ∷ []
  replaced_first [] ys u v some full is = absurd (omega (arith, some, full))
  replaced_first (x ∷ xs) ys u v some full is =
      let last : length xs ≡ u - 1 = omega (arith, full) in
      let made : set ys (u - 1) v ≡ xs ++ v ∷ [] = ap (λ l. set l (u - 1) v) is ∙ set_at xs x [] v (u - 1) last in
      ap (take u) made
      ∙ take_all u (xs ++ v ∷ []) (omega (arith, length-append xs (v ∷ []), full))
      ∙ ap (λ l. drop 1 l ++ v ∷ []) (sym (take_all u (x ∷ xs) (omega (arith, full))))

  pub got : (xs : List A) (u i : ℕ) (l : A) → i < u → u ≤ length xs → l ≡ get_or xs i l → slice_get (take u xs) i ≡ Some l
  got xs u i l below within is =
      slice_get-get_or (take u xs) i l (omega (arith, length-take-le u xs within, below))
      ∙ ap Some (get_or-take u xs i l below ∙ sym is)
