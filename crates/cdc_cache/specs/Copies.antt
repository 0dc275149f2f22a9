-- What each kind of call on a list of lines does to the valid copies.
use Rattle.std.proofs.Common.{◌≡◌, ◌≢◌, ◌⊎◌, ℕ, zero, suc, ◌+◌, ◌*◌, ◌/◌, ◌%◌, ◌<◌, List, [], ◌∷◌, ◌++◌, length, get_or, set, map, refl, subst, sym, ◌∙◌, ap, arith, inl, inr, ⊎_elim, get_or-set_same, get_or-set_other, length-set, replicate}
use Rattle.std.specs.Prelude.{ℤ, Option, Some, None, Bool, true, false, is_some, if◌then◌else◌, ◌==◌, nat_lt, option_and_then, option_map}
use Rattle.std.proofs.Math.Nat.{div-add-mod}
use Rattle.std.proofs.lemmas.Bool.{cases_eq, cases_lt}
use Rattle.std.proofs.lemmas.List.{get_or_past}
use Rattle.cdc_sched.specs.declared.header.Geometry.{Geometry}
use Rattle.cdc_scheme.specs.declared.scheme.Scheme.{Ghosts}
use Rattle.cdc_cache.specs.declared.line.Copied.{Copied}
use Rattle.cdc_cache.specs.declared.line.Line.{Line}
use Rattle.cdc_cache.specs.declared.line.Words.{Words}
use Rattle.cdc_cache.specs.Good.{IsFill, Fills, Writes, Drops, Keeps}
use Rattle.cdc_cache.specs.Finds.{if_yes, if_no}
use Rattle.cdc_cache.specs.Found.{find_replaced, find_removed, find_push, number_of}
use Rattle.cdc_cache.specs.Distinct.{none_of, roomy}
use Rattle.cdc_cache.specs.Lines.{value_at, owner_at, look_up, copy_at, copy_in, replaced, removed, AreDistinct, map_from, with_word, written, no_words, filled_word, refilled, with_room, after_miss, after_write, kept_word, kept_line, after_boundary}

-- the lists of all processors, with one of them changed
abbrev pub changed : {W : Type 0} → (ℕ → List (Line W)) → ℕ → List (Line W) → ℕ → List (Line W)
changed lists p lines q = if q == p then lines else lists q

-- an element of a list whose elements f replaced
pub get_or-mapped : {A : Type 0} (f : ℕ → Option A → Option A) (y : ℕ) (xs : List (Option A)) (j : ℕ) (a : A) → get_or (map_from f y xs) j None ≡ Some a → f (y + j) (get_or xs j None) ≡ Some a
get_or-mapped f y [] j a at = absurd (cc at)
get_or-mapped f y (x ∷ xs) zero a at = ap (λ n. f n x) (omega arith) ∙ at
get_or-mapped f y (x ∷ xs) (suc j) a at = ap (λ n. f n (get_or xs j None)) (omega arith) ∙ get_or-mapped f (y + 1) xs j a at

get_none : {A : Type 0} (n j : ℕ) → ◌≡◌ {A = Option A} (get_or (replicate n None) j None) None
get_none zero j = refl
get_none (suc n) zero = refl
get_none (suc n) (suc j) = get_none n j

module _ {W : Type 0} (words : ℕ) where
  -- a copy stands in a line
  pub found_copy : (lines : List (Line W)) (y : ℕ) (copy : Copied W) → copy_in words lines y ≡ Some copy → (l : Line W) × (look_up (y / words) lines ≡ Some l) × (get_or l.words (y % words) None ≡ Some copy)
  found_copy lines y copy at = go (look_up (y / words) lines) refl at
    where
      go : (o : Option (Line W)) → look_up (y / words) lines ≡ o → option_and_then (λ l. get_or l.words (y % words) None) o ≡ Some copy → (l : Line W) × (look_up (y / words) lines ≡ Some l) × (get_or l.words (y % words) None ≡ Some copy)
      go None is there = absurd (cc there)
      go (Some l) is there = (l, is, there)

  pub copy_found : (lines : List (Line W)) (y : ℕ) (copy : Copied W) (l : Line W) → look_up (y / words) lines ≡ Some l → get_or l.words (y % words) None ≡ Some copy → copy_in words lines y ≡ Some copy
  copy_found lines y copy l is there = ap (copy_at (y % words)) is ∙ there

  pub drops : (lists : ℕ → List (Line W)) (p n : ℕ) → AreDistinct (lists p) → Drops (λ q. copy_in words (lists q)) (λ q. copy_in words (changed lists p (removed n (lists p)) q))
  drops lists p n distinct = λ q y copy at. elim (cases_eq q p) [
    | inl own ↦
        let there : copy_in words (removed n (lists p)) y ≡ Some copy = ap (λ c. copy_in words c y) (sym (if_yes q p (removed n (lists p)) (lists q) own)) ∙ at in
        let line = found_copy (removed n (lists p)) y copy there in
        subst (λ r. copy_in words (lists r) y ≡ Some copy) (sym own) (copy_found (lists p) y copy line.0 (find_removed n (lists p) (y / words) line.0 distinct line.1) line.2)
    | inr other ↦ ap (λ c. copy_in words c y) (sym (if_no q p (removed n (lists p)) (lists q) other)) ∙ at
  ]

  find_map : (f : Line W → Line W) (ls : List (Line W)) (m : ℕ) (l : Line W) → ((k : Line W) → (f k).number ≡ k.number) → look_up m (map f ls) ≡ Some l → (k : Line W) × (look_up m ls ≡ Some k) × (l ≡ f k)
  find_map f [] m l same at = absurd (cc at)
  find_map f (k ∷ ls) m l same at = elim (cases_eq k.number m) [
    | inl here ↦ (k, if_yes k.number m (Some k) (look_up m ls) here, cc (sym (if_yes (f k).number m (Some (f k)) (look_up m (map f ls)) (same k ∙ here)) ∙ at))
    | inr apart ↦
        let rest = find_map f ls m l same (sym (if_no (f k).number m (Some (f k)) (look_up m (map f ls)) (λ e. apart (sym (same k) ∙ e))) ∙ at) in
        (rest.0, if_no k.number m (Some k) (look_up m ls) apart ∙ rest.1, rest.2)
  ]

  -- a word in a line that was written
  pub word_after : (ws : List (Option (Copied W))) (i j : ℕ) (new copy : Copied W) → get_or (set ws i (Some new)) j None ≡ Some copy → ((j ≡ i) × (new ≡ copy)) ⊎ ((j ≢ i) × (get_or ws j None ≡ Some copy))
  word_after ws i j new copy at = elim (cases_eq j i) [
    | inr other ↦ inr (other, sym (get_or-set_other ws i j (Some new) None other) ∙ at)
    | inl same ↦ elim (cases_lt i (length ws)) [
      | inl within ↦ inl (same, cc (sym (get_or-set_same ws i (Some new) None within) ∙ subst (λ k. get_or (set ws i (Some new)) k None ≡ Some copy) same at))
      | inr past ↦ absurd (cc (get_or_past (set ws i (Some new)) j None (omega (arith, length-set ws i (Some new), past, same)), at))
    ]
  ]

module _ {S W T : Type 0} (scheme : Ghosts S W T) (geometry : Geometry) (state : T) (memory : Words) where
  pub keeps : (lists : ℕ → List (Line W)) (written : List ℕ) → 0 < geometry.words
      → Keeps scheme state (owner_at memory) (λ q. copy_in geometry.words (lists q)) (λ q. copy_in geometry.words (after_boundary scheme state memory geometry.words written (lists q))) written
  keeps lists written pos = λ q y copy at.
      let words = geometry.words in
      let line = found_copy words (after_boundary scheme state memory words written (lists q)) y copy at in
      let old = find_map words (kept_line scheme state memory words written) (lists q) (y / words) line.0 (λ k. refl) line.1 in
      let number : old.0.number ≡ y / words = number_of (y / words) (lists q) old.0 old.1 in
      let place : old.0.number * words + y % words ≡ y = omega (arith, div-add-mod y words, ap (λ k. words * k) number) in
      let word : kept_word scheme state memory written y (get_or old.0.words (y % words) None) ≡ Some copy =
      ap (λ z. kept_word scheme state memory written z (get_or old.0.words (y % words) None)) (sym place)
      ∙ get_or-mapped (kept_word scheme state memory written) (old.0.number * words) old.0.words (y % words) copy (ap (λ (l : Line W). get_or l.words (y % words) None) (sym old.2) ∙ line.2) in
      go q y copy old.0 old.1 (get_or old.0.words (y % words) None) refl word
    where
      inner : (c : Copied W) (copy : Copied W) (o : Option W) → option_map (λ w. record { value = c.value; stamp = w }) o ≡ Some copy → (copy.value ≡ c.value) × (o ≡ Some copy.stamp)
      inner c copy None is = absurd (cc is)
      inner c copy (Some w) is = let same : (let r : Copied W = record { value = c.value; stamp = w } in r) ≡ copy = cc is in (ap (λ (r : Copied W). r.value) (sym same), ap (λ (r : Copied W). Some r.stamp) same)

      some_of : (b : Bool) (o : Option (Copied W)) (copy : Copied W) → (if b then o else None) ≡ Some copy → o ≡ Some copy
      some_of true o copy is = is
      some_of false o copy is = absurd (cc is)

      go : (q y : ℕ) (copy : Copied W) (l : Line W) → look_up (y / geometry.words) (lists q) ≡ Some l → (held : Option (Copied W)) → get_or l.words (y % geometry.words) None ≡ held → kept_word scheme state memory written y held ≡ Some copy
          → (old : Copied W) × (copy_in geometry.words (lists q) y ≡ Some old) × (copy.value ≡ old.value) × (scheme.keeps_of state written (owner_at memory y) old.stamp ≡ Some copy.stamp)
      go q y copy l at None held is = absurd (cc (some_of (nat_lt y (length memory.cells)) None copy is))
      go q y copy l at (Some c) held is =
          let both = inner c copy (scheme.keeps_of state written (owner_at memory y) c.stamp) (some_of (nat_lt y (length memory.cells)) (option_map (λ w. record { value = c.value; stamp = w }) (scheme.keeps_of state written (owner_at memory y) c.stamp)) copy is) in
          (c, copy_found geometry.words (lists q) y c l at held, both.0, both.1)

  same_word : (x y : ℕ) → y / geometry.words ≡ x / geometry.words → y % geometry.words ≡ x % geometry.words → y ≡ x
  same_word x y line word = omega (arith, div-add-mod y geometry.words, div-add-mod x geometry.words, ap (λ k. geometry.words * k) line, word)

  pub writes : (lists : ℕ → List (Line W)) (p x : ℕ) (value : ℤ) → Writes scheme state (owner_at memory) (λ q. copy_in geometry.words (lists q)) (λ q. copy_in geometry.words (changed lists p (after_write scheme geometry state memory (lists p) x value) q)) p x value
  writes lists p x value = λ q y copy at. elim (cases_eq q p) [
    | inr other ↦ inl (ap (λ c. copy_in geometry.words c y) (sym (if_no q p (after_write scheme geometry state memory (lists p) x value) (lists q) other)) ∙ at, λ both. other both.0)
    | inl own ↦
        let there : copy_in geometry.words (after_write scheme geometry state memory (lists p) x value) y ≡ Some copy =
        ap (λ c. copy_in geometry.words c y) (sym (if_yes q p (after_write scheme geometry state memory (lists p) x value) (lists q) own)) ∙ at in
        ⊎_elim
        (λ stays. inl (subst (λ r. copy_in geometry.words (lists r) y ≡ Some copy) (sym own) stays.0, λ both. stays.1 both.1))
        (λ wrote. inr (own, wrote.0, wrote.1, wrote.2))
        (by (look_up (x / geometry.words) (lists p)) refl y copy there)
  ]
    where
      by : (o : Option (Line W)) → look_up (x / geometry.words) (lists p) ≡ o → (y : ℕ) (copy : Copied W) → copy_in geometry.words (after_write scheme geometry state memory (lists p) x value) y ≡ Some copy
          → ((copy_in geometry.words (lists p) y ≡ Some copy) × (y ≡ x → ⊥)) ⊎ ((y ≡ x) × (copy.value ≡ value) × (copy.stamp ≡ scheme.wrote_of state (owner_at memory x)))
      by None absent y copy at =
          let stays : copy_in geometry.words (lists p) y ≡ Some copy = rw absent at at in
          inl (stays, λ same. let line = found_copy geometry.words (lists p) y copy stays in cc (subst (λ z. look_up (z / geometry.words) (lists p) ≡ Some line.0) same line.1, absent))
      by (Some l) there y copy at =
          let new : Copied W = record { value = value; stamp = scheme.wrote_of state (owner_at memory x) } in
          let n = x / geometry.words in
          let put = with_word (x % geometry.words) new l in
          let now : copy_in geometry.words (replaced n put (lists p)) y ≡ Some copy = rw there at at in
          let line = found_copy geometry.words (replaced n put (lists p)) y copy now in
          ⊎_elim
          (λ fresh.
          let word : get_or (set l.words (x % geometry.words) (Some new)) (y % geometry.words) None ≡ Some copy = ap (λ (k : Line W). get_or k.words (y % geometry.words) None) (sym fresh.1) ∙ line.2 in
          ⊎_elim
          (λ wrote. inr (same_word x y fresh.0 wrote.0, ap (λ (c : Copied W). c.value) (sym wrote.1), ap (λ (c : Copied W). c.stamp) (sym wrote.1)))
          (λ other. inl (copy_found geometry.words (lists p) y copy l (subst (λ k. look_up k (lists p) ≡ Some l) (sym fresh.0) there) other.1, λ same. other.0 (ap (λ k. k % geometry.words) same)))
          (word_after geometry.words l.words (x % geometry.words) (y % geometry.words) new copy word))
          (λ old. inl (copy_found geometry.words (lists p) y copy line.0 old.1 line.2, λ same. old.0 (ap (λ k. k / geometry.words) same)))
          (find_replaced n put (lists p) (y / geometry.words) line.0 (number_of n (lists p) l there) (ap is_some there) line.1)

  -- ---- a miss of word x

  filled_is : (lists : ℕ → List (Line W)) (p x y : ℕ) (copy : Copied W) → filled_word scheme state memory x y (copy_in geometry.words (lists p) y) ≡ Some copy → IsFill scheme state (owner_at memory) (value_at memory) (λ q. copy_in geometry.words (lists q)) p x y copy
  filled_is lists p x y copy at = go (nat_lt y (length memory.cells)) at
    where
      go : (b : Bool) → (if b then Some (record { value = value_at memory y; stamp = if y == x then scheme.target_of state (owner_at memory y) (option_map (λ c. c.stamp) (copy_in geometry.words (lists p) y)) else scheme.neighbour_of state (owner_at memory y) (option_map (λ c. c.stamp) (copy_in geometry.words (lists p) y)) }) else None) ≡ Some copy
          → IsFill scheme state (owner_at memory) (value_at memory) (λ q. copy_in geometry.words (lists q)) p x y copy
      go false is = absurd (cc is)
      go true is = record {
        value = cc is;
        word = elim (cases_eq y x) [
          | inl here ↦ inl (here, cc (is, if_yes y x (scheme.target_of state (owner_at memory y) (option_map (λ c. c.stamp) (copy_in geometry.words (lists p) y))) (scheme.neighbour_of state (owner_at memory y) (option_map (λ c. c.stamp) (copy_in geometry.words (lists p) y))) here))
          | inr apart ↦ inr (apart, cc (is, if_no y x (scheme.target_of state (owner_at memory y) (option_map (λ c. c.stamp) (copy_in geometry.words (lists p) y))) (scheme.neighbour_of state (owner_at memory y) (option_map (λ c. c.stamp) (copy_in geometry.words (lists p) y))) apart))
        ];
      }

  -- a line after a miss is the one that was filled, or stood there before
  line_after : (lines : List (Line W)) (x m : ℕ) (l : Line W) → AreDistinct lines → look_up m (after_miss scheme geometry state memory lines x) ≡ Some l
      → ((m ≡ x / geometry.words) × (k : Line W) × (l ≡ refilled scheme state memory geometry.words x k) × (k.number ≡ x / geometry.words) × ((j : ℕ) → get_or k.words j None ≡ copy_at j (look_up (x / geometry.words) lines))) ⊎ ((m ≢ x / geometry.words) × (look_up m lines ≡ Some l))
  line_after lines x m l distinct at = go (look_up (x / geometry.words) lines) refl at
    where
      go : (o : Option (Line W)) → look_up (x / geometry.words) lines ≡ o → look_up m (after_miss scheme geometry state memory lines x) ≡ Some l
          → ((m ≡ x / geometry.words) × (k : Line W) × (l ≡ refilled scheme state memory geometry.words x k) × (k.number ≡ x / geometry.words) × ((j : ℕ) → get_or k.words j None ≡ copy_at j (look_up (x / geometry.words) lines))) ⊎ ((m ≢ x / geometry.words) × (look_up m lines ≡ Some l))
      go None none found =
          let n = x / geometry.words in
          let fresh = refilled scheme state memory geometry.words x (no_words geometry.words n) in
          let now : look_up m (with_room geometry lines n ++ fresh ∷ []) ≡ Some l = rw none at found in
          ⊎_elim
          (λ new. inl (new.0, no_words geometry.words n, new.1, refl, λ j. get_none geometry.words j ∙ sym (ap (copy_at j) none)))
          (λ old. inr (old.0, roomy scheme geometry state memory lines n m l distinct old.1))
          (find_push fresh (with_room geometry lines n) m l (none_of (look_up n (with_room geometry lines n)) (λ k there. cc (none, roomy scheme geometry state memory lines n n k distinct there))) now)
      go (Some k) there found =
          let n = x / geometry.words in
          let fresh = refilled scheme state memory geometry.words x k in
          let now : look_up m (replaced n fresh lines) ≡ Some l = rw there at found in
          ⊎_elim
          (λ new. inl (new.0, k, new.1, number_of n lines k there, λ j. sym (ap (copy_at j) there)))
          (λ old. inr old)
          (find_replaced n fresh lines m l (number_of n lines k there) (ap is_some there) now)

  pub fills : (lists : ℕ → List (Line W)) (p x : ℕ) → 0 < geometry.words → AreDistinct (lists p)
      → Fills scheme state (owner_at memory) (value_at memory) (λ q. copy_in geometry.words (lists q)) (λ q. copy_in geometry.words (changed lists p (after_miss scheme geometry state memory (lists p) x) q)) p x
  fills lists p x pos distinct = λ q y copy at. elim (cases_eq q p) [
    | inr other ↦ inl (ap (λ c. copy_in geometry.words c y) (sym (if_no q p (after_miss scheme geometry state memory (lists p) x) (lists q) other)) ∙ at, λ both. other both.0)
    | inl own ↦
        let words = geometry.words in
        let after = after_miss scheme geometry state memory (lists p) x in
        let there : copy_in words after y ≡ Some copy = ap (λ c. copy_in words c y) (sym (if_yes q p after (lists q) own)) ∙ at in
        let line = found_copy words after y copy there in
        ⊎_elim
        (λ new.
        let k = new.1 in
        let place : k.number * words + y % words ≡ y = omega (arith, div-add-mod y words, ap (λ z. words * z) (new.3 ∙ sym new.0)) in
        let held : get_or k.words (y % words) None ≡ copy_in words (lists p) y = new.4 (y % words) ∙ ap (λ z. copy_at (y % words) (look_up z (lists p))) (sym new.0) in
        let word : filled_word scheme state memory x y (copy_in words (lists p) y) ≡ Some copy =
        ap (filled_word scheme state memory x y) (sym held)
        ∙ ap (λ z. filled_word scheme state memory x z (get_or k.words (y % words) None)) (sym place)
        ∙ get_or-mapped (filled_word scheme state memory x) (k.number * words) k.words (y % words) copy (ap (λ (l : Line W). get_or l.words (y % words) None) (sym new.2) ∙ line.2) in
        inr (own, filled_is lists p x y copy word))
        (λ old. inl (
          subst (λ r. copy_in words (lists r) y ≡ Some copy) (sym own) (copy_found words (lists p) y copy line.0 old.1 line.2),
          λ both. old.0 (ap (λ z. z / words) both.1),
        ))
        (line_after (lists p) x (y / words) line.0 distinct line.1)
  ]
