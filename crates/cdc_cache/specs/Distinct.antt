-- No two lines have one number, after each kind of call.
use Rattle.std.proofs.Common.{◌≡◌, ◌≢◌, ℕ, ◌/◌, ◌%◌, List, [], ◌∷◌, ◌++◌, map, refl, subst, sym, ◌∙◌, ap, inl, inr, ⊎_elim}
use Rattle.std.specs.Prelude.{Option, Some, None, Bool, true, false, is_some, if◌then◌else◌}
use Rattle.std.proofs.lemmas.Bool.{cases_eq}
use Rattle.cdc_prog.specs.declared.program.Mark.{Mark}
use Rattle.cdc_sched.specs.declared.header.Geometry.{Geometry}
use Rattle.cdc_scheme.specs.declared.scheme.Scheme.{Ghosts}
use Rattle.cdc_cache.specs.declared.line.Copied.{Copied}
use Rattle.cdc_cache.specs.declared.line.Line.{Line}
use Rattle.cdc_cache.specs.declared.line.Words.{Words}
use Rattle.cdc_cache.specs.Finds.{if_yes, if_no}
use Rattle.cdc_cache.specs.Found.{find_replaced, find_without, find_removed, find_push, number_of}
use Rattle.cdc_cache.specs.Lines.{look_up, replaced, removed, without_first, AreDistinct, with_word, written, refilled, no_words, is_full, with_room, after_miss, after_read, served, copy_in}

pub none_of : {A : Type 0} (o : Option A) → ((x : A) → o ≡ Some x → ⊥) → o ≡ None
none_of None never = refl
none_of (Some x) never = absurd (never x refl)

module _ {W : Type 0} where
  pub distinct_replaced : (n : ℕ) (line : Line W) (ls : List (Line W)) → line.number ≡ n → is_some (look_up n ls) ≡ true → AreDistinct ls → AreDistinct (replaced n line ls)
  distinct_replaced n line [] is some distinct = distinct
  distinct_replaced n line (k ∷ ls) is some distinct = elim (cases_eq k.number n) [
    | inl here ↦ subst AreDistinct (sym (if_yes k.number n (line ∷ ls) (k ∷ replaced n line ls) here)) (subst (λ m. look_up m ls ≡ None) (here ∙ sym is) distinct.0, distinct.1)
    | inr apart ↦
        let rest_some : is_some (look_up n ls) ≡ true = ap is_some (sym (if_no k.number n (Some k) (look_up n ls) apart)) ∙ some in
        subst AreDistinct (sym (if_no k.number n (line ∷ ls) (k ∷ replaced n line ls) apart)) (
          none_of (look_up k.number (replaced n line ls)) (λ l at. ⊎_elim (λ new. apart new.0) (λ old. cc (distinct.0, old.1)) (find_replaced n line ls k.number l is rest_some at)),
          distinct_replaced n line ls is rest_some distinct.1,
        )
  ]

  distinct_without : (sets set : ℕ) (ls : List (Line W)) → AreDistinct ls → AreDistinct (without_first sets set ls)
  distinct_without sets set [] distinct = distinct
  distinct_without sets set (k ∷ ls) distinct = elim (cases_eq (k.number % sets) set) [
    | inl here ↦ subst AreDistinct (sym (if_yes (k.number % sets) set ls (k ∷ without_first sets set ls) here)) distinct.1
    | inr apart ↦ subst AreDistinct (sym (if_no (k.number % sets) set ls (k ∷ without_first sets set ls) apart)) (
      none_of (look_up k.number (without_first sets set ls)) (λ l at. cc (distinct.0, find_without sets set ls k.number l distinct.1 at)),
      distinct_without sets set ls distinct.1,
    )
  ]

  distinct_push : (line : Line W) (ls : List (Line W)) → look_up line.number ls ≡ None → AreDistinct ls → AreDistinct (ls ++ line ∷ [])
  distinct_push line [] none distinct = (refl, tt)
  distinct_push line (k ∷ ls) none distinct =
      let apart : k.number ≢ line.number = λ same. cc (sym (if_yes k.number line.number (Some k) (look_up line.number ls) same) ∙ none) in
      let rest_none : look_up line.number ls ≡ None = sym (if_no k.number line.number (Some k) (look_up line.number ls) apart) ∙ none in (
        none_of (look_up k.number (ls ++ line ∷ [])) (λ l at. ⊎_elim (λ new. apart new.0) (λ old. cc (distinct.0, old.1)) (find_push line ls k.number l rest_none at)),
        distinct_push line ls rest_none distinct.1,
      )

  pub distinct_removed : (n : ℕ) (ls : List (Line W)) → AreDistinct ls → AreDistinct (removed n ls)
  distinct_removed n [] distinct = distinct
  distinct_removed n (k ∷ ls) distinct = elim (cases_eq k.number n) [
    | inl here ↦ subst AreDistinct (sym (if_yes k.number n ls (k ∷ removed n ls) here)) distinct.1
    | inr apart ↦ subst AreDistinct (sym (if_no k.number n ls (k ∷ removed n ls) apart)) (
      none_of (look_up k.number (removed n ls)) (λ l at. cc (distinct.0, find_removed n ls k.number l distinct.1 at)),
      distinct_removed n ls distinct.1,
    )
  ]

  none_map : (f : Line W → Line W) (n : ℕ) (ls : List (Line W)) → ((l : Line W) → (f l).number ≡ l.number) → look_up n ls ≡ None → look_up n (map f ls) ≡ None
  none_map f n [] same none = refl
  none_map f n (k ∷ ls) same none = elim (cases_eq k.number n) [
    | inl here ↦ absurd (cc (sym (if_yes k.number n (Some k) (look_up n ls) here) ∙ none))
    | inr apart ↦
        if_no (f k).number n (Some (f k)) (look_up n (map f ls)) (λ e. apart (sym (same k) ∙ e))
        ∙ none_map f n ls same (sym (if_no k.number n (Some k) (look_up n ls) apart) ∙ none)
  ]

  pub distinct_map : (f : Line W → Line W) (ls : List (Line W)) → ((l : Line W) → (f l).number ≡ l.number) → AreDistinct ls → AreDistinct (map f ls)
  distinct_map f [] same distinct = distinct
  distinct_map f (k ∷ ls) same distinct = (ap (λ n. look_up n (map f ls)) (same k) ∙ none_map f k.number ls same distinct.0, distinct_map f ls same distinct.1)

  pub distinct_written : (n j : ℕ) (copied : Copied W) (ls : List (Line W)) → AreDistinct ls → AreDistinct (written n j copied ls)
  distinct_written n j copied ls distinct = go (look_up n ls) refl
    where
      go : (o : Option (Line W)) → look_up n ls ≡ o → AreDistinct (written n j copied ls)
      go None none = rw none distinct
      go (Some l) there = rw there (distinct_replaced n (with_word j copied l) ls (number_of n ls l there) (ap is_some there) distinct)

module _ {S W T : Type 0} (scheme : Ghosts S W T) (geometry : Geometry) (state : T) (memory : Words) where
  pub roomy : (lines : List (Line W)) (n m : ℕ) (l : Line W) → AreDistinct lines → look_up m (with_room geometry lines n) ≡ Some l → look_up m lines ≡ Some l
  roomy lines n m l distinct found = go (is_full geometry lines n) found
    where
      go : (b : Bool) → look_up m (if b then without_first geometry.sets (n % geometry.sets) lines else lines) ≡ Some l → look_up m lines ≡ Some l
      go true at = find_without geometry.sets (n % geometry.sets) lines m l distinct at
      go false at = at

  distinct_room : (lines : List (Line W)) (n : ℕ) → AreDistinct lines → AreDistinct (with_room geometry lines n)
  distinct_room lines n distinct = go (is_full geometry lines n)
    where
      go : (b : Bool) → AreDistinct (if b then without_first geometry.sets (n % geometry.sets) lines else lines)
      go true = distinct_without geometry.sets (n % geometry.sets) lines distinct
      go false = distinct

  pub distinct_miss : (lines : List (Line W)) (x : ℕ) → AreDistinct lines → AreDistinct (after_miss scheme geometry state memory lines x)
  distinct_miss lines x distinct = go (look_up (x / geometry.words) lines) refl
    where
      n : ℕ
      n = x / geometry.words

      go : (o : Option (Line W)) → look_up (x / geometry.words) lines ≡ o → AreDistinct (after_miss scheme geometry state memory lines x)
      go None none = rw none (
          distinct_push (refilled scheme state memory geometry.words x (no_words geometry.words (x / geometry.words))) (with_room geometry lines (x / geometry.words))
          (none_of (look_up (x / geometry.words) (with_room geometry lines (x / geometry.words))) (λ k at. cc (none, roomy lines (x / geometry.words) (x / geometry.words) k distinct at)))
          (distinct_room lines (x / geometry.words) distinct))
      go (Some l) there = rw there (distinct_replaced (x / geometry.words) (refilled scheme state memory geometry.words x l) lines (number_of (x / geometry.words) lines l there) (ap is_some there) distinct)

  pub distinct_read : (lines : List (Line W)) (x : ℕ) (mark : Mark) → AreDistinct lines → AreDistinct (after_read scheme geometry state memory lines x mark)
  distinct_read lines x mark distinct = go (is_some (served scheme state memory x mark (copy_in geometry.words lines x))) scheme.has_caches
    where
      go : (b has : Bool) → AreDistinct (if b then lines else (if has then after_miss scheme geometry state memory lines x else lines))
      go true has = distinct
      go false true = distinct_miss lines x distinct
      go false false = distinct
