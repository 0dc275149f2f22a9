-- What each kind of call on a cache does to the lines of each set.
use Rattle.std.proofs.Common.{◌≡◌, ◌≢◌, ◌⊎◌, ℕ, zero, suc, ◌/◌, ◌%◌, ◌<◌, List, [], ◌∷◌, ◌++◌, length, set, drop, refl, sym, ◌∙◌, ap, subst, arith, inl, inr, ⊎_elim}
use Rattle.std.specs.Prelude.{ℤ, Option, Some, None, Bool, true, false, is_some, is_none, not, ◌&&◌, nat_lt, slice_get, if◌then◌else◌, unwrap_or}
use Rattle.cdc_prog.specs.declared.program.Mark.{Mark}
use Rattle.cdc_sched.specs.declared.header.Geometry.{Geometry}
use Rattle.cdc_scheme.specs.declared.scheme.Scheme.{Ghosts}
use Rattle.cdc_fabric.specs.declared.counts.Access.TheVariants.{Miss}
use Rattle.cdc_cache.specs.declared.line.Copied.{Copied}
use Rattle.cdc_cache.specs.declared.line.Line.{Line}
use Rattle.cdc_cache.specs.declared.line.Words.{Words}
use Rattle.cdc_cache.specs.declared.set.Set.{Set}
use Rattle.cdc_cache.specs.Found.{number_of}
use Rattle.cdc_cache.specs.Lines.{look_up, copy_at, copy_in, in_set, written, with_word, without_first, refilled, no_words, is_full, with_room, after_miss, after_read, served, read_value, read_access, value_at, hit_of}
use Rattle.cdc_cache.specs.Sets.{set_lines, AreSets, IsSized, set_room, set_after_miss, set_access, set_after_read}
use Rattle.cdc_cache.proofs.InSets.{look_up-in_set, replaced-own, replaced-other, without_first-own, without_first-other, push-own, push-other}

pub get_put : {A : Type 0} (xs : List A) (s t : ℕ) (v w : A) → slice_get (set xs s v) t ≡ Some w → ((t ≡ s) × (w ≡ v)) ⊎ ((t ≢ s) × (slice_get xs t ≡ Some w))
get_put [] s t v w at = absurd (cc at)
get_put (x ∷ xs) zero zero v w at = inl (refl, cc at)
get_put (x ∷ xs) zero (suc t) v w at = inr (λ e. absurd (omega (arith, e)), at)
get_put (x ∷ xs) (suc s) zero v w at = inr (λ e. absurd (omega (arith, e)), at)
get_put (x ∷ xs) (suc s) (suc t) v w at = ⊎_elim (λ same. inl (ap suc same.0, same.1)) (λ other. inr (λ e. other.0 (omega (arith, e)), other.1)) (get_put xs s t v w at)

pub get_put_other : {A : Type 0} (xs : List A) (s t : ℕ) (v : A) → t ≢ s → slice_get (set xs s v) t ≡ slice_get xs t
get_put_other [] s t v apart = refl
get_put_other (x ∷ xs) zero zero v apart = absurd (apart refl)
get_put_other (x ∷ xs) zero (suc t) v apart = refl
get_put_other (x ∷ xs) (suc s) zero v apart = refl
get_put_other (x ∷ xs) (suc s) (suc t) v apart = get_put_other xs s t v (λ e. apart (ap suc e))

pub get_within : {A : Type 0} (xs : List A) (s : ℕ) (w : A) → slice_get xs s ≡ Some w → s < length xs
get_within [] s w at = absurd (cc at)
get_within (x ∷ xs) zero w at = omega arith
get_within (x ∷ xs) (suc s) w at = omega (arith, get_within xs s w at)

abbrev pub copied_of : {W : Type 0} → ℤ → W → Copied W
copied_of value stamp = record { value = value; stamp = stamp }

pub get_push : {A : Type 0} (xs : List A) (x : A) (s : ℕ) (w : A) → slice_get (xs ++ x ∷ []) s ≡ Some w → (slice_get xs s ≡ Some w) ⊎ (w ≡ x)
get_push [] x zero w at = inr (cc at)
get_push [] x (suc s) w at = absurd (cc at)
get_push (y ∷ xs) x zero w at = inl at
get_push (y ∷ xs) x (suc s) w at = get_push xs x s w at

-- one more set with no lines
pub sets_push : {W : Type 0} (geometry : Geometry) (sets : List (Set W)) (new : Set W) → AreSets geometry sets [] → set_lines new ≡ [] → IsSized geometry.words geometry.ways new → AreSets geometry (sets ++ new ∷ []) []
sets_push geometry sets new held empty sized = λ s set at. ⊎_elim
    (λ old. held s set old)
    (λ same. subst (λ k. (set_lines k ≡ []) × IsSized geometry.words geometry.ways k) (sym same) (empty, sized))
    (get_push sets new s set at)

-- a call that changes one set
pub sets_put : {W : Type 0} (geometry : Geometry) (sets : List (Set W)) (lines after : List (Line W)) (s : ℕ) (new : Set W) → AreSets geometry sets lines → set_lines new ≡ in_set geometry.sets s after → IsSized geometry.words geometry.ways new
    → ((t : ℕ) → (t ≡ s → ⊥) → in_set geometry.sets t after ≡ in_set geometry.sets t lines) → AreSets geometry (set sets s new) after
sets_put geometry sets lines after s new held own sized others = λ t set at. ⊎_elim
    (λ same. subst (λ k. (set_lines k ≡ in_set geometry.sets t after) × IsSized geometry.words geometry.ways k) (sym same.1) (own ∙ ap (λ k. in_set geometry.sets k after) (sym same.0), sized))
    (λ other. let old = held t set other.1 in (old.0 ∙ sym (others t other.0), old.1))
    (get_put sets s t new set at)

-- a scheme that has sets has caches
pub has_caches : (has : Bool) (sets n s : ℕ) → n ≡ (if has then sets else 0) → s < n → has ≡ true
has_caches true sets n s is within = refl
has_caches false sets n s is within = absurd (omega (arith, is, within))

module _ {W : Type 0} (geometry : Geometry) where
  room-own : (lines : List (Line W)) (n s : ℕ) → n % geometry.sets ≡ s → in_set geometry.sets s (with_room geometry lines n) ≡ set_room geometry.ways (in_set geometry.sets s lines)
  room-own lines n s is = rw is (go (nat_lt (length (in_set geometry.sets s lines)) geometry.ways))
    where
      go : (b : Bool) → in_set geometry.sets s (if not b then without_first geometry.sets s lines else lines) ≡ (if b then in_set geometry.sets s lines else drop 1 (in_set geometry.sets s lines))
      go true = refl
      go false = without_first-own geometry.sets s lines

  room-other : (lines : List (Line W)) (n s : ℕ) → (n % geometry.sets ≡ s → ⊥) → in_set geometry.sets s (with_room geometry lines n) ≡ in_set geometry.sets s lines
  room-other lines n s apart = go (is_full geometry lines n)
    where
      go : (b : Bool) → in_set geometry.sets s (if b then without_first geometry.sets (n % geometry.sets) lines else lines) ≡ in_set geometry.sets s lines
      go true = without_first-other geometry.sets s (n % geometry.sets) lines apart
      go false = refl

  pub written-own : (n j s : ℕ) (copied : Copied W) (lines : List (Line W)) → n % geometry.sets ≡ s → in_set geometry.sets s (written n j copied lines) ≡ written n j copied (in_set geometry.sets s lines)
  written-own n j s copied lines is = go (look_up n lines) refl
    where
      go : (o : Option (Line W)) → look_up n lines ≡ o → in_set geometry.sets s (written n j copied lines) ≡ written n j copied (in_set geometry.sets s lines)
      go None none = rw (none, look_up-in_set geometry.sets n s lines is ∙ none) refl
      go (Some l) there = rw (there, look_up-in_set geometry.sets n s lines is ∙ there) (replaced-own geometry.sets n s (with_word j copied l) lines (number_of n lines l there) is)

  pub written-other : (n j s : ℕ) (copied : Copied W) (lines : List (Line W)) → (n % geometry.sets ≡ s → ⊥) → in_set geometry.sets s (written n j copied lines) ≡ in_set geometry.sets s lines
  written-other n j s copied lines apart = go (look_up n lines) refl
    where
      go : (o : Option (Line W)) → look_up n lines ≡ o → in_set geometry.sets s (written n j copied lines) ≡ in_set geometry.sets s lines
      go None none = rw none refl
      go (Some l) there = rw there (replaced-other geometry.sets n s (with_word j copied l) lines (number_of n lines l there) apart)

module _ {S W T : Type 0} (scheme : Ghosts S W T) (geometry : Geometry) (state : T) (memory : Words) (x : ℕ) where
  miss-own : (lines : List (Line W)) (s : ℕ) → x / geometry.words % geometry.sets ≡ s → in_set geometry.sets s (after_miss scheme geometry state memory lines x) ≡ set_after_miss scheme state memory geometry.words geometry.ways (in_set geometry.sets s lines) x
  miss-own lines s is = go (look_up (x / geometry.words) lines) refl
    where
      go : (o : Option (Line W)) → look_up (x / geometry.words) lines ≡ o → in_set geometry.sets s (after_miss scheme geometry state memory lines x) ≡ set_after_miss scheme state memory geometry.words geometry.ways (in_set geometry.sets s lines) x
      go None none = rw (none, look_up-in_set geometry.sets (x / geometry.words) s lines is ∙ none)
          (push-own geometry.sets s (with_room geometry lines (x / geometry.words)) (refilled scheme state memory geometry.words x (no_words geometry.words (x / geometry.words))) is
          ∙ ap (λ front. front ++ refilled scheme state memory geometry.words x (no_words geometry.words (x / geometry.words)) ∷ []) (room-own geometry lines (x / geometry.words) s is))
      go (Some l) there = rw (there, look_up-in_set geometry.sets (x / geometry.words) s lines is ∙ there) (replaced-own geometry.sets (x / geometry.words) s (refilled scheme state memory geometry.words x l) lines (number_of (x / geometry.words) lines l there) is)

  miss-other : (lines : List (Line W)) (s : ℕ) → (x / geometry.words % geometry.sets ≡ s → ⊥) → in_set geometry.sets s (after_miss scheme geometry state memory lines x) ≡ in_set geometry.sets s lines
  miss-other lines s apart = go (look_up (x / geometry.words) lines) refl
    where
      go : (o : Option (Line W)) → look_up (x / geometry.words) lines ≡ o → in_set geometry.sets s (after_miss scheme geometry state memory lines x) ≡ in_set geometry.sets s lines
      go None none = rw none
          (push-other geometry.sets s (with_room geometry lines (x / geometry.words)) (refilled scheme state memory geometry.words x (no_words geometry.words (x / geometry.words))) apart
          ∙ room-other geometry lines (x / geometry.words) s apart)
      go (Some l) there = rw there (replaced-other geometry.sets (x / geometry.words) s (refilled scheme state memory geometry.words x l) lines (number_of (x / geometry.words) lines l there) apart)

  copy-own : (lines : List (Line W)) (s : ℕ) → x / geometry.words % geometry.sets ≡ s → copy_in geometry.words (in_set geometry.sets s lines) x ≡ copy_in geometry.words lines x
  copy-own lines s is = ap (copy_at (x % geometry.words)) (look_up-in_set geometry.sets (x / geometry.words) s lines is)

  pub value-own : (lines : List (Line W)) (mark : Mark) (s : ℕ) → x / geometry.words % geometry.sets ≡ s → read_value scheme state memory geometry.words (in_set geometry.sets s lines) x mark ≡ read_value scheme state memory geometry.words lines x mark
  value-own lines mark s is = ap (λ c. unwrap_or (served scheme state memory x mark c) (value_at memory x)) (copy-own lines s is)

  pub access-own : (lines : List (Line W)) (mark : Mark) (s : ℕ) → scheme.has_caches ≡ true → x / geometry.words % geometry.sets ≡ s → set_access scheme state memory geometry.words geometry.ways (in_set geometry.sets s lines) x mark ≡ read_access scheme geometry state memory lines x mark
  access-own lines mark s has is =
      ap (λ c. if is_some (served scheme state memory x mark c) then hit_of mark else Miss (is_none (look_up (x / geometry.words) (in_set geometry.sets s lines)) && not (nat_lt (length (in_set geometry.sets s lines)) geometry.ways))) (copy-own lines s is)
      ∙ ap (λ b. if is_some (served scheme state memory x mark (copy_in geometry.words lines x)) then hit_of mark else Miss b)
      (ap (λ o. is_none o && not (nat_lt (length (in_set geometry.sets s lines)) geometry.ways)) (look_up-in_set geometry.sets (x / geometry.words) s lines is)
      ∙ ap (λ t. is_none (look_up (x / geometry.words) lines) && not (nat_lt (length (in_set geometry.sets t lines)) geometry.ways)) (sym is)
      ∙ sym (ap (λ b. b && (is_none (look_up (x / geometry.words) lines) && is_full geometry lines (x / geometry.words))) has))

  pub read-own : (lines : List (Line W)) (mark : Mark) (s : ℕ) → scheme.has_caches ≡ true → x / geometry.words % geometry.sets ≡ s
      → in_set geometry.sets s (after_read scheme geometry state memory lines x mark) ≡ set_after_read scheme state memory geometry.words geometry.ways (in_set geometry.sets s lines) x mark
  read-own lines mark s has is =
      ap (λ b. in_set geometry.sets s (if is_some (served scheme state memory x mark (copy_in geometry.words lines x)) then lines else (if b then after_miss scheme geometry state memory lines x else lines))) has
      ∙ go (is_some (served scheme state memory x mark (copy_in geometry.words lines x)))
      ∙ ap (λ c. if is_some (served scheme state memory x mark c) then in_set geometry.sets s lines else set_after_miss scheme state memory geometry.words geometry.ways (in_set geometry.sets s lines) x) (sym (copy-own lines s is))
    where
      go : (b : Bool) → in_set geometry.sets s (if b then lines else after_miss scheme geometry state memory lines x) ≡ (if b then in_set geometry.sets s lines else set_after_miss scheme state memory geometry.words geometry.ways (in_set geometry.sets s lines) x)
      go true = refl
      go false = miss-own lines s is

  pub read-other : (lines : List (Line W)) (mark : Mark) (s : ℕ) → (x / geometry.words % geometry.sets ≡ s → ⊥) → in_set geometry.sets s (after_read scheme geometry state memory lines x mark) ≡ in_set geometry.sets s lines
  read-other lines mark s apart = go (is_some (served scheme state memory x mark (copy_in geometry.words lines x))) scheme.has_caches
    where
      go : (b has : Bool) → in_set geometry.sets s (if b then lines else (if has then after_miss scheme geometry state memory lines x else lines)) ≡ in_set geometry.sets s lines
      go true has = refl
      go false true = miss-other lines s apart
      go false false = refl
