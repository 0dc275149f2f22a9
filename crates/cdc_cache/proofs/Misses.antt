-- What a miss leaves of the lines of its set.
use Rattle.std.proofs.Common.{◌≡◌, ℕ, zero, suc, ◌+◌, ◌/◌, ◌<◌, ◌≤◌, List, [], ◌∷◌, ◌++◌, length, set, drop, refl, sym, ◌∙◌, ap, arith, length-append, true, false}
use Rattle.std.specs.Prelude.{Some, None, slice_get, nat_lt}
use Rattle.std.proofs.lemmas.Bool.Decides.{nat_tests}
use Rattle.std.proofs.lemmas.List.{set_at}
use Rattle.cdc_scheme.specs.declared.scheme.Scheme.{Ghosts}
use Rattle.cdc_cache.specs.declared.line.Line.{Line}
use Rattle.cdc_cache.specs.declared.line.Words.{Words}
use Rattle.cdc_cache.specs.Lines.{look_up, replaced, refilled, no_words}
use Rattle.cdc_cache.specs.Sets.{IsAt, set_room, set_after_miss}
use Rattle.cdc_cache.proofs.Places.{look_up_at, replaced_at}

module _ {W : Type 0} where
  pub room_full : (ways : ℕ) (lines : List (Line W)) → ways ≤ length lines → set_room ways lines ≡ drop 1 lines
  room_full ways lines full = let test : nat_lt (length lines) ways ≡ false = grind (arith, nat_tests) in rw test refl

  pub room_left : (ways : ℕ) (lines : List (Line W)) → length lines < ways → set_room ways lines ≡ lines
  room_left ways lines left = let test : nat_lt (length lines) ways ≡ true = grind (arith, nat_tests) in rw test refl

  pub line_at : (n : ℕ) (ls : List (Line W)) (i : ℕ) → IsAt n ls i → (l : Line W) × (slice_get ls i ≡ Some l)
  line_at n [] i at = absurd at
  line_at n (l ∷ ls) zero at = (l, refl)
  line_at n (l ∷ ls) (suc i) at = line_at n ls i at.1

  pub last_line : (front : List (Line W)) (l : Line W) (i : ℕ) → i ≡ length front → slice_get (front ++ l ∷ []) i ≡ Some l
  last_line [] l zero is = refl
  last_line [] l (suc i) is = absurd (omega (arith, is))
  last_line (k ∷ front) l zero is = absurd (omega (arith, is))
  last_line (k ∷ front) l (suc i) is = last_line front l i (omega (arith, is))

module _ {S W T : Type 0} (scheme : Ghosts S W T) (state : T) (memory : Words) (words ways x : ℕ) where
  pub missed_at : (lines : List (Line W)) (i : ℕ) (l : Line W) → IsAt (x / words) lines i → slice_get lines i ≡ Some l → set_after_miss scheme state memory words ways lines x ≡ set lines i (refilled scheme state memory words x l)
  missed_at lines i l at got =
      let there : look_up (x / words) lines ≡ Some l = look_up_at (x / words) lines i at ∙ got in
      let is : set_after_miss scheme state memory words ways lines x ≡ replaced (x / words) (refilled scheme state memory words x l) lines = rw there refl in
      is ∙ replaced_at (x / words) (refilled scheme state memory words x l) lines i at

  pub missed_none : (lines after : List (Line W)) (i : ℕ) → look_up (x / words) lines ≡ None → after ≡ set_room ways lines ++ no_words words (x / words) ∷ [] → i + 1 ≡ length after
      → set after i (refilled scheme state memory words x (no_words words (x / words))) ≡ set_after_miss scheme state memory words ways lines x
  missed_none lines after i none room last =
      let line = refilled scheme state memory words x (no_words words (x / words)) in
      let place : length (set_room ways lines) ≡ i = omega (arith, last, ap length room, length-append (set_room ways lines) (no_words words (x / words) ∷ [])) in
      let is : set_after_miss scheme state memory words ways lines x ≡ set_room ways lines ++ line ∷ [] = rw none refl in
      ap (λ l. set l i line) room ∙ set_at (set_room ways lines) (no_words words (x / words)) [] line i place ∙ sym is
