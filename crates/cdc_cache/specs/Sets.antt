-- One set of a cache.
use Rattle.std.specs.Prelude.{◌≡◌, ◌≢◌, ℕ, zero, suc, ◌/◌, ◌++◌, List, [], ◌∷◌, length, take, drop, slice_get, Option, Some, None, is_none, is_some, not, ◌&&◌, nat_lt, if◌then◌else◌, All}
use Rattle.cdc_prog.specs.declared.program.Mark.{Mark}
use Rattle.cdc_sched.specs.declared.header.Geometry.{Geometry}
use Rattle.cdc_scheme.specs.declared.scheme.Scheme.{Ghosts}
use Rattle.cdc_fabric.specs.declared.counts.Access.{Access}
use Rattle.cdc_fabric.specs.declared.counts.Access.TheVariants.{Miss}
use Rattle.cdc_cache.specs.declared.line.Line.{Line}
use Rattle.cdc_cache.specs.declared.line.Words.{Words}
use Rattle.cdc_cache.specs.declared.set.Set.{Set}
use Rattle.cdc_cache.specs.Lines.{look_up, in_set, copy_in, replaced, refilled, no_words, served, hit_of, after_boundary, lost_count}

-- its lines in order of filling
abbrev pub set_lines : {W : Type 0} → Set W → List (Line W)
set_lines set = take set.used set.lines.items

-- it has places for so many lines of so many words
pub record IsSized {W : Type 0} (words ways : ℕ) (set : Set W) : Type 0 where
  pub ways_are : length set.lines.items ≡ ways
  pub words_are : All (λ l. length l.words ≡ words) set.lines.items

-- each set has its lines in the order of the one list
abbrev pub AreSets : {W : Type 0} → Geometry → List (Set W) → List (Line W) → Type 0
AreSets {W} geometry sets lines = (s : ℕ) (set : Set W) → slice_get sets s ≡ Some set → (set_lines set ≡ in_set geometry.sets s lines) × IsSized geometry.words geometry.ways set

-- a full set without its first line
abbrev pub set_room : {W : Type 0} → ℕ → List (Line W) → List (Line W)
set_room ways lines = if nat_lt (length lines) ways then lines else drop 1 lines

-- the line with a number is in place i, and in none before
abbrev pub IsAt : {W : Type 0} → ℕ → List (Line W) → ℕ → Type 0
IsAt n [] i = ⊥
IsAt n (l ∷ ls) zero = l.number ≡ n
IsAt n (l ∷ ls) (suc i) = (l.number ≢ n) × IsAt n ls i

-- the place of the line with a number, or nothing where there is no such line
abbrev pub IsPlace : {W : Type 0} → ℕ → List (Line W) → Option ℕ → Type 0
IsPlace n lines None = look_up n lines ≡ None
IsPlace n lines (Some i) = IsAt n lines i

module _ {S W T : Type 0} (scheme : Ghosts S W T) (state : T) (memory : Words) where
  -- a miss of a word of this set
  abbrev pub set_after_miss : (words ways : ℕ) → List (Line W) → ℕ → List (Line W)
  set_after_miss words ways lines x = by (look_up (x / words) lines)
    where
      by : Option (Line W) → List (Line W)
      by None = set_room ways lines ++ refilled scheme state memory words x (no_words words (x / words)) ∷ []
      by (Some l) = replaced (x / words) (refilled scheme state memory words x l) lines

  -- what a read of a word of this set is
  abbrev pub set_access : (words ways : ℕ) → List (Line W) → ℕ → Mark → Access
  set_access words ways lines x mark =
      if is_some (served scheme state memory x mark (copy_in words lines x)) then hit_of mark else Miss (is_none (look_up (x / words) lines) && not (nat_lt (length lines) ways))

  abbrev pub set_after_read : (words ways : ℕ) → List (Line W) → ℕ → Mark → List (Line W)
  set_after_read words ways lines x mark = if is_some (served scheme state memory x mark (copy_in words lines x)) then lines else set_after_miss words ways lines x

  -- each set past a boundary
  abbrev pub AreKept : ℕ → List ℕ → List (Set W) → List (Set W) → Type 0
  AreKept words written old new =
      (s : ℕ) (after : Set W) → slice_get new s ≡ Some after →
      (before : Set W) × (slice_get old s ≡ Some before) × (set_lines after ≡ after_boundary scheme state memory words written (set_lines before)) × ((ways : ℕ) → IsSized words ways before → IsSized words ways after)

  abbrev pub lost_in_set : ℕ → List ℕ → Set W → ℕ
  lost_in_set words written set = lost_count scheme state memory words written (set_lines set)
