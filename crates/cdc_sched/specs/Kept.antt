-- The lines of a file, as far as they were read, and the next one that is not skipped.
use Rattle.std.specs.Prelude.{◌≡◌, ◌⊎◌, ℕ, ◌+◌, ◌<◌, false, List, [], ◌∷◌, ◌++◌, length, filter}
use Rattle.std.specs.Str.Lines.{lines}
use Rattle.cdc_sched.specs.declared.kept.Kept.{Kept}
use Rattle.cdc_sched.specs.Lines.{is_skipped, is_kept}

-- whole lines: more bytes behind them begin a line of their own
abbrev pub IsWhole : List ℕ → Type 0
IsWhole front = (more : List ℕ) → lines (front ++ more) ≡ lines front ++ lines more

-- the bytes begin with these lines, and this is left
pub record IsCut (bytes front rest : List ℕ) : Type 0 where
  pub split : bytes ≡ front ++ rest
  pub whole : (rest ≡ []) ⊎ IsWhole front

-- the bytes begin with this line, and this is left
pub record IsCutLine (bytes line rest : List ℕ) : Type 0 where
  pub front : List ℕ
  pub cut : IsCut bytes front rest
  pub alone : lines front ≡ line ∷ []

-- none of the lines is kept
abbrev pub AreSkipped : List (List ℕ) → Type 0
AreSkipped lines = filter is_kept lines ≡ []

-- the first line that is kept of bytes whose first line has this number
pub record IsNextKept (bytes : List ℕ) (number : ℕ) (kept : Kept) : Type 0 where
  pub front : List ℕ
  pub cut : IsCut bytes front kept.after.now
  pub skipped : List (List ℕ)
  pub lines_are : lines front ≡ skipped ++ kept.line.now ∷ []
  pub none : AreSkipped skipped
  pub is_kept : is_skipped kept.line.now ≡ false
  pub number_is : kept.number ≡ number + length skipped
  pub size : kept.number + length kept.after.now < number + length bytes

-- no line is kept, and this is the number behind the last
pub record HasNoKept (bytes : List ℕ) (number after : ℕ) : Type 0 where
  pub none : AreSkipped (lines bytes)
  pub after_is : after ≡ number + length (lines bytes)
