-- The first words of a line.
use Rattle.std.specs.Prelude.{◌≡◌, ℕ, List, [], ◌∷◌}
use Rattle.cdc_sched.specs.declared.phrase.Phrase.{Phrase}
use Rattle.cdc_sched.specs.declared.phrase.Phrase.TheVariants.{Empty, One, Two, Three, Four, Long}

-- five words or more
pub record IsLong (words : List (List ℕ)) : Type 0 where
  pub first : List ℕ
  pub second : List ℕ
  pub third : List ℕ
  pub fourth : List ℕ
  pub fifth : List ℕ
  pub more : List (List ℕ)
  pub words_are : words ≡ first ∷ second ∷ third ∷ fourth ∷ fifth ∷ more

-- the phrase has these words, up to four
abbrev pub HasWords : List (List ℕ) → Phrase → Type 0
HasWords words Empty = words ≡ []
HasWords words (One a) = words ≡ a.now ∷ []
HasWords words (Two a b) = words ≡ a.now ∷ b.now ∷ []
HasWords words (Three a b c) = words ≡ a.now ∷ b.now ∷ c.now ∷ []
HasWords words (Four a b c d) = words ≡ a.now ∷ b.now ∷ c.now ∷ d.now ∷ []
HasWords words Long = IsLong words
