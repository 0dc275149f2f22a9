-- Texts of numbers and words, one after another.
use Rattle.std.specs.Prelude.{ℕ, List, [], ◌∷◌, ◌++◌, pos}
use Rattle.cdc_num.specs.Decimal.{decimal_bytes}

-- a number in decimal
abbrev pub number : ℕ → List ℕ
number n = decimal_bytes (pos n)

abbrev pub line_feed : List ℕ
line_feed = 10 ∷ []

-- texts one after another
abbrev pub joined : List (List ℕ) → List ℕ
joined [] = []
joined (text ∷ texts) = text ++ joined texts

-- texts one after another, and the line end
abbrev pub line : List (List ℕ) → List ℕ
line [] = line_feed
line (text ∷ texts) = text ++ line texts
