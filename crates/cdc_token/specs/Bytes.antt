-- Classes of bytes (ISO/IEC 1539:1991, section 3.1).
use Rattle.std.specs.Prelude.{◌≡◌, ℕ, Bool, true, ◌||◌, ◌==◌, List, [], ◌∷◌}
use Rattle.std.specs.Char.{is_ascii_alphanumeric}
use Rattle.std.specs.Int.{is_in_range}

-- space or tab
abbrev pub is_blank : ℕ → Bool
is_blank b = b == 32 || b == 9

-- a letter, a digit or `_`
abbrev pub is_word : ℕ → Bool
is_word b = is_ascii_alphanumeric b || b == 95

-- `'` or `"`
abbrev pub is_quote : ℕ → Bool
is_quote b = b == 39 || b == 34

-- printable ASCII or tab
abbrev pub is_shown : ℕ → Bool
is_shown b = is_in_range 32 126 b || b == 9

abbrev pub BeginsWith : ℕ → List ℕ → Type 0
BeginsWith q [] = ⊥
BeginsWith q (b ∷ z) = b ≡ q

abbrev pub BeginsQuote : List ℕ → Type 0
BeginsQuote [] = ⊥
BeginsQuote (b ∷ z) = is_quote b ≡ true
