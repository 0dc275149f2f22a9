-- The lines of a schedule, their words and their numbers.
use Rattle.std.specs.Prelude.{ℕ, Bool, true, false, cond, not, ◌==◌, ◌&&◌, ◌||◌, nat_le, nat_lt, ◌^◌, List, [], ◌∷◌, length, filter, slice_index, Option, Some, None}
use Rattle.std.specs.Char.{is_digit}
use Rattle.std.specs.List.{slice_split, list_all}
use Rattle.std.specs.Str.Parse.{digits_value}

-- a space or a tab
abbrev pub is_blank : ℕ → Bool
is_blank b = (b == 32) || (b == 9)

-- a printable ASCII character or a blank
abbrev pub is_text : ℕ → Bool
is_text b = (nat_le 32 b && nat_le b 126) || (b == 9)

abbrev pub has_byte : List ℕ → Bool
has_byte [] = false
has_byte (b ∷ more) = true

-- the parts of a line between blanks that have a byte
abbrev pub words : List ℕ → List (List ℕ)
words line = filter has_byte (slice_split is_blank line)

-- at most 255 bytes, each of them text
abbrev pub is_plain : List ℕ → Bool
is_plain line = nat_le (length line) 255 && list_all is_text line

-- no words, or a first one that begins with `#`
abbrev pub is_comment : List (List ℕ) → Bool
is_comment [] = true
is_comment (word ∷ more) = slice_index word 0 == 35

-- A line that says nothing. One that is not plain is never such a line.
abbrev pub is_skipped : List ℕ → Bool
is_skipped line = is_plain line && is_comment (words line)

abbrev pub is_kept : List ℕ → Bool
is_kept line = not (is_skipped line)

-- the words of a line that is plain; another has none that could fit a place
abbrev pub read_words : List ℕ → List (List ℕ)
read_words line = cond (is_plain line) (words line) []

-- 1 to 20 digits
abbrev pub is_numeral : List ℕ → Bool
is_numeral word = nat_le 1 (length word) && nat_le (length word) 20 && list_all (λ b. is_digit b 10) word

-- a number that has a limit
abbrev pub below : ℕ → ℕ → Option ℕ
below limit n = cond (nat_lt n limit) (Some n) None

-- the number that a word writes
abbrev pub number_of : List ℕ → Option ℕ
number_of word = cond (is_numeral word) (below (2 ^ 64) (digits_value 10 word)) None
