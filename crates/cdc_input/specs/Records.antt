-- The records of an input file.
use Rattle.std.specs.Prelude.{◌==◌, ◌||◌, ℕ, Bool, true, false, List, [], ◌∷◌, map, filter, ℤ, FitsSigned}
use Rattle.std.specs.Int.{w64}
use Rattle.std.specs.List.{slice_split}
use Rattle.std.specs.Str.Lines.{lines}
use Rattle.std.specs.Str.Parse.{IsNumeral, without_leading_sign, signed_digits_value}

-- a space, a tab or a comma
abbrev pub is_separator : ℕ → Bool
is_separator b = (b == 32) || (b == 9) || (b == 44)

abbrev pub has_byte : List ℕ → Bool
has_byte [] = false
has_byte (b ∷ more) = true

-- the runs of a line: its parts between blanks and commas that have a byte
abbrev pub runs : List ℕ → List (List ℕ)
runs line = filter has_byte (slice_split is_separator line)

-- the number that a sign and digits denote
abbrev pub number_of : List ℕ → ℤ
number_of run = signed_digits_value 10 run

-- A sign or none, then one digit or more, and the number lies from -2 ^ 63 to 2 ^ 63 - 1.
pub record IsValue (run : List ℕ) : Type 0 where
  pub digits : IsNumeral 10 (without_leading_sign run)
  pub fits : FitsSigned w64 (number_of run)

-- what the runs of a line denote
abbrev pub values_of : List ℕ → List ℤ
values_of line = map number_of (runs line)

-- A line ends by LF or by CR LF, and a last line without an end counts where it is not empty.
abbrev pub records_of : List ℕ → List (List ℤ)
records_of bytes = map values_of (lines bytes)
