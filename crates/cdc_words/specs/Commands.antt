-- The command table: what the words of a command line ask for.
use Rattle.std.specs.Prelude.{ℕ, ◌&&◌, nat_le, nat_lt, Bool, false, not, ◌==◌, List, [], ◌∷◌, length, Option, Some, None, option_and_then, option_map, find, codes, if◌then◌else◌}
use Rattle.std.specs.List.{list_all}
use Rattle.std.specs.Str.{bytes_eq}
use Rattle.std.specs.Char.{digit_value}
use Rattle.std.specs.Str.Parse.{digits_value}

-- a command by its words
pub data Command : Type 0 where
  Run : (program input schedule : List ℕ) → Command
  Check : (program : List ℕ) → Command
  Marks : (program : List ℕ) → Command
  Code : (program : List ℕ) → Command
  Seq : (program input : List ℕ) → Command
  Bench : (scale : ℕ) → Command

-- no command has a word that is empty or begins with `-`
abbrev pub is_word : List ℕ → Bool
is_word [] = false
is_word (b ∷ word) = not (b == 45)

-- one decimal digit or more, which write a number from 1 to 1000
abbrev pub is_scale : List ℕ → Bool
is_scale word = nat_lt 0 (length word) && (list_all (λ b. nat_lt (digit_value b) 10) word && (nat_le 1 (digits_value 10 word) && nat_le (digits_value 10 word) 1000))

abbrev pub scale_of : List ℕ → Option ℕ
scale_of word = if is_scale word then Some (digits_value 10 word) else None

-- what so many words behind that of a command ask for
abbrev pub Asks : Type 0
Asks = List (List ℕ) → Option Command

abbrev pub one : (List ℕ → Option Command) → Asks
one command (a ∷ []) = command a
one command words = None

abbrev pub two : (List ℕ → List ℕ → Command) → Asks
two command (a ∷ b ∷ []) = Some (command a b)
two command words = None

abbrev pub three : (List ℕ → List ℕ → List ℕ → Command) → Asks
three command (a ∷ b ∷ c ∷ []) = Some (command a b c)
three command words = None

abbrev pub scaled : List ℕ → Option Command
scaled word = option_map Bench (scale_of word)

-- the table: the word of each command, and the words behind it
abbrev pub table : List (List ℕ × Asks)
table =
    (codes "run", three Run)
    ∷ (codes "check", one (λ program. Some (Check program)))
    ∷ (codes "marks", one (λ program. Some (Marks program)))
    ∷ (codes "code", one (λ program. Some (Code program)))
    ∷ (codes "seq", two Seq)
    ∷ (codes "bench", one scaled) ∷ []

-- the line of the table that the words are, if they are one
abbrev pub command_of : List (List ℕ) → Option Command
command_of [] = None
command_of (verb ∷ words) =
    if list_all is_word (verb ∷ words) then option_and_then (λ line. line.1 words) (find (λ line. bytes_eq line.0 verb) table) else None
