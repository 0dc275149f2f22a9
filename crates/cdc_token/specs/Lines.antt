-- Logical lines, and how one list of tokens is cut into them.
use Rattle.std.specs.Prelude.{◌≡◌, ◌≤◌, ℕ, List, [], ◌∷◌, length, take, drop}
use Rattle.cdc_token.specs.declared.token.Lexed.{Lexed}
use Rattle.cdc_token.specs.declared.lines.Line as seen

-- a logical line: its tokens, at least one, and the line of the first
pub record Line : Type 0 where
  pub line : ℕ
  pub tokens : List Lexed

-- the line that is seen
abbrev pub line_of : seen.Line → Line
line_of l = record { line = l.line; tokens = l.tokens.now }

-- the lines that have ended, and the tokens of the one that is begun
pub record Parts : Type 0 where
  pub done : List Line
  pub begun : List Lexed

-- a logical line has the line of its first token; one without tokens is dropped
abbrev pub closed : List Lexed → List Line → List Line
closed [] more = more
closed (t ∷ ts) more = record { line = t.place.line; tokens = t ∷ ts } ∷ more

-- each line has so many of the tokens
abbrev pub cut : List ℕ → List Lexed → List Line
cut [] ts = []
cut (n ∷ ns) ts = closed (take n ts) (cut ns (drop n ts))

-- the tokens behind these lines
abbrev pub behind : List ℕ → List Lexed → List Lexed
behind [] ts = ts
behind (n ∷ ns) ts = behind ns (drop n ts)

-- each line has a token, and behind the lines are k tokens
abbrev pub Leaves : List ℕ → ℕ → List Lexed → Type 0
Leaves [] k ts = k ≡ length ts
Leaves (n ∷ ns) k ts = (1 ≤ n) × (n ≤ length ts) × Leaves ns k (drop n ts)
