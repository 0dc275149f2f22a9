-- How the symbols are written (ISO/IEC 1539:1991, sections 3.2.3 and 3.2.5).
use Rattle.std.specs.Prelude.{ℕ, if◌then◌else◌, List, [], ◌∷◌, codes, Option, Some, None}
use Rattle.std.specs.Str.{str_eq_ignore_ascii_case}
use Rattle.cdc_token.specs.declared.token.Symbol as symbols
use Rattle.cdc_token.specs.declared.token.Symbol.TheVariants.{LeftParen, RightParen, Comma, Colon, DoubleColon, Assign, Plus, Minus, Star, Slash, Eq, Ne, Lt, Le, Gt, Ge, Not, And, Or}

-- a spelling, and the symbol that it writes
abbrev pub Spelling : Type 0
Spelling = List ℕ × symbols.Symbol

-- each spelling, letters in upper case; the longer ones come first
unfoldable pub spellings : List Spelling
spellings =
    (codes ".NOT.", Not) ∷ (codes ".AND.", And)
    ∷ (codes ".EQ.", Eq) ∷ (codes ".NE.", Ne) ∷ (codes ".LT.", Lt) ∷ (codes ".LE.", Le) ∷ (codes ".GT.", Gt) ∷ (codes ".GE.", Ge) ∷ (codes ".OR.", Or)
    ∷ (codes "==", Eq) ∷ (codes "/=", Ne) ∷ (codes "<=", Le) ∷ (codes ">=", Ge) ∷ (codes "::", DoubleColon)
    ∷ (codes "<", Lt) ∷ (codes ">", Gt) ∷ (codes "=", Assign) ∷ (codes ":", Colon)
    ∷ (codes "(", LeftParen) ∷ (codes ")", RightParen) ∷ (codes ",", Comma)
    ∷ (codes "+", Plus) ∷ (codes "-", Minus) ∷ (codes "*", Star) ∷ (codes "/", Slash)
    ∷ []

-- what the first of these spellings that the bytes are writes
abbrev pub named : List ℕ → List Spelling → Option symbols.Symbol
named front [] = None
named front (s ∷ more) = if str_eq_ignore_ascii_case s.0 front then Some s.1 else named front more

-- the symbol that the bytes write, in any letter case
abbrev pub symbol : List ℕ → Option symbols.Symbol
symbol front = named front spellings
