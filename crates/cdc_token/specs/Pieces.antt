-- What the bytes of a line are: pieces, each the longest that begins at its place (ISO/IEC 1539:1991, sections 3.2 and 3.3.1).
use Rattle.std.specs.Prelude.{◌≡◌, ◌≤◌, ℕ, ◌+◌, Bool, true, false, ◌&&◌, ◌||◌, if◌then◌else◌, ◌==◌, List, [], ◌∷◌, ◌++◌, length, Some}
use Rattle.std.specs.Char.{is_ascii_digit, is_ascii_alphabetic}
use Rattle.std.specs.List.{AllByRecursion}
use Rattle.cdc_token.specs.declared.piece.Kind.{Kind}
use Rattle.cdc_token.specs.declared.piece.Kind.TheVariants.{Blank, Comment, Text, Name, Number, Symbol, Mark, Semicolon}
use Rattle.cdc_token.specs.declared.token.Symbol as symbols
use Rattle.cdc_token.specs.Bytes.{is_blank, is_word, is_quote, BeginsWith}
use Rattle.cdc_token.specs.Symbols.{symbol}

-- how a text is written between its quotes: each of these quotes in it twice
abbrev pub doubled : ℕ → List ℕ → List ℕ
doubled q [] = []
doubled q (b ∷ s) = if b == q then q ∷ q ∷ doubled q s else b ∷ doubled q s

-- the bytes are a piece of this kind
abbrev pub Is : Kind → List ℕ → Type 0
Is k [] = ⊥
Is Blank (b ∷ z) = (is_blank b ≡ true) × (z ≡ [])
Is Comment (b ∷ z) = b ≡ 33
Is Text (b ∷ z) = (is_quote b ≡ true) × (s : List ℕ) × (z ≡ doubled b s ++ b ∷ [])
Is Name (b ∷ z) = (is_ascii_alphabetic b ≡ true) × AllByRecursion (λ c. is_word c ≡ true) z
Is Number (b ∷ z) = (is_ascii_digit b ≡ true) × AllByRecursion (λ c. is_ascii_digit c ≡ true) z
Is Symbol (b ∷ z) = (y : symbols.Symbol) × (symbol (b ∷ z) ≡ Some y)
Is Mark (b ∷ z) = (b ≡ 38) × (z ≡ [])
Is Semicolon (b ∷ z) = (b ≡ 59) × (z ≡ [])

-- the same quote does not follow the text
abbrev pub EndsText : List ℕ → List ℕ → Type 0
EndsText [] rest = Unit {0}
EndsText (q ∷ z) rest = BeginsWith q rest → ⊥

-- a quote that has the same one behind it ends no text
abbrev pub MayEnd : Kind → List ℕ → List ℕ → Type 0
MayEnd Text front rest = EndsText front rest
MayEnd Blank front rest = Unit {0}
MayEnd Comment front rest = Unit {0}
MayEnd Name front rest = Unit {0}
MayEnd Number front rest = Unit {0}
MayEnd Symbol front rest = Unit {0}
MayEnd Mark front rest = Unit {0}
MayEnd Semicolon front rest = Unit {0}

-- the longest piece that begins here, and what follows it
pub record IsPiece (k : Kind) (front rest : List ℕ) : Type 0 where
  pub kind : Is k front
  pub ends : MayEnd k front rest
  pub longest : (d : Kind) (f r : List ℕ) → f ++ r ≡ front ++ rest → Is d f → MayEnd d f r → length f ≤ length front

-- no piece begins here
abbrev pub NoPiece : List ℕ → Type 0
NoPiece z = (d : Kind) (f r : List ℕ) → f ++ r ≡ z → Is d f → MayEnd d f r → ⊥

abbrev pub Piece : Type 0
Piece = Kind × List ℕ

-- the pieces, one after another, lead from `z` to `rest`
abbrev pub Leads : List Piece → List ℕ → List ℕ → Type 0
Leads [] z rest = z ≡ rest
Leads (p ∷ ps) z rest = (more : List ℕ) × (z ≡ p.1 ++ more) × IsPiece p.0 p.1 more × Leads ps more rest

-- how many bytes they have
abbrev pub size : List Piece → ℕ
size [] = 0
size (p ∷ ps) = length p.1 + size ps

-- blanks, and then nothing or a comment
abbrev pub says_nothing : List ℕ → Bool
says_nothing [] = true
says_nothing (b ∷ z) = b == 33 || (is_blank b && says_nothing z)

-- the flag stays through blanks
abbrev pub still_first : Kind → Bool → Bool
still_first Blank was = was
still_first Comment was = false
still_first Text was = false
still_first Name was = false
still_first Number was = false
still_first Symbol was = false
still_first Mark was = false
still_first Semicolon was = false

-- only blanks stand before, in a line that is continued to
abbrev pub stays_first : Bool → List Piece → Bool
stays_first was [] = was
stays_first was (p ∷ ps) = stays_first (still_first p.0 was) ps

-- as far as this piece
abbrev pub still_open : Kind → Bool → Bool
still_open Blank was = was
still_open Comment was = was
still_open Mark was = true
still_open Semicolon was = false
still_open Text was = false
still_open Name was = false
still_open Number was = false
still_open Symbol was = false

-- The line is continued: the last of its pieces, blanks and comment aside, is a mark; where there is none, what was before.
abbrev pub goes_on : Bool → List Piece → Bool
goes_on was [] = was
goes_on was (p ∷ ps) = goes_on (still_open p.0 was) ps
