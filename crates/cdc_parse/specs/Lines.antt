-- The statements of logical lines, and why lines have none.
use Rattle.std.specs.Prelude.{◌≡◌, ℕ, ◌<◌, ◌≤◌, List, [], ◌∷◌, ◌++◌, length, map, Some, Result, Ok, Err}
use Rattle.cdc_base.specs.declared.place.Place.{Place}
use Rattle.cdc_token.specs.declared.token.Lexed.{Lexed}
use Rattle.cdc_token.specs.Lines.{Line}
use Rattle.cdc_tree.specs.declared.form.Statement.{Statement}
use Rattle.cdc_tree.specs.declared.refusal.ParseRefusal.{ParseRefusal}
use Rattle.cdc_tree.specs.declared.refusal.ParseRefusal.TheVariants.{NotAStatement, Depth, Nesting, Memory}
use Rattle.cdc_parse.specs.Depth.{deepest, IsDeep}
use Rattle.cdc_tree.specs.Forms.{PStatement, statement}
use Rattle.cdc_tree.specs.Order.{Each, Ascending}
use Rattle.cdc_parse.specs.Forms.{place_at}
use Rattle.cdc_parse.specs.Stands.{StandsFor}

-- the numbers of logical lines ascend
abbrev pub Ascend : List Line → Type 0
Ascend = Ascending (λ l. l.line)

-- the number of a line is the line of its first token
pub record IsNumbered (line : Line) : Type 0 where
  pub place : Place
  pub first : place_at line.tokens ≡ Some place
  pub number_is : place.line ≡ line.line

-- the line is within the limits of depth
pub record IsWithin (tokens : List Lexed) : Type 0 where
  pub parentheses : deepest 0 tokens ≤ 64
  pub tokens_few : length tokens ≤ 4096

-- no statement stands for the tokens
abbrev pub HasNone : List Lexed → Type 0
HasNone tokens = (s : PStatement) → StandsFor s tokens → ⊥

-- the line is within the limits, and a statement stands for it
pub record IsGood (line : Line) : Type 0 where
  pub within : IsWithin line.tokens
  pub statement : PStatement
  pub stands : StandsFor statement line.tokens

-- each statement stands for its line, in order
abbrev pub StandAll : List PStatement → List Line → Type 0
StandAll [] [] = Unit {0}
StandAll [] (l ∷ ls) = ⊥
StandAll (s ∷ ss) [] = ⊥
StandAll (s ∷ ss) (l ∷ ls) = IsWithin l.tokens × StandsFor s l.tokens × StandAll ss ls

-- a line with this number
pub record SomeLine (lines : List Line) (number : ℕ) (P : List Lexed → Type 0) : Type 0 where
  pub before : List Line
  pub line : Line
  pub after : List Line
  pub parts : lines ≡ before ++ (line ∷ after)
  pub number_is : line.line ≡ number
  pub holds : P line.tokens

-- Depth: a line with the number is over a limit, and each line with a lesser number is good.
pub record IsDeepAt (lines : List Line) (number : ℕ) : Type 0 where
  pub found : SomeLine lines number IsDeep
  pub least : Each (λ l. l.line < number → IsGood l) lines

-- NotAStatement: no statement stands for a line with the number, no line with the number is over a
-- limit, and each line with a lesser number is good.
pub record IsNoStatementAt (lines : List Line) (number : ℕ) : Type 0 where
  pub found : SomeLine lines number HasNone
  pub shallow : Each (λ l. l.line ≡ number → IsWithin l.tokens) lines
  pub least : Each (λ l. l.line < number → IsGood l) lines

-- What is answered for the lines. Want of memory is free.
abbrev pub AreStatements : List Line → Result (List Statement) ParseRefusal → Type 0
AreStatements lines (Ok found) = StandAll (map statement found) lines
AreStatements lines (Err (NotAStatement n)) = IsNoStatementAt lines n
AreStatements lines (Err (Depth n)) = IsDeepAt lines n
AreStatements lines (Err (Nesting n)) = ⊥
AreStatements lines (Err Memory) = Unit {0}

-- what is answered for one line
abbrev pub IsStatement : Line → Result Statement ParseRefusal → Type 0
IsStatement line (Ok s) = IsWithin line.tokens × StandsFor (statement s) line.tokens
IsStatement line (Err (NotAStatement n)) = (n ≡ line.line) × IsWithin line.tokens × HasNone line.tokens
IsStatement line (Err (Depth n)) = (n ≡ line.line) × IsDeep line.tokens
IsStatement line (Err (Nesting n)) = ⊥
IsStatement line (Err Memory) = Unit {0}

-- A line's refusal, and the one that comes first, where further lines may have the same number.
abbrev pub IsForemost : List Line → ParseRefusal → ParseRefusal → Type 0
IsForemost further (NotAStatement n) (NotAStatement m) = (m ≡ n) × Each (λ l. l.line ≡ n → IsWithin l.tokens) further
IsForemost further (NotAStatement n) (Depth m) = (m ≡ n) × SomeLine further n IsDeep
IsForemost further (NotAStatement n) (Nesting m) = ⊥
IsForemost further (NotAStatement n) Memory = ⊥
IsForemost further (Depth n) r = r ≡ Depth n
IsForemost further (Nesting n) r = r ≡ Nesting n
IsForemost further Memory r = r ≡ Memory
