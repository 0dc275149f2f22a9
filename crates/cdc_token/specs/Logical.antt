-- The logical lines of a source.
use Rattle.std.specs.Prelude.{◌≡◌, ℕ, ◌+◌, Bool, false, if◌then◌else◌, List, [], ◌∷◌, ◌++◌, length, Some, None}
use Rattle.std.specs.List.{AllZip}
use Rattle.std.specs.Str.Lines.{lines}
use Rattle.cdc_token.specs.declared.token.Lexed.{Lexed}
use Rattle.cdc_token.specs.Lines.{Line, closed}
use Rattle.cdc_token.specs.Pieces.{Piece, Leads, goes_on}
use Rattle.cdc_token.specs.Tokens.{Item, meaning, items_of}
use Rattle.cdc_token.specs.Refusals.{NoFault}

-- the tokens of pieces from this column on, and the ends of logical lines among them
abbrev pub line_items : ℕ → ℕ → List Piece → List Item
line_items line column [] = []
line_items line column (p ∷ ps) =
    items_of (record { line = line; column = column }) (meaning p.0 p.1) ++ line_items line (column + length p.1) ps

-- the end of a line that is not continued
abbrev pub ending : Bool → List Item
ending on = if on then [] else None ∷ []

-- the items of the lines from number `line` on; the flag: the first is continued to
abbrev pub items : ℕ → Bool → List (List Piece) → List Item
items line was [] = []
items line was (ps ∷ more) = line_items line 1 ps ++ ending (goes_on was ps) ++ items (line + 1) (goes_on was ps) more

-- items cut at the ends of logical lines, after the tokens of the one that is begun
abbrev pub gather : List Lexed → List Item → List Line
gather begun [] = closed begun []
gather begun (None ∷ more) = closed begun (gather [] more)
gather begun (Some t ∷ more) = gather (begun ++ t ∷ []) more

-- the source has these pieces in its physical lines, which end at LF or CR LF, and no fault, and these are its logical lines
pub record AreLogicalLines (source : List ℕ) (logical : List Line) : Type 0 where
  pub pieces : List (List Piece)
  pub cut : AllZip (λ ps z. Leads ps z []) pieces (lines source)
  pub sound : NoFault source
  pub gathered : logical ≡ gather [] (items 1 false pieces)
