-- Pieces of output.
use Rattle.std.specs.Prelude.{ℕ, ◌<◌}
use Rattle.cdc_prog.specs.Process.{Piece, Text}

-- a text is one of so many
abbrev pub IsThere : (texts : ℕ) → Piece → Type 0
IsThere texts (Text k) = k < texts
IsThere texts piece = Unit {0}
