-- The values of pieces, from byte to byte.
use Rattle.std.specs.Prelude.{◌≡◌, ◌<◌, ◌⊎◌, ℕ, ◌+◌, ◌-◌, ◌*◌, Bool, true, false, not, ◌&&◌, ◌==◌, List, [], ◌∷◌, ◌++◌, length}
use Rattle.cdc_token.specs.declared.piece.Kind.{Kind}
use Rattle.cdc_token.specs.declared.fault.Fault.{Fault}
use Rattle.cdc_token.specs.declared.fault.LineRefusal.{LineRefusal}
use Rattle.cdc_token.specs.declared.fault.LineRefusal.TheVariants.{At, Memory}
use Rattle.cdc_token.specs.Refusals.{Wrong}

-- the number, where the digits before write n
abbrev pub number_after : ℕ → List ℕ → ℕ
number_after n [] = n
number_after n (b ∷ z) = number_after (n * 10 + (b - 48)) z

abbrev pub kept : Bool → ℕ → List ℕ
kept true b = []
kept false b = b ∷ []

-- without the second of two quotes; the flag: this byte is one
abbrev pub halved : ℕ → Bool → List ℕ → List ℕ
halved q is_second [] = []
halved q is_second (b ∷ z) = kept is_second b ++ halved q (not is_second && b == q) z

-- the first thing that is wrong with a piece, which begins at this column
pub record FirstWrong (kind : Kind) (bytes : List ℕ) (column : ℕ) (d : Fault) (c : ℕ) : Type 0 where
  pub behind : ℕ
  pub place : c ≡ column + behind
  pub within : behind < length bytes
  pub wrong : Wrong kind bytes d behind
  pub least : (e : Fault) (j : ℕ) → Wrong kind bytes e j → (behind < j) ⊎ ((behind ≡ j) × (d ≡ e))

abbrev pub Rejects : Kind → List ℕ → ℕ → LineRefusal → Type 0
Rejects kind bytes column Memory = Unit {0}
Rejects kind bytes column (At d c) = FirstWrong kind bytes column d c

abbrev pub NothingWrong : Kind → List ℕ → Type 0
NothingWrong kind bytes = (d : Fault) (i : ℕ) → Wrong kind bytes d i → ⊥
