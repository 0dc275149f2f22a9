-- What is taken of a source, piece by piece.
use Rattle.std.specs.Prelude.{◌≡◌, ◌<◌, ◌⊎◌, ℕ, Bool, ◌||◌, nat_lt, nat_le, if◌then◌else◌, Result, Ok, Err, List, [], ◌++◌}
use Rattle.cdc_token.specs.declared.fault.Fault.{Fault}
use Rattle.cdc_token.specs.declared.fault.Fault.TheVariants.{BadByte, OpenText, NameLong, NumberWide, LineLong}
use Rattle.cdc_token.specs.declared.fault.LineRefusal.{LineRefusal}
use Rattle.cdc_token.specs.declared.fault.LineRefusal.TheVariants.{At, Memory}
use Rattle.cdc_token.specs.declared.token.LexRefusal.{LexRefusal}
use Rattle.cdc_token.specs.declared.token.LexRefusal.TheVariants as refused
use Rattle.cdc_token.specs.declared.gathered.Gathered.{Gathered}
use Rattle.cdc_base.specs.declared.place.Place.{Place}
use Rattle.cdc_token.specs.Lines.{Line}
use Rattle.cdc_token.specs.Pieces.{Piece, Leads, goes_on}
use Rattle.cdc_token.specs.Tokens.{Item}
use Rattle.cdc_token.specs.Refusals.{Seen, Holds, IsBad, IsOpenText}
use Rattle.cdc_token.specs.Logical.{line_items, ending, gather}

-- the logical lines that are there, with those of the items to come
abbrev pub whole : Gathered → List Item → List Line
whole g more = g.done ++ gather g.begun more

-- the items were taken
abbrev pub Takes : Gathered → Gathered → List Item → Type 0
Takes old new taken = (more : List Item) → whole new more ≡ whole old (taken ++ more)

-- the line has these pieces and no fault among them, and they were taken
pub record TakesPieces (was : Bool) (line : List ℕ) (number : ℕ) (old new : Gathered) (on : Bool) : Type 0 where
  pub pieces : List Piece
  pub leads : Leads pieces line []
  pub none : (d : Fault) (c : ℕ) → Seen 1 was line d c → ⊥
  pub open_is : on ≡ goes_on was pieces
  pub taken : Takes old new (line_items number 1 pieces)

-- the line has these pieces and no fault, and they and its end were taken
pub record TakesLine (was : Bool) (line : List ℕ) (number : ℕ) (old new : Gathered) (on : Bool) : Type 0 where
  pub pieces : List Piece
  pub leads : Leads pieces line []
  pub none : (d : Fault) (c : ℕ) → Holds was line d c → ⊥
  pub open_is : on ≡ goes_on was pieces
  pub taken : Takes old new (line_items number 1 pieces ++ ending on)

-- the first fault that is seen among the pieces of a line
pub record FirstSeen (was : Bool) (line : List ℕ) (d : Fault) (c : ℕ) : Type 0 where
  pub seen : Seen 1 was line d c
  pub least : (e : Fault) (x : ℕ) → Seen 1 was line e x → (c < x) ⊎ ((c ≡ x) × (d ≡ e))

-- the fault where no piece begins
abbrev pub IsStop : List ℕ → Fault → Type 0
IsStop z BadByte = IsBad z
IsStop z OpenText = IsOpenText z
IsStop z NameLong = ⊥
IsStop z NumberWide = ⊥
IsStop z LineLong = ⊥

abbrev pub Sees : Bool → List ℕ → LineRefusal → Type 0
Sees was line Memory = Unit {0}
Sees was line (At d c) = FirstSeen was line d c

-- the first fault of a line
pub record FirstHeld (was : Bool) (line : List ℕ) (d : Fault) (c : ℕ) : Type 0 where
  pub holds : Holds was line d c
  pub least : (e : Fault) (x : ℕ) → Holds was line e x → (c < x) ⊎ ((c ≡ x) × ((d ≡ LineLong) ⊎ (d ≡ e)))

abbrev pub Fails : Bool → List ℕ → LineRefusal → Type 0
Fails was line Memory = Unit {0}
Fails was line (At d c) = FirstHeld was line d c

-- a line of more than 132 bytes is refused, if not by a fault before its 133rd
abbrev pub with_limit : ℕ → Result Bool LineRefusal → Result Bool LineRefusal
with_limit n (Err Memory) = Err Memory
with_limit n (Err (At d c)) = if nat_lt c 133 || nat_le n 132 then Err (At d c) else Err (At LineLong 133)
with_limit n (Ok on) = if nat_le n 132 then Ok on else Err (At LineLong 133)

abbrev pub refusal : Fault → Place → LexRefusal
refusal BadByte place = refused.BadByte place
refusal OpenText place = refused.OpenText place
refusal NameLong place = refused.NameLong place
refusal NumberWide place = refused.NumberWide place
refusal LineLong place = refused.LineLong place

abbrev pub in_line : ℕ → LineRefusal → LexRefusal
in_line n Memory = refused.Memory
in_line n (At d c) = refusal d (record { line = n; column = c })
