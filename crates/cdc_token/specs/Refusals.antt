-- Where a source is refused: at the least place that has a fault.
use Rattle.std.specs.Prelude.{◌≡◌, ◌<◌, ◌≤◌, ◌⊎◌, ℕ, ◌+◌, ◌^◌, Bool, false, List, [], ◌∷◌, ◌++◌, length, slice_index}
use Rattle.std.specs.Str.Parse.{digits_value}
use Rattle.std.specs.Str.Lines.{lines}
use Rattle.cdc_base.specs.declared.place.Place.{Place}
use Rattle.cdc_token.specs.declared.piece.Kind.{Kind}
use Rattle.cdc_token.specs.declared.piece.Kind.TheVariants.{Blank, Comment, Text, Name, Number, Symbol, Mark, Semicolon}
use Rattle.cdc_token.specs.declared.fault.Fault.{Fault}
use Rattle.cdc_token.specs.declared.fault.Fault.TheVariants.{BadByte, OpenText, NameLong, NumberWide, LineLong}
use Rattle.cdc_token.specs.declared.token.LexRefusal.{LexRefusal}
use Rattle.cdc_token.specs.declared.token.LexRefusal.TheVariants as refused
use Rattle.cdc_token.specs.Bytes.{is_shown, BeginsQuote}
use Rattle.cdc_token.specs.Pieces.{IsPiece, NoPiece, Piece, Leads, size, says_nothing, stays_first, goes_on}

-- bytes that begin no token, and no text either
pub record IsBad (z : List ℕ) : Type 0 where
  pub some : 0 < length z
  pub none : NoPiece z
  pub other : BeginsQuote z → ⊥

-- a text that does not end on its line
pub record IsOpenText (z : List ℕ) : Type 0 where
  pub none : NoPiece z
  pub quote : BeginsQuote z

-- a mark that is neither the first byte of a line that is continued to nor the last of its line; the flag: it may be the first
pub record IsStray (first : Bool) (z : List ℕ) : Type 0 where
  pub rest : List ℕ
  pub mark : z ≡ 38 ∷ rest
  pub late : first ≡ false
  pub early : says_nothing rest ≡ false

-- What is wrong with a piece, behind i of its bytes: a name of more than 31 characters, a number over 2^63 - 1, and in a text
-- a byte that is neither printable ASCII nor tab.
abbrev pub Wrong : Kind → List ℕ → Fault → ℕ → Type 0
Wrong Name front d i = (d ≡ NameLong) × (i ≡ 0) × (31 < length front)
Wrong Number front d i = (d ≡ NumberWide) × (i ≡ 0) × (2 ^ 63 ≤ digits_value 10 front)
Wrong Text front d i = (d ≡ BadByte) × (i < length front) × (is_shown (slice_index front i) ≡ false)
Wrong Blank front d i = ⊥
Wrong Comment front d i = ⊥
Wrong Symbol front d i = ⊥
Wrong Mark front d i = ⊥
Wrong Semicolon front d i = ⊥

-- the piece that begins here has it
pub record IsWrong (z : List ℕ) (d : Fault) (i : ℕ) : Type 0 where
  pub kind : Kind
  pub front : List ℕ
  pub rest : List ℕ
  pub here : z ≡ front ++ rest
  pub piece : IsPiece kind front rest
  pub wrong : Wrong kind front d i

-- a fault at a place where a piece should begin, or i bytes behind it in the piece
abbrev pub Here : Bool → List ℕ → Fault → ℕ → Type 0
Here first z d i =
    ((d ≡ BadByte) × (i ≡ 0) × IsBad z) ⊎ (((d ≡ BadByte) × (i ≡ 0) × IsStray first z) ⊎ (((d ≡ OpenText) × (i ≡ 0) × IsOpenText z) ⊎ IsWrong z d i))

-- The bytes `z` begin at this column of a line. Pieces lead from there to a place, and the fault is seen there, at column c.
pub record Seen (column : ℕ) (first : Bool) (z : List ℕ) (d : Fault) (c : ℕ) : Type 0 where
  pub pieces : List Piece
  pub rest : List ℕ
  pub behind : ℕ
  pub leads : Leads pieces z rest
  pub place : c ≡ column + size pieces + behind
  pub here : Here (stays_first first pieces) rest d behind

-- the fault is in the line, at column c: a 133rd byte, or what is seen among its pieces; the flag: the line is continued to
abbrev pub Holds : Bool → List ℕ → Fault → ℕ → Type 0
Holds was line d c = ((d ≡ LineLong) × (c ≡ 133) × (132 < length line)) ⊎ Seen 1 was line d c

-- The fault is in line l of these, whose numbers begin at n, at column c. Pieces lead through the lines before.
abbrev pub HoldsIn : ℕ → Bool → List (List ℕ) → Fault → ℕ → ℕ → Type 0
HoldsIn n was [] d l c = ⊥
HoldsIn n was (z ∷ zs) d l c =
    ((l ≡ n) × Holds was z d c) ⊎ ((pieces : List Piece) × Leads pieces z [] × HoldsIn (n + 1) (goes_on was pieces) zs d l c)

-- the fault is in the source, at line l and column c
abbrev pub HoldsAt : List ℕ → Fault → ℕ → ℕ → Type 0
HoldsAt source = HoldsIn 1 false (lines source)

-- the lesser place; at one place LineLong is first
abbrev pub ComesFirst : Fault → ℕ → ℕ → Fault → ℕ → ℕ → Type 0
ComesFirst d l c e m x = (l < m) ⊎ ((l ≡ m) × ((c < x) ⊎ ((c ≡ x) × ((d ≡ LineLong) ⊎ (d ≡ e)))))

-- the fault stands at this place, and each fault of the source comes no earlier
pub record IsFirst (source : List ℕ) (d : Fault) (place : Place) : Type 0 where
  pub holds : HoldsAt source d place.line place.column
  pub least : (e : Fault) (m x : ℕ) → HoldsAt source e m x → ComesFirst d place.line place.column e m x

abbrev pub NoFault : List ℕ → Type 0
NoFault source = (d : Fault) (l c : ℕ) → HoldsAt source d l c → ⊥

-- why a source is refused; want of memory may come at any time
abbrev pub IsRefused : List ℕ → LexRefusal → Type 0
IsRefused source (refused.BadByte place) = IsFirst source BadByte place
IsRefused source (refused.OpenText place) = IsFirst source OpenText place
IsRefused source (refused.NameLong place) = IsFirst source NameLong place
IsRefused source (refused.NumberWide place) = IsFirst source NumberWide place
IsRefused source (refused.LineLong place) = IsFirst source LineLong place
IsRefused source refused.Memory = Unit {0}
