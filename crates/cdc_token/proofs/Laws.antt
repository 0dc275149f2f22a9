-- What the definitions imply: a line has one list of pieces, a source one first fault, and a logical line its tokens.
use Rattle.std.proofs.Common.{◌≡◌, ℕ, false, List, [], ◌∷◌, ◌++◌, length, length-append, Some, None, sym, ap, ◌∙◌, subst, refl, inl, inr, arith}
use Rattle.std.specs.List.{flat_map, AllByRecursion}
use Rattle.cdc_base.specs.declared.place.Place.{Place}
use Rattle.cdc_token.specs.declared.piece.Kind.{Kind}
use Rattle.cdc_token.specs.declared.fault.Fault.{Fault}
use Rattle.cdc_token.specs.declared.token.Lexed.{Lexed}
use Rattle.cdc_token.specs.Pieces.{Is, IsPiece, Piece, Leads}
use Rattle.cdc_token.specs.Refusals.{ComesFirst, IsFirst}
use Rattle.cdc_token.specs.Tokens.{Item}
use Rattle.cdc_token.specs.Lines.{Line, closed}
use Rattle.cdc_token.specs.Logical.{gather, items, AreLogicalLines}
use Rattle.cdc_token.proofs.Reached.{kind_once, piece_once, nonempty}

-- ---- a line has one list of pieces

begins_none : (p : Piece) (more line : List ℕ) → line ≡ p.1 ++ more → IsPiece p.0 p.1 more → line ≡ [] → ⊥
begins_none p more line e is none = let some = nonempty p.0 p.1 is.kind in omega (arith, some, ap length e, ap length none, length-append p.1 more)

pub one_reading : (ps qs : List Piece) (line : List ℕ) → Leads ps line [] → Leads qs line [] → ps ≡ qs
one_reading [] [] line e f = refl
one_reading [] (q ∷ qs) line none (more, e, is, leads) = absurd (begins_none q more line e is none)
one_reading (p ∷ ps) [] line (more, e, is, leads) none = absurd (begins_none p more line e is none)
one_reading (p ∷ ps) (q ∷ qs) line (more, e, is, leads) (more2, e2, is2, leads2) =
    let meet : p.1 ++ more ≡ q.1 ++ more2 = sym e ∙ e2 in
    let same = piece_once p.0 q.0 p.1 q.1 more more2 is is2 meet in
    let kind : p.0 ≡ q.0 = kind_once p.0 q.0 p.1 q.1 more more2 is.kind is2.kind meet in
    let rest : ps ≡ qs = one_reading ps qs more2 (subst (λ w. Leads ps w []) same.rest leads) leads2 in
    let front : p.1 ≡ q.1 = same.front in
    λ i. (kind i, front i) ∷ rest i

-- ---- the pieces written out are the line, so each byte is in one of them

pub written_out : (ps : List Piece) (line : List ℕ) → Leads ps line [] → flat_map (λ p. p.1) ps ≡ line
written_out [] line e = sym e
written_out (p ∷ ps) line (more, e, is, leads) = ap (λ w. p.1 ++ w) (written_out ps more leads) ∙ sym e

-- ---- the bytes of a piece have one kind

pub one_kind : (k d : Kind) (front : List ℕ) → Is k front → Is d front → k ≡ d
one_kind k d front is is2 = kind_once k d front front [] [] is is2 refl

-- ---- a source has one first fault

pub record SameFault (d e : Fault) (l c m x : ℕ) : Type 0 where
  pub fault : d ≡ e
  pub line : l ≡ m
  pub column : c ≡ x

met : (d e : Fault) (l c m x : ℕ) → ComesFirst d l c e m x → ComesFirst e m x d l c → SameFault d e l c m x
met d e l c m x (inl below) (inl above) = absurd (omega (arith, below, above))
met d e l c m x (inl below) (inr (at, other)) = absurd (omega (arith, below, at))
met d e l c m x (inr (at, other)) (inl above) = absurd (omega (arith, at, above))
met d e l c m x (inr (at, inl below)) (inr (at2, inl above)) = absurd (omega (arith, below, above))
met d e l c m x (inr (at, inl below)) (inr (at2, inr (same, is))) = absurd (omega (arith, below, same))
met d e l c m x (inr (at, inr (same, is))) (inr (at2, inl above)) = absurd (omega (arith, above, same))
met d e l c m x (inr (at, inr (same, inr is))) (inr (at2, inr (same2, other))) = record { fault = is; line = at; column = same }
met d e l c m x (inr (at, inr (same, inl is))) (inr (at2, inr (same2, inl is2))) = record { fault = is ∙ sym is2; line = at; column = same }
met d e l c m x (inr (at, inr (same, inl is))) (inr (at2, inr (same2, inr is2))) = record { fault = sym is2; line = at; column = same }

pub one_fault : (source : List ℕ) (d e : Fault) (p q : Place) → IsFirst source d p → IsFirst source e q → SameFault d e p.line p.column q.line q.column
one_fault source d e p q first other =
    met d e p.line p.column q.line q.column (first.least e q.line q.column other.holds) (other.least d p.line p.column first.holds)

-- ---- a logical line has a token, and its number is that of the first

pub record HasTokens (line : Line) : Type 0 where
  pub first : Lexed
  pub more : List Lexed
  pub tokens : line.tokens ≡ first ∷ more
  pub number : line.line ≡ first.place.line

closed_tokens : (begun : List Lexed) (more : List Line) → AllByRecursion HasTokens more → AllByRecursion HasTokens (closed begun more)
closed_tokens [] more all = all
closed_tokens (t ∷ ts) more all = (record { first = t; more = ts; tokens = refl; number = refl }, all)

gather_tokens : (begun : List Lexed) (more : List Item) → AllByRecursion HasTokens (gather begun more)
gather_tokens begun [] = closed_tokens begun [] tt
gather_tokens begun (None ∷ more) = closed_tokens begun (gather [] more) (gather_tokens [] more)
gather_tokens begun (Some t ∷ more) = gather_tokens (begun ++ t ∷ []) more

pub have_tokens : (source : List ℕ) (logical : List Line) → AreLogicalLines source logical → AllByRecursion HasTokens logical
have_tokens source logical are = subst (AllByRecursion HasTokens) (sym are.gathered) (gather_tokens [] (items 1 false are.pieces))
