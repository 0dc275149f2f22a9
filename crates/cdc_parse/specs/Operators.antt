-- Signs and operators: one table of symbols, with a rank each from those that bind tightest.
use Rattle.std.specs.Prelude.{ℕ, List, [], ◌∷◌, Option, Some, None, ◌==◌, if◌then◌else◌}
use Rattle.cdc_base.specs.declared.place.Place.{Place}
use Rattle.cdc_prog.specs.declared.expr.BinOp.{BinOp}
use Rattle.cdc_prog.specs.declared.expr.BinOp.TheVariants as b
use Rattle.cdc_token.specs.declared.token.Lexed.{Lexed}
use Rattle.cdc_token.specs.declared.token.Token.{Token}
use Rattle.cdc_token.specs.declared.token.Token.TheVariants.{Symbol}
use Rattle.cdc_token.specs.declared.token.Symbol.{Symbol as Mark}
use Rattle.cdc_token.specs.declared.token.Symbol.TheVariants as q
use Rattle.cdc_parse.specs.declared.operator.Sign.{Sign}
use Rattle.cdc_parse.specs.declared.operator.Sign.TheVariants as g
use Rattle.cdc_tree.specs.Options.{◌>>=◌}

abbrev pub sign_of : Mark → Option Sign
sign_of q.Plus = Some g.Plus
sign_of q.Minus = Some g.Minus
sign_of q.Not = Some g.Not
sign_of other = None

abbrev pub sign_symbol : Sign → Mark
sign_symbol g.Plus = q.Plus
sign_symbol g.Minus = q.Minus
sign_symbol g.Not = q.Not

abbrev pub sign_rank : Sign → ℕ
sign_rank g.Plus = 1
sign_rank g.Minus = 1
sign_rank g.Not = 3

abbrev pub operator_of : Mark → Option BinOp
operator_of q.Star = Some b.Mul
operator_of q.Slash = Some b.Div
operator_of q.Plus = Some b.Add
operator_of q.Minus = Some b.Sub
operator_of q.Eq = Some b.Eq
operator_of q.Ne = Some b.Ne
operator_of q.Lt = Some b.Lt
operator_of q.Le = Some b.Le
operator_of q.Gt = Some b.Gt
operator_of q.Ge = Some b.Ge
operator_of q.And = Some b.And
operator_of q.Or = Some b.Or
operator_of other = None

-- Mod, Min and Max are written before their operands, so no symbol is read as one of them.
abbrev pub symbol : BinOp → Mark
symbol b.Mul = q.Star
symbol b.Div = q.Slash
symbol b.Add = q.Plus
symbol b.Sub = q.Minus
symbol b.Eq = q.Eq
symbol b.Ne = q.Ne
symbol b.Lt = q.Lt
symbol b.Le = q.Le
symbol b.Gt = q.Gt
symbol b.Ge = q.Ge
symbol b.And = q.And
symbol b.Or = q.Or
symbol b.Mod = q.Colon
symbol b.Min = q.Colon
symbol b.Max = q.Colon

abbrev pub rank : BinOp → ℕ
rank b.Mul = 0
rank b.Div = 0
rank b.Add = 1
rank b.Sub = 1
rank b.Eq = 2
rank b.Ne = 2
rank b.Lt = 2
rank b.Le = 2
rank b.Gt = 2
rank b.Ge = 2
rank b.And = 4
rank b.Or = 5
rank b.Mod = 9
rank b.Min = 9
rank b.Max = 9

-- ---- what tokens begin with

abbrev pub sign_in : ℕ → Token → Option Sign
sign_in r (Symbol s) = sign_of s >>= λ g. if sign_rank g == r then Some g else None
sign_in r other = None

-- the sign of this rank that the tokens begin with, its place, and what follows it
abbrev pub sign_at : ℕ → List Lexed → Option (Sign × Place × List Lexed)
sign_at r [] = None
sign_at r (t ∷ ts) = sign_in r t.token >>= λ g. Some (g, t.place, ts)

abbrev pub operator_in : ℕ → Token → Option BinOp
operator_in r (Symbol s) = operator_of s >>= λ op. if rank op == r then Some op else None
operator_in r other = None

-- the operator of this rank that the tokens begin with, and what follows it
abbrev pub operator_at : ℕ → List Lexed → Option (BinOp × List Lexed)
operator_at r [] = None
operator_at r (t ∷ ts) = operator_in r t.token >>= λ op. Some (op, ts)
