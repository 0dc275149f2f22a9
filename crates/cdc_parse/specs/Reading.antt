-- Reading a tree from the front of a list of tokens, in one pass.
use Rattle.std.specs.Prelude.{ℕ, zero, suc, List, [], ◌∷◌, ◌++◌, length, Option, Some, None}
use Rattle.cdc_base.specs.declared.place.Place.{Place}
use Rattle.cdc_prog.specs.declared.expr.UnOp.TheVariants as u
use Rattle.cdc_token.specs.declared.token.Lexed.{Lexed}
use Rattle.cdc_token.specs.declared.token.Token.{Token}
use Rattle.cdc_token.specs.declared.token.Token.TheVariants.{Name, Number, Text, Symbol}
use Rattle.cdc_token.specs.declared.token.Symbol.TheVariants as q
use Rattle.cdc_tree.specs.declared.tree.Named.{Named}
use Rattle.cdc_tree.specs.declared.tree.Intrinsic.{Intrinsic}
use Rattle.cdc_tree.specs.declared.tree.Intrinsic.TheVariants as i
use Rattle.cdc_parse.specs.declared.operator.Sign.{Sign}
use Rattle.cdc_parse.specs.declared.operator.Sign.TheVariants as g
use Rattle.cdc_parse.specs.declared.word.Word.{Word}
use Rattle.cdc_parse.specs.declared.word.Word.TheVariants as w
use Rattle.cdc_parse.specs.Words.{word_named}
use Rattle.cdc_tree.specs.Options.{◌>>=◌, maybe}
use Rattle.cdc_parse.specs.Tokens.{after}
use Rattle.cdc_parse.specs.Operators.{sign_at, operator_at}
use Rattle.cdc_tree.specs.Plain.{Plain, PNumber, PName, PApply, PParen, PPlus, PUn, PBin, PKnown, plains}

-- an item and the tokens after it
abbrev pub Gets : Type 0 → Type 0
Gets A = List Lexed → Option (A × List Lexed)

-- { , item }, after the items that were read before
abbrev pub more : {A : Type 0} → Gets A → ℕ → List A → Gets (List A)
more item zero before ts = Some (before, ts)
more item (suc n) before ts =
    maybe (after q.Comma ts) (λ us. item us >>= λ x. more item n (before ++ (x.0 ∷ [])) x.1) (Some (before, ts))

-- item { , item }
abbrev pub separated : {A : Type 0} → Gets A → Gets (List A)
separated item ts = item ts >>= λ x. more item (length x.1) (x.0 ∷ []) x.1

-- what stands before a closing parenthesis
abbrev pub closed : {A : Type 0} → Gets A → Gets A
closed item ts = item ts >>= λ x. after q.RightParen x.1 >>= λ us. Some (x.0, us)

abbrev pub signed : Sign → Place → Plain → Plain
signed g.Plus p a = PPlus p a
signed g.Minus p a = PUn p u.Neg a
signed g.Not p a = PUn p u.Not a

-- { operator operand }, with what was read before as the first operand
abbrev pub chain : Gets Plain → ℕ → ℕ → Plain → Gets Plain
chain operand r zero before ts = Some (before, ts)
chain operand r (suc n) before ts =
    maybe (operator_at r ts) (λ o. operand o.1 >>= λ x. chain operand r n (PBin o.0 before x.0) x.1) (Some (before, ts))

-- [ sign ] operand
abbrev pub first : Gets Plain → ℕ → Gets Plain
first operand r ts = maybe (sign_at r ts) (λ s. operand s.2 >>= λ x. Some (signed s.0 s.1 x.0, x.1)) (operand ts)

abbrev pub tier : Gets Plain → ℕ → Gets Plain
tier operand r ts = first operand r ts >>= λ x. chain operand r (length x.1) x.0 x.1

abbrev pub tiers : Gets Plain → ℕ → Gets Plain
tiers factor zero = factor
tiers factor (suc r) = tier (tiers factor r) r

abbrev pub intrinsic_of : Word → Option Intrinsic
intrinsic_of w.Abs = Some i.Abs
intrinsic_of w.Mod = Some i.Mod
intrinsic_of w.Min = Some i.Min
intrinsic_of w.Max = Some i.Max
intrinsic_of other = None

-- a name, alone or with arguments
abbrev pub reference : Gets Plain → Named → Gets Plain
reference inner n ts =
    maybe (after q.LeftParen ts) (λ us. closed (separated inner) us >>= λ x. Some (PApply n (plains x.0), x.1)) (Some (PName n, ts))

abbrev pub known : Gets Plain → Place → Word → Gets Plain
known inner p w ts =
    intrinsic_of w >>= λ f. after q.LeftParen ts >>= λ us. closed (separated inner) us >>= λ x. Some (PKnown p f (plains x.0), x.1)

abbrev pub named : Gets Plain → List ℕ → Place → Option Word → Gets Plain
named inner n p (Some w) ts = known inner p w ts
named inner n p None ts = reference inner (record { name = n; place = p }) ts

abbrev pub paren : Gets Plain → Place → Gets Plain
paren inner p ts = after q.LeftParen ts >>= λ us. closed inner us >>= λ x. Some (PParen p x.0, x.1)

abbrev pub factor_of : Gets Plain → Place → Token → Gets Plain
factor_of inner p (Number z) ts = Some (PNumber p z, ts)
factor_of inner p (Name n) ts = named inner n p (word_named n) ts
factor_of inner p (Text b) ts = None
factor_of inner p (Symbol s) ts = paren inner p (record { token = Symbol s; place = p } ∷ ts)

abbrev pub factor_in : Gets Plain → Gets Plain
factor_in inner [] = None
factor_in inner (t ∷ ts) = factor_of inner t.place t.token ts

-- what may stand in parentheses, of which depth more may be opened
abbrev pub inside : ℕ → Gets Plain
inside zero ts = None
inside (suc d) ts = tiers (factor_in (inside d)) 6 ts

abbrev pub factor : ℕ → Gets Plain
factor depth = factor_in (inside depth)

-- a tree whose operators outside parentheses have a rank below height
abbrev pub read : ℕ → ℕ → Gets Plain
read depth height ts = tiers (factor_in (inside depth)) height ts
