-- The grammar of expressions and conditions, rule by rule (ISO/IEC 1539:1991, section 7.1.1). A value
-- of each type is a derivation, with the place of each token, and stands for a written tree.
use Rattle.std.specs.Prelude.{◌≡◌, ℤ}
use Rattle.cdc_base.specs.declared.place.Place.{Place}
use Rattle.cdc_prog.specs.declared.expr.BinOp.{BinOp}
use Rattle.cdc_prog.specs.declared.expr.BinOp.TheVariants as b
use Rattle.cdc_parse.specs.declared.operator.Sign.TheVariants as g
use Rattle.cdc_tree.specs.declared.tree.Named.{Named}
use Rattle.cdc_tree.specs.declared.tree.Intrinsic.TheVariants as i
use Rattle.cdc_parse.specs.Tokens.{IsName}
use Rattle.cdc_parse.specs.Operators.{rank}
use Rattle.cdc_parse.specs.Written.{Written, WNumber, WName, WApply, WKnown, WParen, WUnary, WBinary, Rest, REnd, RMore}

mutual
  -- factor := number | name | name ( expr {, expr} ) | ( expr ) | ABS ( expr ) | MOD ( expr , expr )
  --         | MIN ( expr , expr {, expr} ) | MAX ( expr , expr {, expr} )
  pub data Factor : Type 0 where
    FNumber : Place → ℤ → Factor
    FName : (n : Named) → IsName n → Factor
    FApply : (n : Named) → IsName n → Place → Expr → Further → Place → Factor
    FParen : Place → Expr → Place → Factor
    FAbs : Place → Place → Expr → Place → Factor
    FMod : Place → Place → Expr → Place → Expr → Place → Factor
    FMin : Place → Place → Expr → Place → Expr → Further → Place → Factor
    FMax : Place → Place → Expr → Place → Expr → Further → Place → Factor

  -- {, expr}
  pub data Further : Type 0 where
    MEnd : Further
    MMore : Place → Expr → Further → Further

  -- term := factor { (* | /) factor }
  pub data Term : Type 0 where
    TOne : Factor → Term
    TMul : Term → Place → Factor → Term
    TDiv : Term → Place → Factor → Term

  -- expr := [+ | -] term { (+ | -) term }
  pub data Expr : Type 0 where
    EOne : Term → Expr
    EPlus : Place → Term → Expr
    EMinus : Place → Term → Expr
    EAdd : Expr → Place → Term → Expr
    ESub : Expr → Place → Term → Expr

mutual
  -- atom := expr relation expr | ( cond )
  pub data Atom : Type 0 where
    ACompare : Expr → (op : BinOp) → rank op ≡ 2 → Place → Expr → Atom
    AParen : Place → Cond → Place → Atom

  -- neg := [.NOT.] atom
  pub data Neg : Type 0 where
    NOne : Atom → Neg
    NNot : Place → Atom → Neg

  -- conj := neg { .AND. neg }
  pub data Conj : Type 0 where
    JOne : Neg → Conj
    JAnd : Conj → Place → Neg → Conj

  -- cond := conj { .OR. conj }
  pub data Cond : Type 0 where
    COne : Conj → Cond
    COr : Cond → Place → Conj → Cond

abbrev mutual
  pub factor : Factor → Written
  factor (FNumber p z) = WNumber p z
  factor (FName n h) = WName n
  factor (FApply n h p a m r) = WApply n p (expr a) (further m) r
  factor (FParen p a r) = WParen p (expr a) r
  factor (FAbs s p a r) = WKnown s i.Abs p (expr a) REnd r
  factor (FMod s p a c d r) = WKnown s i.Mod p (expr a) (RMore c (expr d) REnd) r
  factor (FMin s p a c d m r) = WKnown s i.Min p (expr a) (RMore c (expr d) (further m)) r
  factor (FMax s p a c d m r) = WKnown s i.Max p (expr a) (RMore c (expr d) (further m)) r

  pub further : Further → Rest
  further MEnd = REnd
  further (MMore c a m) = RMore c (expr a) (further m)

  pub term : Term → Written
  term (TOne f) = factor f
  term (TMul t p f) = WBinary b.Mul (term t) p (factor f)
  term (TDiv t p f) = WBinary b.Div (term t) p (factor f)

  pub expr : Expr → Written
  expr (EOne t) = term t
  expr (EPlus p t) = WUnary g.Plus p (term t)
  expr (EMinus p t) = WUnary g.Minus p (term t)
  expr (EAdd e p t) = WBinary b.Add (expr e) p (term t)
  expr (ESub e p t) = WBinary b.Sub (expr e) p (term t)

abbrev mutual
  pub atom : Atom → Written
  atom (ACompare a op h p c) = WBinary op (expr a) p (expr c)
  atom (AParen p c r) = WParen p (condition c) r

  pub neg : Neg → Written
  neg (NOne a) = atom a
  neg (NNot p a) = WUnary g.Not p (atom a)

  pub conj : Conj → Written
  conj (JOne n) = neg n
  conj (JAnd c p n) = WBinary b.And (conj c) p (neg n)

  pub condition : Cond → Written
  condition (COne c) = conj c
  condition (COr d p c) = WBinary b.Or (condition d) p (conj c)
