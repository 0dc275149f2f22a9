-- How trees are written: a tree that keeps the place of every token has one text, and Fits says
-- which trees the language has (ISO/IEC 1539:1991, section 7.1).
use Rattle.std.specs.Prelude.{◌≡◌, ℕ, ℤ, suc, ◌<◌, List, [], ◌∷◌, ◌++◌}
use Rattle.cdc_base.specs.declared.place.Place.{Place}
use Rattle.cdc_prog.specs.declared.expr.BinOp.{BinOp}
use Rattle.cdc_token.specs.declared.token.Lexed.{Lexed}
use Rattle.cdc_token.specs.declared.token.Token.TheVariants.{Number}
use Rattle.cdc_token.specs.declared.token.Symbol.TheVariants as q
use Rattle.cdc_parse.specs.declared.operator.Sign.{Sign}
use Rattle.cdc_tree.specs.declared.tree.Named.{Named}
use Rattle.cdc_tree.specs.declared.tree.Intrinsic.{Intrinsic}
use Rattle.cdc_tree.specs.declared.tree.Intrinsic.TheVariants as i
use Rattle.cdc_parse.specs.declared.word.Word.{Word}
use Rattle.cdc_parse.specs.declared.word.Word.TheVariants as w
use Rattle.cdc_parse.specs.declared.kind.Kind.TheVariants as k
use Rattle.cdc_parse.specs.Tokens.{at, mark, word, name, IsName}
use Rattle.cdc_parse.specs.Operators.{sign_symbol, sign_rank, symbol, rank}
use Rattle.cdc_tree.specs.Plain.{Plain, PNumber, PName, PApply, PParen, PBin, PKnown, Plains, PEnd, PMore}
use Rattle.cdc_parse.specs.Kinds.{kind}
use Rattle.cdc_parse.specs.Reading.{signed}

mutual
  pub data Written : Type 0 where
    WNumber : Place → ℤ → Written
    WName : Named → Written
    WApply : Named → Place → Written → Rest → Place → Written
    WKnown : Place → Intrinsic → Place → Written → Rest → Place → Written
    WParen : Place → Written → Place → Written
    WUnary : Sign → Place → Written → Written
    WBinary : BinOp → Written → Place → Written → Written

  -- further arguments, each after a comma
  pub data Rest : Type 0 where
    REnd : Rest
    RMore : Place → Written → Rest → Rest

abbrev pub intrinsic_word : Intrinsic → Word
intrinsic_word i.Abs = w.Abs
intrinsic_word i.Mod = w.Mod
intrinsic_word i.Min = w.Min
intrinsic_word i.Max = w.Max

abbrev mutual
  pub text : Written → List Lexed
  text (WNumber p z) = at p (Number z) ∷ []
  text (WName n) = name n ∷ []
  text (WApply n p a more r) = name n ∷ (mark p q.LeftParen ∷ (text a ++ (texts more ++ (mark r q.RightParen ∷ []))))
  text (WKnown s f p a more r) = word s (intrinsic_word f) ∷ (mark p q.LeftParen ∷ (text a ++ (texts more ++ (mark r q.RightParen ∷ []))))
  text (WParen p a r) = mark p q.LeftParen ∷ (text a ++ (mark r q.RightParen ∷ []))
  text (WUnary g p a) = mark p (sign_symbol g) ∷ text a
  text (WBinary op a p b) = text a ++ (mark p (symbol op) ∷ text b)

  pub texts : Rest → List Lexed
  texts REnd = []
  texts (RMore p a more) = mark p q.Comma ∷ (text a ++ texts more)

-- the tree that is written so
abbrev mutual
  pub meant : Written → Plain
  meant (WNumber p z) = PNumber p z
  meant (WName n) = PName n
  meant (WApply n p a more r) = PApply n (PMore (meant a) (meants more))
  meant (WKnown s f p a more r) = PKnown s f (PMore (meant a) (meants more))
  meant (WParen p a r) = PParen p (meant a)
  meant (WUnary g p a) = signed g p (meant a)
  meant (WBinary op a p b) = PBin op (meant a) (meant b)

  pub meants : Rest → Plains
  meants REnd = PEnd
  meants (RMore p a more) = PMore (meant a) (meants more)

-- The tree may stand where operators of a rank below height may. Chains lean to the left, and a
-- sign applies to what binds tighter.
abbrev mutual
  pub Fits : ℕ → Written → Type 0
  Fits height (WNumber p z) = Unit {0}
  Fits height (WName n) = IsName n
  Fits height (WApply n p a more r) = IsName n × Fits 6 a × FitsAll more
  Fits height (WKnown s f p a more r) = Fits 6 a × FitsAll more
  Fits height (WParen p a r) = Fits 6 a
  Fits height (WUnary g p a) = (sign_rank g < height) × Fits (sign_rank g) a
  Fits height (WBinary op a p b) = (rank op < height) × Fits (suc (rank op)) a × Fits (rank op) b

  pub FitsAll : Rest → Type 0
  FitsAll REnd = Unit {0}
  FitsAll (RMore p a more) = Fits 6 a × FitsAll more

-- the tokens are an expression of the language, and mean the tree
pub record IsExpression (tree : Plain) (tokens : List Lexed) : Type 0 where
  pub as_written : Written
  pub fits : Fits 6 as_written
  pub meant_is : meant as_written ≡ tree
  pub tokens_are : tokens ≡ text as_written
  pub is_number : kind tree ≡ k.Number

-- the tokens are a condition of the language, and mean the tree
pub record IsCondition (tree : Plain) (tokens : List Lexed) : Type 0 where
  pub as_written : Written
  pub fits : Fits 6 as_written
  pub meant_is : meant as_written ≡ tree
  pub tokens_are : tokens ≡ text as_written
  pub is_truth : kind tree ≡ k.Truth
