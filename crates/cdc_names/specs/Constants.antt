-- The value of a constant expression, where it has one: that of the language, over the PARAMETERs that are known.
use Rattle.std.specs.Prelude.{ℕ, ℤ, List, [], ◌∷◌, Option, Some, None}
use Rattle.std.specs.Result.{result_ok}
use Rattle.cdc_base.specs.declared.place.Place.{Place}
use Rattle.cdc_prog.specs.declared.expr.UnOp.{UnOp}
use Rattle.cdc_prog.specs.declared.expr.UnOp.TheVariants as un
use Rattle.cdc_prog.specs.declared.expr.BinOp.{BinOp}
use Rattle.cdc_prog.specs.declared.expr.BinOp.TheVariants as bin
use Rattle.cdc_prog.specs.Value.{unary, binary}
use Rattle.cdc_tree.specs.declared.tree.Intrinsic.{Intrinsic}
use Rattle.cdc_tree.specs.declared.tree.Intrinsic.TheVariants.{Abs, Mod, Min, Max}
use Rattle.cdc_tree.specs.Plain.{Plain, PNumber, PName, PApply, PParen, PPlus, PUn, PBin, PKnown, Plains, PEnd, PMore}
use Rattle.cdc_names.specs.Table.{found}

-- the value of an operation that does not fault
abbrev pub single : UnOp → Option ℤ → Option ℤ
single op None = None
single op (Some a) = result_ok (unary op a)

abbrev pub both : BinOp → Option ℤ → Option ℤ → Option ℤ
both op None b = None
both op (Some a) None = None
both op (Some a) (Some b) = result_ok (binary op a b)

-- what an intrinsic gives for its first argument alone
abbrev pub begun : Intrinsic → Option ℤ → Option ℤ
begun Abs a = single un.Abs a
begun which a = a

-- what it gives for one argument more
abbrev pub further : Intrinsic → Option ℤ → Option ℤ → Option ℤ
further Abs a b = a
further Mod a b = both bin.Mod a b
further Min a b = both bin.Min a b
further Max a b = both bin.Max a b

abbrev pub chained : Intrinsic → Option ℤ → List (Option ℤ) → Option ℤ
chained which a [] = a
chained which a (b ∷ bs) = chained which (further which a b) bs

-- ABS has one argument, MOD two, MIN and MAX two or more, which are taken from the left
abbrev pub known : Intrinsic → List (Option ℤ) → Option ℤ
known which [] = None
known which (a ∷ rest) = chained which (begun which a) rest

abbrev mutual
  pub constant : List (List ℕ × ℤ) → Plain → Option ℤ
  constant values (PNumber place n) = Some n
  constant values (PName n) = found n.name values
  constant values (PApply n subs) = None
  constant values (PParen place a) = constant values a
  constant values (PPlus place a) = constant values a
  constant values (PUn place op a) = single op (constant values a)
  constant values (PBin op a b) = both op (constant values a) (constant values b)
  constant values (PKnown place which args) = known which (constants values args)

  pub constants : List (List ℕ × ℤ) → Plains → List (Option ℤ)
  constants values PEnd = []
  constants values (PMore a more) = constant values a ∷ constants values more

-- the place of the first token
abbrev pub place_of : Plain → Place
place_of (PNumber place n) = place
place_of (PName n) = n.place
place_of (PApply n subs) = n.place
place_of (PParen place a) = place
place_of (PPlus place a) = place
place_of (PUn place op a) = place
place_of (PBin op a b) = place_of a
place_of (PKnown place which args) = place
