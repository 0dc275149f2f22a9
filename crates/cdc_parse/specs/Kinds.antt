-- What a tree stands for: a number, a truth value, or neither.
use Rattle.std.specs.Prelude.{ℕ, Bool, true, false, ◌&&◌, ◌==◌, nat_le, suc}
use Rattle.cdc_prog.specs.declared.expr.UnOp.{UnOp}
use Rattle.cdc_prog.specs.declared.expr.UnOp.TheVariants as u
use Rattle.cdc_prog.specs.declared.expr.BinOp.{BinOp}
use Rattle.cdc_prog.specs.declared.expr.BinOp.TheVariants as b
use Rattle.cdc_tree.specs.declared.tree.Intrinsic.{Intrinsic}
use Rattle.cdc_tree.specs.declared.tree.Intrinsic.TheVariants as i
use Rattle.cdc_parse.specs.declared.kind.Kind.{Kind}
use Rattle.cdc_parse.specs.declared.kind.Kind.TheVariants as k
use Rattle.cdc_tree.specs.Plain.{Plain, PNumber, PName, PApply, PParen, PPlus, PUn, PBin, PKnown, Plains, PEnd, PMore}

abbrev pub number_if : Bool → Kind
number_if true = k.Number
number_if false = k.Neither

abbrev pub is_number : Kind → Bool
is_number k.Number = true
is_number other = false

abbrev pub if_number : Kind → Kind → Kind
if_number k.Number r = r
if_number k.Truth r = k.Neither
if_number k.Neither r = k.Neither

abbrev pub if_truth : Kind → Kind → Kind
if_truth k.Number r = k.Neither
if_truth k.Truth r = r
if_truth k.Neither r = k.Neither

abbrev pub unary_kind : UnOp → Kind → Kind
unary_kind u.Neg a = if_number a k.Number
unary_kind u.Not a = if_truth a k.Truth
unary_kind u.Abs a = k.Neither

-- arithmetic, a relation, a connective
abbrev pub binary_kind : BinOp → Kind → Kind → Kind
binary_kind b.Add x y = if_number x (if_number y k.Number)
binary_kind b.Sub x y = if_number x (if_number y k.Number)
binary_kind b.Mul x y = if_number x (if_number y k.Number)
binary_kind b.Div x y = if_number x (if_number y k.Number)
binary_kind b.Eq x y = if_number x (if_number y k.Truth)
binary_kind b.Ne x y = if_number x (if_number y k.Truth)
binary_kind b.Lt x y = if_number x (if_number y k.Truth)
binary_kind b.Le x y = if_number x (if_number y k.Truth)
binary_kind b.Gt x y = if_number x (if_number y k.Truth)
binary_kind b.Ge x y = if_number x (if_number y k.Truth)
binary_kind b.And x y = if_truth x (if_truth y k.Truth)
binary_kind b.Or x y = if_truth x (if_truth y k.Truth)
binary_kind b.Mod x y = k.Neither
binary_kind b.Min x y = k.Neither
binary_kind b.Max x y = k.Neither

-- how many arguments an intrinsic function takes
abbrev pub takes : Intrinsic → ℕ → Bool
takes i.Abs n = n == 1
takes i.Mod n = n == 2
takes i.Min n = nat_le 2 n
takes i.Max n = nat_le 2 n

abbrev pub count : Plains → ℕ
count PEnd = 0
count (PMore a more) = suc (count more)

abbrev mutual
  pub kind : Plain → Kind
  kind (PNumber p z) = k.Number
  kind (PName n) = k.Number
  kind (PApply n arguments) = number_if (are_numbers arguments)
  kind (PParen p a) = kind a
  kind (PPlus p a) = if_number (kind a) k.Number
  kind (PUn p op a) = unary_kind op (kind a)
  kind (PBin op a c) = binary_kind op (kind a) (kind c)
  kind (PKnown p f arguments) = number_if (takes f (count arguments) && are_numbers arguments)

  pub are_numbers : Plains → Bool
  are_numbers PEnd = true
  are_numbers (PMore a more) = is_number (kind a) && are_numbers more

abbrev pub known_kind : Intrinsic → Plains → Kind
known_kind f arguments = number_if (takes f (count arguments) && are_numbers arguments)
