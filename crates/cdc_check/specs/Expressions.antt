-- What expressions resolve to, from the last site on: the tree, and the last site after it.
use Rattle.std.specs.Prelude.{ℕ, ℤ, pos, List, [], ◌∷◌, Option, Some, if◌then◌else◌}
use Rattle.cdc_base.specs.declared.place.Place.{Place}
use Rattle.cdc_tree.specs.declared.tree.Named.{Named}
use Rattle.cdc_tree.specs.declared.tree.Intrinsic.{Intrinsic}
use Rattle.cdc_tree.specs.declared.tree.Intrinsic.TheVariants.{Abs, Mod, Min, Max}
use Rattle.cdc_tree.specs.Plain.{Plain, PNumber, PName, PApply, PParen, PPlus, PUn, PBin, PKnown, Plains, PEnd, PMore}
use Rattle.cdc_prog.specs.declared.expr.UnOp.TheVariants as un
use Rattle.cdc_prog.specs.declared.expr.BinOp.TheVariants as bin
use Rattle.cdc_prog.specs.Plain as plain
use Rattle.cdc_prog.specs.Value.{is_value}
use Rattle.cdc_prog.specs.Translation.{listed}
use Rattle.cdc_check.specs.declared.meaning.Meaning.{Meaning}
use Rattle.cdc_check.specs.declared.meaning.Meaning.TheVariants.{Number}
use Rattle.cdc_check.specs.Threads.{on}
use Rattle.cdc_check.specs.Meanings.{Surroundings, meaning_of, var_in, var_of, reference, sites_after}

-- every number of a source is a value
abbrev pub literal : ℤ → plain.Expr
literal n = plain.Number (if is_value n then n else pos 0)

-- a PARAMETER is its value
abbrev pub name_expr : Option Meaning → Place → ℕ → plain.Expr × ℕ
name_expr (Some (Number x)) place k = (literal x, k)
name_expr m place k = (plain.Scalar (reference (var_in m) place k), sites_after (var_in m) k)

-- an intrinsic of its first argument alone
abbrev pub begun : Intrinsic → plain.Expr → plain.Expr
begun Abs a = plain.Un un.Abs a
begun which a = a

-- an intrinsic of one argument more
abbrev pub further : Intrinsic → plain.Expr → plain.Expr → plain.Expr
further Abs a b = a
further Mod a b = plain.Bin bin.Mod a b
further Min a b = plain.Bin bin.Min a b
further Max a b = plain.Bin bin.Max a b

abbrev pub combined : Intrinsic → plain.Expr → List plain.Expr → plain.Expr
combined which a [] = a
combined which a (b ∷ bs) = combined which (further which a b) bs

-- MIN(a, b, c) is MIN(MIN(a, b), c)
abbrev pub intrinsic : Intrinsic → List plain.Expr → plain.Expr
intrinsic which [] = plain.Number (pos 0)
intrinsic which (a ∷ rest) = combined which (begun which a) rest

-- an intrinsic of what several expressions resolved to
abbrev pub applied : Intrinsic → List plain.Expr × ℕ → plain.Expr × ℕ
applied which r = (intrinsic which r.0, r.1)

abbrev pub applied_after : Intrinsic → plain.Expr → List plain.Expr × ℕ → plain.Expr × ℕ
applied_after which a r = (combined which a r.0, r.1)

-- a reference with these subscripts; without any it is the name alone
abbrev pub subscripted : Surroundings → Named → List plain.Expr → ℕ → plain.Expr × ℕ
subscripted s n [] k = name_expr (meaning_of s n.name) n.place k
subscripted s n (e ∷ es) k = (plain.Element (reference (var_of s n) n.place k) (listed (e ∷ es)), sites_after (var_of s n) k)

-- parentheses and the sign + are gone
abbrev mutual
  pub resolved : Surroundings → Plain → ℕ → plain.Expr × ℕ
  resolved s (PNumber place n) k = (literal n, k)
  resolved s (PName n) k = name_expr (meaning_of s n.name) n.place k
  resolved s (PApply n subs) k = on (resolved_in s subs k) (subscripted s n)
  resolved s (PParen place a) k = resolved s a k
  resolved s (PPlus place a) k = resolved s a k
  resolved s (PUn place op a) k = on (resolved s a k) (λ e m. (plain.Un op e, m))
  resolved s (PBin op a b) k = on (resolved s a k) (λ e m. on (resolved s b m) (λ f n. (plain.Bin op e f, n)))
  resolved s (PKnown place which args) k = applied which (resolved_in s args k)

  -- several expressions, in order
  pub resolved_in : Surroundings → Plains → ℕ → List plain.Expr × ℕ
  resolved_in s PEnd k = ([], k)
  resolved_in s (PMore a more) k = on (resolved s a k) (λ e m. on (resolved_in s more m) (λ es n. (e ∷ es, n)))
