-- What expressions resolve to fits, where each use in them is of a name that is known and fits its declaration.
use Rattle.std.proofs.Common.{◌≡◌, ℕ, suc, ℤ, Bool, true, false, List, [], ◌∷◌, ◌++◌, length, Option, Some, None, refl, ap, sym, subst, ◌∙◌, arith}
use Rattle.std.specs.Prelude.{nat_eq, not, ◌||◌, ◌&&◌, if◌then◌else◌, IsTrue, pos}
use Rattle.cdc_base.specs.declared.place.Place.{Place}
use Rattle.cdc_prog.specs.declared.program.Dim.{Dim}
use Rattle.cdc_prog.specs.declared.program.Object as object
use Rattle.cdc_prog.specs.Plain as plain
use Rattle.cdc_prog.specs.Translation.{listed}
use Rattle.cdc_prog.specs.Value.{is_value}
use Rattle.cdc_prog.specs.Data.{dims_at}
use Rattle.cdc_prog.specs.Resolved.{IsVar, ExprFits, SubsFit}
use Rattle.cdc_tree.specs.declared.tree.Named.{Named}
use Rattle.cdc_tree.specs.declared.tree.Intrinsic.{Intrinsic}
use Rattle.cdc_tree.specs.declared.tree.Intrinsic.TheVariants.{Abs, Mod, Min, Max}
use Rattle.cdc_tree.specs.Plain.{Plain, PNumber, PName, PApply, PParen, PPlus, PUn, PBin, PKnown, Plains, PEnd, PMore, count}
use Rattle.cdc_names.specs.declared.name_use.Role.{Role}
use Rattle.cdc_names.specs.declared.name_use.Role.TheVariants.{Read}
use Rattle.cdc_names.specs.declared.scope.Sort.{Sort}
use Rattle.cdc_names.specs.declared.scope.Sort.TheVariants.{Scalar, Array, Parameter}
use Rattle.cdc_names.specs.Shapes.{may_be_whole, is_read, is_misused}
use Rattle.cdc_names.specs.Table.{found}
use Rattle.cdc_names.specs.Used.{Used, used}
use Rattle.cdc_names.specs.Uses.{tree_uses, trees_uses}
use Rattle.cdc_check.specs.declared.meaning.Meaning.{Meaning}
use Rattle.cdc_check.specs.declared.meaning.Meaning.TheVariants as meaning
use Rattle.cdc_check.specs.Meanings.{Surroundings, meaning_of, var_in}
use Rattle.cdc_check.specs.Expressions.{name_expr, subscripted, begun, further, combined, intrinsic, resolved, resolved_in}

-- the number of dimensions of a name that is declared so
abbrev pub rank_of : Option Sort → ℕ
rank_of None = 0
rank_of (Some Scalar) = 0
rank_of (Some (Array n)) = n
rank_of (Some Parameter) = 0

value_kept : (n : ℤ) → IsTrue (is_value (if is_value n then n else pos 0))
value_kept n = go (is_value n) refl
  where
    go : (b : Bool) → is_value n ≡ b → IsTrue (is_value (if b then n else pos 0))
    go true h = h
    go false h = refl

same_rank : (subs n : ℕ) → (not (nat_eq subs n) && true) ≡ false → subs ≡ n
same_rank subs n h = grind arith

none_there : (subs : ℕ) → not (nat_eq subs 0) ≡ false → subs ≡ 0
none_there subs h = grind arith

or_false : (b : Bool) → (b || false) ≡ false → b ≡ false
or_false true h = h
or_false false b = refl

or_true : (b : Bool) → (b || true) ≡ false → ⊥
or_true true h = cc
or_true false h = cc

-- a name that is read has as many dimensions as it has subscripts
read_rank : (sort : Option Sort) (n : ℕ) → is_misused sort Read n ≡ false → rank_of sort ≡ n
read_rank None n h = sym (none_there n h)
read_rank (Some Scalar) n h = sym (none_there n h)
read_rank (Some (Array m)) n h = sym (same_rank n m h)
read_rank (Some Parameter) n h = sym (none_there n (or_false (not (nat_eq n 0)) h))

-- so has a name that is changed
pub changed_rank : (sort : Option Sort) (r : Role) (n : ℕ) → may_be_whole r ≡ false → is_read r ≡ false → is_misused sort r n ≡ false → rank_of sort ≡ n
changed_rank None r n w d h = sym (none_there n h)
changed_rank (Some Scalar) r n w d h = sym (none_there n h)
changed_rank (Some (Array m)) r n w d h = sym (same_rank n m (subst (λ b. (not (nat_eq n m) && not (b && nat_eq n 0)) ≡ false) w h))
changed_rank (Some Parameter) r n w d h = absurd (or_true (not (nat_eq n 0)) (subst (λ b. (not (nat_eq n 0) || not b) ≡ false) d h))

-- a PARAMETER is not changed, and has no subscripts
pub changed_no_parameter : (r : Role) (n : ℕ) → is_read r ≡ false → is_misused (Some Parameter) r n ≡ false → ⊥
changed_no_parameter r n d h = or_true (not (nat_eq n 0)) (subst (λ b. (not (nat_eq n 0) || not b) ≡ false) d h)

no_subscripts : (n : ℕ) → is_misused (Some Parameter) Read (suc n) ≡ false → ⊥
no_subscripts n h = let none : suc n ≡ 0 = none_there (suc n) (or_false (not (nat_eq (suc n) 0)) h) in omega arith

pub empty : {A : Type 0} (xs : List A) → length xs ≡ 0 → xs ≡ []
empty [] h = refl
empty (x ∷ xs) h = absurd (omega arith)

-- what a name stands for agrees with its declaration
abbrev pub Agrees : List object.Object → List (List Dim) → (slots : ℕ) → Option Meaning → Option Sort → Type 0
Agrees os shapes slots None sort = ⊥
Agrees os shapes slots (Some (meaning.Number x)) sort = sort ≡ Some Parameter
Agrees os shapes slots (Some (meaning.Variable v)) sort = IsVar os shapes slots v × (length (dims_at os shapes v) ≡ rank_of sort)

-- at any objects, dimensions of the dummies and number of slots, with names that stand for what they do at a place
module _ (os : List object.Object) (shapes : List (List Dim)) (slots : ℕ) (sorts : List (List ℕ × Sort)) (s : Surroundings) where
  pub record Good (u : Used) : Type 0 where
    pub fits : is_misused (found u.name sorts) u.role u.subs ≡ false
    pub agrees : Agrees os shapes slots (meaning_of s u.name) (found u.name sorts)

  abbrev pub AllGood : List Used → Type 0
  AllGood [] = Unit {0}
  AllGood (u ∷ us) = Good u × AllGood us

  pub good_left : (xs ys : List Used) → AllGood (xs ++ ys) → AllGood xs
  good_left [] ys g = tt
  good_left (x ∷ xs) ys g = (g.0, good_left xs ys g.1)

  pub good_right : (xs ys : List Used) → AllGood (xs ++ ys) → AllGood ys
  good_right [] ys g = g
  good_right (x ∷ xs) ys g = good_right xs ys g.1

  abbrev pub Fits : plain.Expr → Type 0
  Fits e = ExprFits os shapes slots e

  abbrev pub AllFit : List plain.Expr → Type 0
  AllFit [] = Unit {0}
  AllFit (e ∷ es) = Fits e × AllFit es

  name_fits : (m : Option Meaning) (sort : Option Sort) (place : Place) (k : ℕ) → Agrees os shapes slots m sort → is_misused sort Read 0 ≡ false → Fits ((name_expr m place k).0)
  name_fits None sort place k a h = absurd a
  name_fits (Some (meaning.Number x)) sort place k a h = value_kept x
  name_fits (Some (meaning.Variable v)) sort place k a h = (a.0, empty (dims_at os shapes v) (a.1 ∙ read_rank sort 0 h))

  pub subs_fit : (dims : List Dim) (es : List plain.Expr) → length dims ≡ length es → AllFit es → SubsFit os shapes slots dims (listed es)
  subs_fit [] [] h f = tt
  subs_fit [] (e ∷ es) h f = absurd (omega arith)
  subs_fit (d ∷ ds) [] h f = absurd (omega arith)
  subs_fit (d ∷ ds) (e ∷ es) h f = (f.0, subs_fit ds es (omega arith) f.1)

  element_fits : (m : Option Meaning) (sort : Option Sort) (e : plain.Expr) (es : List plain.Expr)
      → Agrees os shapes slots m sort → is_misused sort Read (suc (length es)) ≡ false → AllFit (e ∷ es)
      → IsVar os shapes slots (var_in m) × SubsFit os shapes slots (dims_at os shapes (var_in m)) (listed (e ∷ es))
  element_fits None sort e es a h f = absurd a
  element_fits (Some (meaning.Number x)) sort e es a h f = absurd (no_subscripts (length es) (subst (λ o. is_misused o Read (suc (length es)) ≡ false) a h))
  element_fits (Some (meaning.Variable v)) sort e es a h f = (a.0, subs_fit (dims_at os shapes v) (e ∷ es) (a.1 ∙ read_rank sort (suc (length es)) h) f)

  subscripted_fits : (n : Named) (es : List plain.Expr) (k : ℕ) → Good (used n Read (length es)) → AllFit es → Fits ((subscripted s n es k).0)
  subscripted_fits n [] k g f = name_fits (meaning_of s n.name) (found n.name sorts) n.place k g.agrees g.fits
  subscripted_fits n (e ∷ es) k g f = element_fits (meaning_of s n.name) (found n.name sorts) e es g.agrees g.fits f

  -- ---- intrinsics
  begun_fits : (which : Intrinsic) (e : plain.Expr) → Fits e → Fits (begun which e)
  begun_fits Abs e f = f
  begun_fits Mod e f = f
  begun_fits Min e f = f
  begun_fits Max e f = f

  further_fits : (which : Intrinsic) (a b : plain.Expr) → Fits a → Fits b → Fits (further which a b)
  further_fits Abs a b f g = f
  further_fits Mod a b f g = (f, g)
  further_fits Min a b f g = (f, g)
  further_fits Max a b f g = (f, g)

  combined_fits : (which : Intrinsic) (a : plain.Expr) (es : List plain.Expr) → Fits a → AllFit es → Fits (combined which a es)
  combined_fits which a [] f g = f
  combined_fits which a (e ∷ es) f g = combined_fits which (further which a e) es (further_fits which a e f g.0) g.1

  intrinsic_fits : (which : Intrinsic) (es : List plain.Expr) → AllFit es → Fits (intrinsic which es)
  intrinsic_fits which [] f = refl
  intrinsic_fits which (e ∷ es) f = combined_fits which (begun which e) es (begun_fits which e f.0) f.1

  -- ---- trees
  pub resolved_count : (ts : Plains) (k : ℕ) → count ts ≡ length ((resolved_in s ts k).0)
  resolved_count PEnd k = refl
  resolved_count (PMore t more) k = ap suc (resolved_count more ((resolved s t k).1))

  mutual
    pub tree_fits : (t : Plain) → AllGood (tree_uses t) → (k : ℕ) → Fits ((resolved s t k).0)
    tree_fits (PNumber place n) g k = value_kept n
    tree_fits (PName n) g k = name_fits (meaning_of s n.name) (found n.name sorts) n.place k g.0.agrees g.0.fits
    tree_fits (PApply n ts) g k =
        subscripted_fits n ((resolved_in s ts k).0) ((resolved_in s ts k).1) (subst (λ l. Good (used n Read l)) (resolved_count ts k) g.0) (trees_fit ts g.1 k)
    tree_fits (PParen place a) g k = tree_fits a g k
    tree_fits (PPlus place a) g k = tree_fits a g k
    tree_fits (PUn place op a) g k = tree_fits a g k
    tree_fits (PBin op a b) g k =
        (tree_fits a (good_left (tree_uses a) (tree_uses b) g) k, tree_fits b (good_right (tree_uses a) (tree_uses b) g) ((resolved s a k).1))
    tree_fits (PKnown place which ts) g k = intrinsic_fits which ((resolved_in s ts k).0) (trees_fit ts g k)

    pub trees_fit : (ts : Plains) → AllGood (trees_uses ts) → (k : ℕ) → AllFit ((resolved_in s ts k).0)
    trees_fit PEnd g k = tt
    trees_fit (PMore t more) g k = (tree_fits t (good_left (tree_uses t) (trees_uses more) g) k, trees_fit more (good_right (tree_uses t) (trees_uses more) g) ((resolved s t k).1))
