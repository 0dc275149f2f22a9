-- Expressions of lines within the limits have room: in each pair of parentheses at most seven numbers wait, one for each rank of operators of two operands, and two subscripts.
use Rattle.std.proofs.Common.{◌≡◌, ℕ, suc, ◌+◌, ◌-◌, ◌*◌, ◌<◌, ◌≤◌, List, [], ◌∷◌, length, Option, Some, None, sym, subst, arith}
use Rattle.std.specs.Prelude.{min}
use Rattle.cdc_base.specs.declared.place.Place.{Place}
use Rattle.cdc_prog.specs.declared.expr.BinOp.{BinOp}
use Rattle.cdc_prog.specs.declared.expr.BinOp.TheVariants as b
use Rattle.cdc_prog.specs.Plain as plain
use Rattle.cdc_prog.specs.Translation.{listed}
use Rattle.cdc_tree.specs.declared.tree.Intrinsic.{Intrinsic}
use Rattle.cdc_tree.specs.declared.tree.Intrinsic.TheVariants.{Abs, Mod, Min, Max}
use Rattle.cdc_tree.specs.Plain.{Plain, plains, count}
use Rattle.cdc_tree.specs.Order.{Each}
use Rattle.cdc_parse.specs.declared.operator.Sign.TheVariants as g
use Rattle.cdc_parse.specs.Operators.{rank}
use Rattle.cdc_parse.specs.Written.{Written, WNumber, WName, WApply, WKnown, WParen, WUnary, WBinary, Rest, REnd, RMore, meant, meants, Fits, FitsAll}
use Rattle.cdc_parse.proofs.Deep.{Shallow, ShallowAll}
use Rattle.cdc_names.specs.Uses.{tree_uses, trees_uses}
use Rattle.cdc_check.specs.declared.meaning.Meaning.{Meaning}
use Rattle.cdc_check.specs.declared.meaning.Meaning.TheVariants as meaning
use Rattle.cdc_check.specs.Meanings.{Surroundings, meaning_of}
use Rattle.cdc_check.specs.Expressions.{name_expr, begun, further, combined, resolved, resolved_in}
use Rattle.cdc_code.specs.declared.room.TheConstants.{STACK, NEST, ARGUMENTS}
use Rattle.cdc_code.specs.Room.{ExprRoom, ExprsRoom}
use Rattle.cdc_compile.proofs.Narrow.{AreNarrow, narrow_left, narrow_right}

-- an expression, and subscripts, have room above k numbers
abbrev pub Room : ℕ → plain.Expr → Type 0
Room k e = ExprRoom (λ n. n ≤ STACK) (λ n. n ≤ NEST) (λ n. n ≤ ARGUMENTS) k e

abbrev pub SubscriptsRoom : ℕ → plain.Exprs → Type 0
SubscriptsRoom k es = ExprsRoom (λ n. n ≤ STACK) (λ n. n ≤ NEST) (λ n. n ≤ ARGUMENTS) k es

-- each of several expressions has
abbrev EachRoom : ℕ → List plain.Expr → Type 0
EachRoom k es = Each (λ e. Room k e) es

-- how many numbers wait for operators of ranks below a height; no operator of two operands has rank 3
waiting : ℕ → ℕ
waiting height = min height 3 + (height - 4)

waiting_six : waiting 6 ≤ 5
unfolding waiting
waiting_six = omega arith

waiting_less : (m n : ℕ) → m ≤ n → waiting m ≤ waiting n
unfolding waiting
waiting_less m n le = omega arith

-- the second operand waits for one number more
waits : (op : BinOp) → suc (waiting (rank op)) ≤ waiting (suc (rank op))
unfolding waiting
waits b.Add = omega arith
waits b.Sub = omega arith
waits b.Mul = omega arith
waits b.Div = omega arith
waits b.Mod = omega arith
waits b.Min = omega arith
waits b.Max = omega arith
waits b.Eq = omega arith
waits b.Ne = omega arith
waits b.Lt = omega arith
waits b.Le = omega arith
waits b.Gt = omega arith
waits b.Ge = omega arith
waits b.And = omega arith
waits b.Or = omega arith

name_room : (m : Option Meaning) (place : Place) (n k : ℕ) → k < 512 → Room k ((name_expr m place n).0)
name_room None place n k low = low
name_room (Some (meaning.Number x)) place n k low = low
name_room (Some (meaning.Variable v)) place n k low = low

begun_room : (which : Intrinsic) (e : plain.Expr) (k : ℕ) → Room k e → Room k (begun which e)
begun_room Abs e k h = h
begun_room Mod e k h = h
begun_room Min e k h = h
begun_room Max e k h = h

further_room : (which : Intrinsic) (e f : plain.Expr) (k : ℕ) → Room k e → Room (suc k) f → Room k (further which e f)
further_room Abs e f k h i = h
further_room Mod e f k h i = (h, i)
further_room Min e f k h i = (h, i)
further_room Max e f k h i = (h, i)

-- of many arguments only one waits
combined_room : (which : Intrinsic) (e : plain.Expr) (es : List plain.Expr) (k : ℕ) → Room k e → EachRoom (suc k) es → Room k (combined which e es)
combined_room which e [] k h i = h
combined_room which e (f ∷ fs) k h i = combined_room which (further which e f) fs k (further_room which e f k h i.0) i.1

module _ (s : Surroundings) where
  mutual
    room : (w : Written) (height d k n : ℕ) → Fits height w → Shallow d w → AreNarrow (tree_uses (meant w)) → k + waiting height + 7 * d < 512 → Room k ((resolved s (meant w) n).0)
    room (WNumber p z) height d k n f h few low = omega arith
    room (WName x) height d k n f h few low = name_room (meaning_of s x.name) x.place n k (omega arith)
    room (WApply x p a more r) height d k n f h few low =
        let in_a = room a 6 h.0 k n f.1 h.2 (narrow_left (tree_uses (meant a)) (trees_uses (meants more)) few.1) (omega (arith, h.1, waiting_six)) in
        let in_more = subscripts_room more h.0 (suc k) ((resolved s (meant a) n).1) f.2 h.3 (narrow_right (tree_uses (meant a)) (trees_uses (meants more)) few.1) (omega (arith, h.1, few.0)) in
        ((in_a, in_more), omega arith)
    room (WKnown p which q a more r) height d k n f h few low =
        let in_a = room a 6 h.0 k n f.0 h.2 (narrow_left (tree_uses (meant a)) (trees_uses (meants more)) few) (omega (arith, h.1, waiting_six)) in
        let in_more = arguments_room more h.0 (suc k) ((resolved s (meant a) n).1) f.1 h.3 (narrow_right (tree_uses (meant a)) (trees_uses (meants more)) few) (omega (arith, h.1)) in
        combined_room which (begun which ((resolved s (meant a) n).0)) ((resolved_in s (meants more) ((resolved s (meant a) n).1)).0) k (begun_room which ((resolved s (meant a) n).0) k in_a) in_more
    room (WParen p a r) height d k n f h few low = room a 6 h.0 k n f h.2 few (omega (arith, h.1, waiting_six))
    room (WUnary g.Plus p a) height d k n f h few low = room a 1 d k n f.1 h few (omega (arith, waiting_less 1 height (omega (arith, f.0))))
    room (WUnary g.Minus p a) height d k n f h few low = room a 1 d k n f.1 h few (omega (arith, waiting_less 1 height (omega (arith, f.0))))
    room (WUnary g.Not p a) height d k n f h few low = room a 3 d k n f.1 h few (omega (arith, waiting_less 3 height (omega (arith, f.0))))
    room (WBinary op a p c) height d k n f h few low =
        let less : waiting (suc (rank op)) ≤ waiting height = waiting_less (suc (rank op)) height f.0 in
        let more : suc (waiting (rank op)) ≤ waiting (suc (rank op)) = waits op in (
          room a (suc (rank op)) d k n f.1 h.0 (narrow_left (tree_uses (meant a)) (tree_uses (meant c)) few) (omega arith),
          room c (rank op) d (suc k) ((resolved s (meant a) n).1) f.2 h.1 (narrow_right (tree_uses (meant a)) (tree_uses (meant c)) few) (omega arith),
        )

    -- further subscripts, each above those before it
    subscripts_room : (m : Rest) (d k n : ℕ) → FitsAll m → ShallowAll d m → AreNarrow (trees_uses (meants m)) → k + count (meants m) + 7 * d + 5 ≤ 512
        → SubscriptsRoom k (listed ((resolved_in s (meants m) n).0))
    subscripts_room REnd d k n f h few low = tt
    subscripts_room (RMore p a more) d k n f h few low = (
      room a 6 d k n f.0 h.0 (narrow_left (tree_uses (meant a)) (trees_uses (meants more)) few) (omega (arith, waiting_six)),
      subscripts_room more d (suc k) ((resolved s (meant a) n).1) f.1 h.1 (narrow_right (tree_uses (meant a)) (trees_uses (meants more)) few) (omega arith),
    )

    -- further arguments of an intrinsic, each above one number
    arguments_room : (m : Rest) (d k n : ℕ) → FitsAll m → ShallowAll d m → AreNarrow (trees_uses (meants m)) → k + 7 * d + 5 < 512 → EachRoom k ((resolved_in s (meants m) n).0)
    arguments_room REnd d k n f h few low = tt
    arguments_room (RMore p a more) d k n f h few low = (
      room a 6 d k n f.0 h.0 (narrow_left (tree_uses (meant a)) (trees_uses (meants more)) few) (omega (arith, waiting_six)),
      arguments_room more d k ((resolved s (meant a) n).1) f.1 h.1 (narrow_right (tree_uses (meant a)) (trees_uses (meants more)) few) low,
    )

-- a tree that is written with at most 64 parentheses open at a place
pub record IsShallow (t : Plain) : Type 0 where
  pub as_written : Written
  pub fits : Fits 6 as_written
  pub meant_is : meant as_written ≡ t
  pub shallow : Shallow 64 as_written

-- it has room above a few numbers
pub tree_room : (s : Surroundings) (t : Plain) → IsShallow t → AreNarrow (tree_uses t) → (k n : ℕ) → k ≤ 8 → Room k ((resolved s t n).0)
tree_room s t h few k n le =
    subst (λ (u : Plain). Room k ((resolved s u n).0)) h.meant_is
    (room s h.as_written 6 64 k n h.fits h.shallow (subst (λ (u : Plain). AreNarrow (tree_uses u)) (sym h.meant_is) few) (omega (arith, waiting_six)))

pub trees_room : (s : Surroundings) (ts : List Plain) → Each IsShallow ts → AreNarrow (trees_uses (plains ts)) → (k n : ℕ) → k + length ts ≤ 8 → SubscriptsRoom k (listed ((resolved_in s (plains ts) n).0))
trees_room s [] h few k n le = tt
trees_room s (t ∷ ts) h few k n le = (
  tree_room s t h.0 (narrow_left (tree_uses t) (trees_uses (plains ts)) few) k n (omega arith),
  trees_room s ts h.1 (narrow_right (tree_uses t) (trees_uses (plains ts)) few) (suc k) ((resolved s t n).1) (omega arith),
)
