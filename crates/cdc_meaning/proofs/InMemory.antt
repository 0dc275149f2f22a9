-- The elements of a variable lie in memory.
use Rattle.std.proofs.Common.{◌≡◌, ℕ, zero, suc, ◌+◌, ◌^◌, ◌<◌, ◌≤◌, List, [], ◌∷◌, length, get_or, refl, sym, ap, ◌∙◌, arith}
use Rattle.std.specs.Prelude.{slice_get}
use Rattle.std.specs.List.{All}
use Rattle.cdc_prog.specs.declared.expr.Var.{Var}
use Rattle.cdc_prog.specs.declared.expr.Var.TheVariants as var
use Rattle.cdc_prog.specs.declared.program.Dim.{Dim}
use Rattle.cdc_prog.specs.declared.program.Object.{Object}
use Rattle.cdc_prog.specs.declared.expr.Expr.{Expr}
use Rattle.cdc_prog.specs.Plain as plain
use Rattle.cdc_prog.specs.Plain.{Exprs, Empty, More}
use Rattle.cdc_prog.specs.Translation.{expr_of, exprs_of}
use Rattle.cdc_prog.specs.declared.expr.Ref.{Ref}
use Rattle.cdc_prog.specs.Data.{size_of, dims_in, object_of, base_of, dims_of}
use Rattle.cdc_prog.specs.Resolved.{AreLaidOut, IsVar, ExprFits, SubsFit, SpotFits}
use Rattle.cdc_prog.proofs.Words.{object_within, bound_to}
use Rattle.cdc_meaning.specs.declared.frame.Frame.{Frame}
use Rattle.cdc_meaning.specs.Frames.{shapes_of, binding, IsPlaced, IsElement}

object_some : (from : ℕ) (os : List Object) (words k : ℕ) → AreLaidOut from os words → k < length os → 0 < size_of (dims_in (slice_get os k))
object_some from [] words k h lt = absurd (omega (arith, lt))
object_some from (o ∷ os) words zero h lt = omega (arith, h.1, h.2)
object_some from (o ∷ os) words (suc k) h lt = object_some (from + o.words) os words k h.3 (omega (arith, lt))

-- a variable stands for an object, and its elements, of which there is one at least, lie in memory
pub record HasMemory (f : Frame) (v : Var) : Type 0 where
  pub there : object_of (binding f) v < length f.program.now.objects
  pub some : 0 < size_of (dims_of (binding f) v)
  pub room : base_of (binding f) v + size_of (dims_of (binding f) v) ≤ f.program.now.words

pub in_memory : (f : Frame) (v : Var) → IsPlaced f → IsVar f.program.now.objects (shapes_of f) 0 v → HasMemory f v
in_memory f (var.Object k) h is = record {
  there = is;
  some = object_some 0 f.program.now.objects f.program.now.words k h.laid_out is;
  room = object_within 0 f.program.now.objects f.program.now.words k h.laid_out is;
}
in_memory f (var.Dummy k) h is =
    let os = f.program.now.objects in
    let j = get_or f.bound.now k 0 in
    let at = bound_to os (shapes_of f) f.bound.now k h.bound is in
    record {
      there = at.there;
      some = omega (arith, at.size, object_some 0 os f.program.now.words j h.laid_out at.there);
      room = omega (arith, at.size, object_within 0 os f.program.now.words j h.laid_out at.there);
    }
in_memory f (var.Slot k) h is = absurd (omega (arith, is))

pub object_there : (f : Frame) (v : Var) (k : ℕ) (os : List Object) → IsPlaced f → IsVar f.program.now.objects (shapes_of f) 0 v → k ≡ object_of (binding f) v → os ≡ f.program.now.objects → k < length os
object_there f v k os h is at same = omega (arith, (in_memory f v h is).there, at, ap length same)

-- a variable with elements is no slot
pub elements_known : (f : Frame) (slots : ℕ) (v : Var) (e : plain.Expr) (es : Exprs) → SpotFits f.program.now.objects (shapes_of f) slots v (More e es) → IsVar f.program.now.objects (shapes_of f) 0 v
elements_known f slots (var.Object k) e es h = h.0
elements_known f slots (var.Dummy k) e es h = h.0
elements_known f slots (var.Slot k) e es h = absurd h.1

pub element_fits : (f : Frame) (slots : ℕ) (at : Ref) (subs : Exprs) → ExprFits f.program.now.objects (shapes_of f) slots (plain.Element at subs) → IsElement f slots at.var subs
element_fits f slots at Empty h = absurd h
element_fits f slots at (More e es) h = record { known = elements_known f slots at.var e es h; fits = h.1 }

-- there is a subscript for each dimension
as_many : (os : List Object) (shapes : List (List Dim)) (slots : ℕ) (dims : List Dim) (subs : List Expr) → SubsFit os shapes slots dims (exprs_of subs) → length subs ≡ length dims
as_many os shapes slots [] [] h = refl
as_many os shapes slots [] (e ∷ es) h = absurd h
as_many os shapes slots (d ∷ ds) [] h = absurd h
as_many os shapes slots (d ∷ ds) (e ∷ es) h = ap suc (as_many os shapes slots ds es h.1)

pub dims_many : (f : Frame) (slots : ℕ) (v : Var) (subs : List Expr) (dims : List Dim) → IsElement f slots v (exprs_of subs) → dims ≡ dims_of (binding f) v → length subs ≡ length dims
dims_many f slots v subs dims is same = as_many f.program.now.objects (shapes_of f) slots (dims_of (binding f) v) subs is.fits ∙ ap length (sym same)

each_fits : (os : List Object) (shapes : List (List Dim)) (slots : ℕ) (dims : List Dim) (subs : List Expr) → SubsFit os shapes slots dims (exprs_of subs) → All (λ e. ExprFits os shapes slots (expr_of e)) subs
each_fits os shapes slots dims [] h k d lt = absurd (omega (arith, lt))
each_fits os shapes slots [] (e ∷ es) h k d lt = absurd h
each_fits os shapes slots (x ∷ xs) (e ∷ es) h zero d lt = h.0
each_fits os shapes slots (x ∷ xs) (e ∷ es) h (suc k) d lt = each_fits os shapes slots xs es h.1 k d (omega (arith, lt))

pub subs_fit : (f : Frame) (slots : ℕ) (v : Var) (subs : List Expr) → IsElement f slots v (exprs_of subs) → All (λ e. ExprFits f.program.now.objects (shapes_of f) slots (expr_of e)) subs
subs_fit f slots v subs is = each_fits f.program.now.objects (shapes_of f) slots (dims_of (binding f) v) subs is.fits

pub size_small : (f : Frame) (slots : ℕ) (v : Var) (subs : Exprs) → IsPlaced f → IsElement f slots v subs → size_of (dims_of (binding f) v) < 2 ^ 32
size_small f slots v subs h is = omega (arith, (in_memory f v h is.known).room, h.small)

pub size_some : (f : Frame) (slots : ℕ) (v : Var) (subs : Exprs) → IsPlaced f → IsElement f slots v subs → 0 < size_of (dims_of (binding f) v)
size_some f slots v subs h is = (in_memory f v h is.known).some
