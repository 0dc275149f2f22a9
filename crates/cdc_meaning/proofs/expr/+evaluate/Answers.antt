use Rattle.std.proofs.Common.{◌+◌, ◌^◌, ◌<◌, ◌≤◌, pos, length, drop, Some, None, sym, subst, arith, rules}
use Rattle.std.specs.Prelude.{slice_index_or}
use Rattle.std.proofs.lemmas.Int.{ints, to_z-of_z}
use mir.Val.{SFits}
use mir.Syntax.{w64}
use Rattle.cdc_prog.specs.declared.expr.Expr.{the_lemmas}
use Rattle.cdc_prog.specs.declared.program.Dim.{Dim}
use Rattle.cdc_prog.specs.declared.program.FaultKind.TheVariants.{Subscript}
use Rattle.cdc_prog.specs.Data.{size_of, dims_of}
use Rattle.cdc_prog.specs.Plain.{Element}
use Rattle.cdc_prog.specs.Resolved.{ExprFits}
use Rattle.cdc_prog.specs.Translation.{expr_of, exprs_of}
use Rattle.cdc_prog.specs.Held.{store_of}
use Rattle.cdc_meaning.specs.Frames.{shapes_of, binding}
use Rattle.cdc_meaning.specs.Evaluates.{Gives, GivesNumber}
use Rattle.cdc_meaning.proofs.InMemory.{dims_many, size_small, size_some, subs_fit}
use Rattle.cdc_meaning.proofs.Values.{element_needs, element_fault, element_value}
use Rattle.cdc_meaning.proofs.Subscripts.{Strides, dim_at, stride_extent, below_all, leads_first, leads_next, leads_to_fault, leads_to_number, leads_outside}
use Rattle.cdc_meaning.proofs.expr.+evaluate.Goals as goal

pub evaluate-element-requires : goal.evaluate-element-requires
evaluate-element-requires t c =
    let d = c.in-Element in
    (search (rules, the_lemmas), (c.requires.placed, (c.requires.room, element_needs c.args.frame.now _ c.args.e.now d.at d.subs c.as_slice.result.now d.is c.as_slice.ensures c.requires.fits)))

pub operand-element-requires : goal.operand-element-requires
operand-element-requires t c =
    let d = c.in-Element in
    (search (rules, the_lemmas), (c.requires.placed, (c.requires.room, element_needs c.args.frame.now _ c.args.e.now d.at d.subs c.as_slice.result.now d.is c.as_slice.ensures c.requires.fits)))

pub element-returns : goal.element-returns
element-returns t c = λ line.
    element_value (binding c.args.frame.now) line c.args.slots.now (store_of c.args.words.now) c.args.at c.args.subs.now c.in_ok-n.n c.word.result _ (c.in_ok-n.ensures.number line) c.word.ensures.value (grind (arith, ints, to_z-of_z))

pub element-returns-in_err-n : goal.element-returns-in_err-n
element-returns-in_err-n t c =
    let a = c.args in
    subst (λ o. Gives (binding a.frame.now) (Element a.at (exprs_of a.subs.now)) a.slots.now (store_of a.words.now) o c.number.new.kind) (sym c.from_residual.ensures)
    (λ line. element_fault (binding a.frame.now) line a.slots.now (store_of a.words.now) a.at a.subs.now _ (c.in_err-n.ensures.number line))

pub number-loop-k-init : goal.number-loop-k-init
number-loop-k-init t c =
    let f = c.args.frame.now in
    let some : 0 < size_of c.dims-dims.result.now = rw c.dims-dims.ensures (size_some f _ c.args.var _ c.requires.placed c.requires.element) in
    let small : size_of c.dims-dims.result.now < 2 ^ 32 = rw c.dims-dims.ensures (size_small f _ c.args.var _ c.requires.placed c.requires.element) in
    record {
      leads = leads_first (binding f) c.args.slots.now (store_of c.args.words.now) c.dims-dims.result.now c.args.subs.now;
      strides = record { product = omega arith; some = some; small = small };
      below = omega arith;
    }

pub number-operand-requires : goal.number-operand-requires
number-operand-requires t c =
    let f = c.args.frame.now in
    let e = c.index-subs-k.result in
    let fits = subs_fit f (length c.args.slots.now) c.args.var c.args.subs.now c.requires.element c.loop-k.k e (omega arith) in (
      search (rules, the_lemmas),
      (
        c.requires.placed,
        (
          c.requires.room,
          subst (λ x. ExprFits f.program.now.objects (shapes_of f) (length c.args.slots.now) (expr_of x)) (sym c.index-subs-k.is) fits,
        ),
      ),
    )

pub number-returns-in_err-sub-clause-number : goal.number-returns-in_err-sub-clause-number
number-returns-in_err-sub-clause-number t c =
    let b = binding c.args.frame.now in
    let s = store_of c.args.words.now in
    let kind = c.operand.new.kind in
    subst (λ o. GivesNumber b (dims_of b c.args.var) (exprs_of c.args.subs.now) c.args.slots.now s o kind) (sym c.from_residual.ensures)
    (subst (λ ds. GivesNumber b ds (exprs_of c.args.subs.now) c.args.slots.now s None kind) c.dims-dims.ensures
    (leads_to_fault b c.args.slots.now s c.dims-dims.result.now c.args.subs.now c.loop-k.k c.loop-k.folded c.index-subs-k.result kind (omega arith) c.index-subs-k.is c.in_err-sub.ensures c.loop-k.invariant.leads))

pub number-bounds-dims-k : goal.number-bounds-dims-k
number-bounds-dims-k t c =
    omega (arith, dims_many c.args.frame.now _ c.args.var c.args.subs.now c.dims-dims.result.now c.requires.element c.dims-dims.ensures)

pub number-with-folded-requires-clause-room : goal.number-with-folded-requires-clause-room
number-with-folded-requires-clause-room t c =
    let dims = c.dims-dims.result.now in
    let k = c.loop-k.k in
    let lt : k < length dims = omega (arith, dims_many c.args.frame.now _ c.args.var c.args.subs.now dims c.requires.element c.dims-dims.ensures) in
    (stride_extent c.loop-k.folded.stride dims k _ (size_of dims) lt (dim_at dims k _ lt) c.loop-k.invariant.strides).1

pub number-with-folded-requires-clause-some : goal.number-with-folded-requires-clause-some
number-with-folded-requires-clause-some t c =
    let dims = c.dims-dims.result.now in
    let k = c.loop-k.k in
    let lt : k < length dims = omega (arith, dims_many c.args.frame.now _ c.args.var c.args.subs.now dims c.requires.element c.dims-dims.ensures) in
    (stride_extent c.loop-k.folded.stride dims k _ (size_of dims) lt (dim_at dims k _ lt) c.loop-k.invariant.strides).0

pub number-loop-k-preserved : goal.number-loop-k-preserved
number-loop-k-preserved t c =
    let b = binding c.args.frame.now in
    let dims = c.dims-dims.result.now in
    let k = c.loop-k.k in
    let f = c.loop-k.folded in
    let g = c.with-folded.result in
    let d : Dim = slice_index_or dims k (record { low = pos 0; extent = 0 }) in
    let fits : SFits w64 c.in_ok-sub.sub = search rules in
    let number = simp to_z-of_z at c.with-folded.ensures.number in
    let lt : k < length dims = omega (arith, dims_many c.args.frame.now _ c.args.var c.args.subs.now dims c.requires.element c.dims-dims.ensures) in
    record {
      leads = leads_next b c.args.slots.now (store_of c.args.words.now) dims c.args.subs.now k f g c.index-subs-k.result d c.in_ok-sub.sub c.operand.new.kind (omega arith) c.index-subs-k.is lt (dim_at dims k _ lt) c.in_ok-sub.ensures number c.loop-k.invariant.leads;
      strides = subst (λ n. Strides n (drop (k + 1) dims) (size_of dims)) (sym c.with-folded.ensures.stride) (stride_extent f.stride dims k d (size_of dims) lt (dim_at dims k _ lt) c.loop-k.invariant.strides).2;
      below = c.with-folded.ensures.below;
    }

pub number-returns-then-folded-clause-number : goal.number-returns-then-folded-clause-number
number-returns-then-folded-clause-number t c =
    let b = binding c.args.frame.now in
    let s = store_of c.args.words.now in
    let dims = c.dims-dims.result.now in
    let each : length dims ≤ c.loop-k.k = omega (arith, dims_many c.args.frame.now _ c.args.var c.args.subs.now dims c.requires.element c.dims-dims.ensures) in
    subst (λ ds. GivesNumber b ds (exprs_of c.args.subs.now) c.args.slots.now s (Some c.loop-k.folded.number) c.loop-k.kind) c.dims-dims.ensures
    (leads_to_number b c.args.slots.now s dims c.args.subs.now c.loop-k.k c.loop-k.folded c.loop-k.kind (omega arith) each c.if-folded.true c.loop-k.invariant.leads)

pub number-returns-then-folded-clause-within : goal.number-returns-then-folded-clause-within
number-returns-then-folded-clause-within t c =
    let dims = c.dims-dims.result.now in
    let f = c.loop-k.folded in
    let each : length dims ≤ c.loop-k.k = omega (arith, dims_many c.args.frame.now _ c.args.var c.args.subs.now dims c.requires.element c.dims-dims.ensures) in
    subst (λ ds. f.number < size_of ds) c.dims-dims.ensures (below_all f.stride f.number dims c.loop-k.k (size_of dims) each c.loop-k.invariant.strides c.loop-k.invariant.below)

pub number-returns-else-folded-clause-number : goal.number-returns-else-folded-clause-number
number-returns-else-folded-clause-number t c =
    let b = binding c.args.frame.now in
    let s = store_of c.args.words.now in
    let dims = c.dims-dims.result.now in
    let each : length dims ≤ c.loop-k.k = omega (arith, dims_many c.args.frame.now _ c.args.var c.args.subs.now dims c.requires.element c.dims-dims.ensures) in
    subst (λ ds. GivesNumber b ds (exprs_of c.args.subs.now) c.args.slots.now s None Subscript) c.dims-dims.ensures
    (leads_outside b c.args.slots.now s dims c.args.subs.now c.loop-k.k c.loop-k.folded (omega arith) each c.if-folded.false c.loop-k.invariant.leads)
