use Rattle.std.proofs.Common.{◌≡◌, ◌≤◌, ◌⊎◌, ◌++◌, ◌+◌, [], pos, ◌+ℤ◌, length, get_or, drop, ap, ◌∙◌, sym, inl, inr, SFits, arith, rules, append_assoc}
use mir.Syntax.{w64}
use Rattle.std.proofs.lemmas.Int.{to_z-of_z}
use Rattle.std.proofs.lemmas.List.{take_rest}
use Rattle.std.specs.declared.cmp.Ordering.TheVariants.{Equal}
use Rattle.cdc_prog.specs.declared.expr.Var.TheVariants as var
use Rattle.cdc_prog.specs.declared.affine.Term.{Term}
use Rattle.cdc_prog.specs.Affine.{order, is_small, kept, sum_terms}
use Rattle.cdc_affine.proofs.Merging.{small_at, kept_append, sum_at, sum_end}
use Rattle.cdc_affine.proofs.terms.sum_terms.Goals as goal
use Rattle.cdc_affine.proofs.terms.sum_terms.Goals.{then-loop-i-test+else-j-us, else-loop-i-test}

abbrev none : Term
none = record { var = var.Object 0; times = pos 0 }

pub sum-requires-clause-left : goal.sum-requires-clause-left
sum-requires-clause-left c =
    let fits : SFits w64 (get_or c.args.ts.now c.loop-i.i none).times = search rules in
    ap is_small (to_z-of_z w64 (get_or c.args.ts.now c.loop-i.i none).times fits) ∙ small_at c.args.ts.now c.loop-i.i none c.requires.left (omega arith)

pub sum-requires-clause-right : goal.sum-requires-clause-right
sum-requires-clause-right c =
    let fits : SFits w64 (get_or c.args.us.now c.loop-i.j none).times = search rules in
    ap is_small (to_z-of_z w64 (get_or c.args.us.now c.loop-i.j none).times fits) ∙ small_at c.args.us.now c.loop-i.j none c.requires.right (omega arith)

pub loop-i-preserved-in-Equal : goal.loop-i-preserved-in-Equal
loop-i-preserved-in-Equal c =
    let q : order (get_or c.args.ts.now c.loop-i.i none).var (get_or c.args.us.now c.loop-i.j none).var ≡ Equal = search rules in
    let step = sum_at c.args.ts.now c.args.us.now c.loop-i.i c.loop-i.j none none (omega arith) (omega arith) q in
    let joined = kept_append c.loop-i.out (get_or c.args.us.now c.loop-i.j none).var ((get_or c.args.ts.now c.loop-i.i none).times +ℤ (get_or c.args.us.now c.loop-i.j none).times) (sum_terms (drop (c.loop-i.i + 1) c.args.ts.now) (drop (c.loop-i.j + 1) c.args.us.now)) in
    let k : c.keep.new.out ≡ c.loop-i.out ++ kept (get_or c.args.us.now c.loop-i.j none).var ((get_or c.args.ts.now c.loop-i.i none).times +ℤ (get_or c.args.us.now c.loop-i.j none).times) [] = search rules in
    (ap (λ xs. xs ++ sum_terms (drop (c.loop-i.i + 1) c.args.ts.now) (drop (c.loop-i.j + 1) c.args.us.now)) k ∙ joined ∙ ap (λ xs. c.loop-i.out ++ xs) (sym step) ∙ c.loop-i.invariant.0, omega arith, omega arith)

pub returns : goal.returns
returns c =
    let k1 : c.add_all.new.out ≡ c.loop-i.out ++ drop c.loop-i.i c.args.ts.now = c.in_ok-add_all.ensures ∙ ap (λ xs. c.loop-i.out ++ xs) (take_rest c.args.ts.now c.loop-i.i) in
    let k2 : c.add_all-2.new.out ≡ c.add_all.new.out ++ drop c.loop-i.j c.args.us.now = c.in_ok-add_all-2.ensures ∙ ap (λ xs. c.add_all.new.out ++ xs) (take_rest c.args.us.now c.loop-i.j) in
    let over : (length c.args.ts.now ≤ c.loop-i.i) ⊎ (length c.args.us.now ≤ c.loop-i.j) =
    elim c.loop-i-test.branch [ then-loop-i-test+else-j-us w ↦ inr w.if-j-us.false | else-loop-i-test w ↦ inl w.loop-i-test.false ] in
    k2 ∙ ap (λ xs. xs ++ drop c.loop-i.j c.args.us.now) k1 ∙ append_assoc c.loop-i.out (drop c.loop-i.i c.args.ts.now) (drop c.loop-i.j c.args.us.now)
    ∙ ap (λ xs. c.loop-i.out ++ xs) (sym (sum_end c.args.ts.now c.args.us.now c.loop-i.i c.loop-i.j over)) ∙ c.loop-i.invariant.0
