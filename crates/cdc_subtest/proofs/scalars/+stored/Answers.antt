use Rattle.std.proofs.Common.{◌≡◌, ◌≤◌, List, [], ◌∷◌, ◌++◌, length, drop, refl, sym, ap, ◌∙◌, subst, arith, append_assoc, append-nil}
use Rattle.std.proofs.lemmas.List.{drop_all}
use Rattle.std.specs.Prelude.{OnOk}
use Rattle.std.proofs.lemmas.Bool.{eq-eqb}
use Rattle.cdc_prog.specs.declared.expr.Expr.{Expr}
use Rattle.cdc_prog.specs.declared.expr.Ref.{Ref}
use Rattle.cdc_prog.specs.Translation.{exprs_of, stmt_of, stmts_of, arms_of}
use Rattle.cdc_prog.proofs.Translated.{at_assign, at_if, at_do}
use Rattle.cdc_prog.specs.Dependence.{scalar_in, stored_scalars}
use Rattle.cdc_subtest.proofs.scalars.+stored.Goals as goal

no_scalar : (at : Ref) (xs : List Expr) → (length xs ≡ 0 → ⊥) → scalar_in at (exprs_of xs) ≡ []
no_scalar at [] h = absurd (h refl)
no_scalar at (x ∷ xs) h = refl

pub stored_in-returns-else-is_empty : goal.stored_in-returns-else-is_empty
stored_in-returns-else-is_empty t c =
    let some : length c.in-Assign.target.subs ≡ 0 → ⊥ = λ e. (let k = eq-eqb (length c.as_slice.result.now) 0 (ap length c.as_slice.ensures ∙ e) in cc) in
    let is : stored_scalars (stmt_of c.args.s.now) ≡ scalar_in c.in-Assign.target.at (exprs_of c.in-Assign.target.subs) =
    ap (λ s. stored_scalars (stmt_of s)) c.in-Assign.is ∙ ap stored_scalars (at_assign c.in-Assign.line c.in-Assign.target c.in-Assign.value) in
    sym (ap (λ xs. c.args.out.now ++ xs) (is ∙ no_scalar c.in-Assign.target.at c.in-Assign.target.subs some) ∙ append-nil c.args.out.now)

pub stored_in-returns-after-loop-arm : goal.stored_in-returns-after-loop-arm
stored_in-returns-after-loop-arm t c =
    let over : length c.as_slice-arm-items.result.now ≤ c.loop-arm.arm-index = omega (arith, c.loop-arm-test.false) in
    let done : drop c.loop-arm.arm-index c.as_slice-arm-items.result.now ≡ [] = drop_all c.loop-arm.arm-index c.as_slice-arm-items.result.now over in
    let whole : c.loop-arm.out ++ stored_scalars (arms_of (drop c.loop-arm.arm-index c.as_slice-arm-items.result.now) (stmts_of c.in-If.other)) ≡ c.args.out.now ++ stored_scalars (arms_of c.as_slice-arm-items.result.now (stmts_of c.in-If.other)) = c.loop-arm.invariant in
    let is : stored_scalars (stmt_of c.args.s.now) ≡ stored_scalars (arms_of c.as_slice-arm-items.result.now (stmts_of c.in-If.other)) =
    ap (λ s. stored_scalars (stmt_of s)) c.in-If.is ∙ ap stored_scalars (at_if c.in-If.arms c.in-If.other) ∙ ap (λ a. stored_scalars (arms_of a (stmts_of c.in-If.other))) (sym c.as_slice-arm-items.ensures) in
    let last : c.loop-arm.out ++ stored_scalars (stmts_of c.in-If.other) ≡ c.args.out.now ++ stored_scalars (stmt_of c.args.s.now) =
    ap (λ ys. c.loop-arm.out ++ stored_scalars (arms_of ys (stmts_of c.in-If.other))) (sym done) ∙ whole ∙ ap (λ xs. c.args.out.now ++ xs) (sym is) in
    let done_all = subst (λ o. OnOk c.stored_in_all-in-If.result (c.stored_in_all-in-If.new.out ≡ c.loop-arm.out ++ stored_scalars (stmts_of o))) c.as_slice-in-If.ensures c.stored_in_all-in-If.ensures in
    subst (λ xs. OnOk c.stored_in_all-in-If.result (c.stored_in_all-in-If.new.out ≡ xs)) last done_all

pub stored_in-returns-in_ok-add-in-Do : goal.stored_in-returns-in_ok-add-in-Do
stored_in-returns-in_ok-add-in-Do t c =
    let one : c.add-in-Do.new.items ≡ c.args.out.now ++ c.in-Do.first.var ∷ [] = c.in_ok-add-in-Do.ensures in
    let is : stored_scalars (stmt_of c.args.s.now) ≡ c.in-Do.first.var ∷ stored_scalars (stmts_of c.in-Do.body) =
    ap (λ s. stored_scalars (stmt_of s)) c.in-Do.is ∙ ap stored_scalars (at_do c.in-Do.control c.in-Do.first c.in-Do.body c.in-Do.again c.in-Do.bump) in
    let last : c.add-in-Do.new.items ++ stored_scalars (stmts_of c.in-Do.body) ≡ c.args.out.now ++ stored_scalars (stmt_of c.args.s.now) =
    ap (λ xs. xs ++ stored_scalars (stmts_of c.in-Do.body)) one ∙ append_assoc c.args.out.now (c.in-Do.first.var ∷ []) (stored_scalars (stmts_of c.in-Do.body)) ∙ ap (λ xs. c.args.out.now ++ xs) (sym is) in
    let done_all = subst (λ o. OnOk c.stored_in_all-in-Do.result (c.stored_in_all-in-Do.new.out ≡ c.add-in-Do.new.items ++ stored_scalars (stmts_of o))) c.as_slice-in-Do.ensures c.stored_in_all-in-Do.ensures in
    subst (λ xs. OnOk c.stored_in_all-in-Do.result (c.stored_in_all-in-Do.new.out ≡ xs)) last done_all
