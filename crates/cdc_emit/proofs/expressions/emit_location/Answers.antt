use Rattle.std.proofs.Common.{◌≡◌, ◌==◌, [], ◌∷◌, ◌++◌, List, length, OnOk, sym, ap, ◌∙◌, subst, append_assoc}
use Rattle.cdc_prog.specs.declared.expr.Expr.{Expr}
use Rattle.cdc_prog.specs.Translation.{exprs_of}
use Rattle.cdc_code.specs.declared.instr.Instr.TheVariants.{Index}
use Rattle.cdc_code.specs.declared.instr.Step.{Step}
use Rattle.cdc_code.specs.Template.{at_line, exprs_code}
use Rattle.cdc_emit.proofs.Targets.{locates_element}
use Rattle.cdc_emit.proofs.expressions.emit_location.Goals as goal

pub returns : goal.returns
returns c =
    let a = c.args in
    let base = a.steps.now in
    let t = a.target.now in
    let index = at_line a.line (Index t.at.var) ∷ [] in
    let some = ap (λ (l : List Expr). length l == 0) (sym c.as_slice-subs.ensures) ∙ sym c.is_empty.ensures ∙ c.if-is_empty.false in
    let all =
    ap (λ (l : List Step). l ++ index) (c.in_ok-emit_subscripts.ensures ∙ ap (λ (l : List Expr). base ++ exprs_code a.marks.now a.line (exprs_of l)) c.as_slice-subs.ensures)
    ∙ append_assoc base (exprs_code a.marks.now a.line (exprs_of t.subs)) index ∙ ap (λ (l : List Step). base ++ l) (locates_element a.marks.now a.line t.at t.subs some) in
    subst (λ (l : List Step). OnOk c.put.result (c.put.new.steps ≡ l)) all c.put.ensures
