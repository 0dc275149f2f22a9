use Rattle.std.proofs.Common.{◌+◌, [], ◌∷◌, ◌++◌, List, drop, sym, ap, ◌∙◌, arith}
use Rattle.cdc_prog.specs.declared.stmt.Stmt.{Stmt}
use Rattle.cdc_prog.specs.Translation.{expr_of, control_of, stmts_of, arms_of}
use Rattle.cdc_code.specs.Template.{at_line, expr_code, stmt_code}
use Rattle.cdc_emit.specs.Parts.{arm_code, pending_code, closed}
use Rattle.cdc_emit.proofs.Coded.{coded}
use Rattle.cdc_emit.proofs.Arms.{first_arm}
use Rattle.cdc_emit.proofs.Filled.{arm_filled, turns_filled, doall_filled, arm_closed, within_arm}
use Rattle.cdc_emit.proofs.statements.+statement.Goals as goal

pub emit_arm-returns-clause-steps : goal.emit_arm-returns-clause-steps
emit_arm-returns-clause-steps t c =
    let a = c.args.arm.now in
    let marks = c.args.marks.now in
    arm_filled a.line _ _ _ _ _ _ _ _ _ _ _ _ _ c.in_ok-emit_expression.ensures c.next_place-test.ensures c.in_ok-put.ensures c.in_ok-emit_statements.ensures c.in_ok-emit_leave.ensures.steps c.next_place.ensures c.in_ok-instr.ensures c.replace.ensures
    ∙ ap (λ (l : List Stmt). c.args.steps.now ++ arm_code a.line (expr_code marks a.line (expr_of a.cond)) (stmt_code marks (stmts_of l)) (pending_code a.line c.args.is_followed)) c.as_slice.ensures

pub emit_doall-returns : goal.emit_doall-returns
emit_doall-returns t c =
    doall_filled c.args.marks.now (control_of c.args.control.now) c.args.number _ _ _ _ _ _ _ _ _ _ _ c.in_ok-emit_controls.ensures c.next_place-place.ensures c.in_ok-put.ensures c.in_ok-emit_statements.ensures c.in_ok-put-2.ensures c.next_place.ensures c.in_ok-instr.ensures c.replace.ensures

pub emit_turns-returns : goal.emit_turns-returns
emit_turns-returns t c =
    let line = c.args.control.now.line in
    let get = c.in_ok-put-2.ensures ∙ ap (λ i. c.emit_statements.new.steps ++ at_line line i ∷ []) c.get_instr.ensures in
    let set = c.in_ok-put-4.ensures ∙ ap (λ i. c.put-3.new.steps ++ at_line line i ∷ []) c.set_instr.ensures in
    turns_filled c.args.marks.now line c.args.again c.args.bump _ _ _ _ _ _ _ _ _ _ _ _ _ _ _ c.next_place-test.ensures c.in_ok-put.ensures c.in_ok-emit_statements.ensures get c.in_ok-put-3.ensures set c.next_place.ensures c.in_ok-to_test.ensures c.in_ok-put-5.ensures c.next_place-2.ensures c.in_ok-instr.ensures c.replace.ensures

pub emit_arms-loop-number-preserved : goal.emit_arms-loop-number-preserved
emit_arms-loop-number-preserved t c =
    let marks = c.args.marks.now in
    let arms = c.args.arms.now in
    let i = c.loop-number.number in
    let a = c.index-arms-number.result in
    let cond = expr_of a.cond in
    let body = stmt_code marks (stmts_of a.body) in
    let old = c.loop-number.steps in
    let new = c.emit_arm.new.steps in
    let ends = c.loop-number.ends.items in
    let is_followed = c.is_followed-is_followed.result in
    record {
      within = within_arm a.line old (expr_code marks a.line cond) body new is_followed ends c.emit_arm.new.ends.items c.in_ok-emit_arm.ensures.steps c.in_ok-emit_arm.ensures.ends c.loop-number.invariant.within;
      closed = λ other same.
          let rest = arms_of (drop (i + 1) arms) other in
          let tail = stmt_code marks rest in
          ap (λ ps. closed ps (new ++ tail)) c.in_ok-emit_arm.ensures.ends
          ∙ arm_closed marks a.line old cond body tail new is_followed ends (c.is_followed-is_followed.ensures other same ∙ sym (coded marks rest)) c.in_ok-emit_arm.ensures.steps
          ∙ ap (λ s. closed ends (old ++ stmt_code marks s)) (sym (first_arm arms i a other (omega arith) c.index-arms-number.is))
          ∙ c.loop-number.invariant.closed other same;
    }
