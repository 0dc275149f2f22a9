use Rattle.std.proofs.Common.{sym, ap, ◌∙◌, subst, arith}
use Rattle.cdc_prog.specs.Translation.{stmt_of, stmts_of, arms_of}
use Rattle.cdc_prog.proofs.Translated.{at_if}
use Rattle.cdc_meaning.specs.Doall.{SlotsWithin}
use Rattle.cdc_meaning.proofs.Comes.{none_left}
use Rattle.cdc_meaning.proofs.Slots.{within_more}
use Rattle.cdc_meaning.proofs.Statements.{one_statement, one_arm}
use Rattle.cdc_meaning.proofs.doall.+slots.Goals as goal

pub most_slots-loop-statement-preserved : goal.most_slots-loop-statement-preserved
most_slots-loop-statement-preserved t c = λ n le h.
    let l = c.loop-statement in
    let s = c.statement-item.result in
    let is = one_statement c.args.statements.now l.statement-index s (omega arith) c.statement-item.is in
    l.invariant n (omega (arith, le)) (subst (SlotsWithin n) (sym is) (within_more c.most_slots_in.result n (stmt_of s) (omega (arith, le)) c.most_slots_in.ensures, h))

pub most_slots-returns : goal.most_slots-returns
most_slots-returns t c =
    let l = c.loop-statement in
    l.invariant l.most (omega arith) (subst (SlotsWithin l.most) (sym (ap stmts_of (none_left c.args.statements.now l.statement-index (omega arith)))) tt)

pub most_slots_in-loop-arm-preserved : goal.most_slots_in-loop-arm-preserved
most_slots_in-loop-arm-preserved t c = λ n other le h.
    let l = c.loop-arm in
    let a = c.arm-item.result in
    let is = one_arm c.as_slice-arm-items.result.now other l.arm-index a (omega arith) c.arm-item.is in
    l.invariant n other (omega (arith, le)) (subst (SlotsWithin n) (sym is) (within_more c.most_slots.result n (stmts_of a.body) (omega (arith, le)) (rw c.as_slice.ensures at c.most_slots.ensures), h))

pub most_slots_in-returns-after-loop-arm : goal.most_slots_in-returns-after-loop-arm
most_slots_in-returns-after-loop-arm t c =
    let l = c.loop-arm in
    let o = c.in-If in
    let n = c.greater.result in
    let arms = c.as_slice-arm-items.result.now in
    let other = stmts_of o.other in
    let is = ap stmt_of o.is ∙ at_if o.arms o.other in
    let none = ap (λ k. arms_of k other) (none_left arms l.arm-index (omega arith)) in
    let last : SlotsWithin n other = within_more c.most_slots-in-If.result n other (omega arith) (rw c.as_slice-in-If.ensures at c.most_slots-in-If.ensures) in
    let all : SlotsWithin n (arms_of arms other) = l.invariant n other (omega arith) (subst (SlotsWithin n) (sym none) last) in
    subst (SlotsWithin n) (sym is) (subst (λ k. SlotsWithin n (arms_of k other)) c.as_slice-arm-items.ensures all)
