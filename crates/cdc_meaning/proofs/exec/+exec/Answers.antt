use Rattle.std.proofs.Common.{◌≡◌, ◌+◌, ◌-◌, ℤ, pos, length, drop, map, true, Err, refl, ap, ◌∙◌, sym, subst, arith, rules}
use Rattle.std.proofs.lemmas.Result.{err_from_is_err_and}
use Rattle.cdc_prog.specs.Plain as plain
use Rattle.cdc_prog.specs.Process.{Process}
use Rattle.cdc_prog.specs.Bodies.{HasOnly}
use Rattle.cdc_prog.specs.Resolved.{StmtFits, ItemFits, TargetFits}
use Rattle.cdc_prog.specs.Expressions.{Surroundings, expr}
use Rattle.cdc_prog.specs.Statements.{stmt, assign, branch, raise, turns, counted, items}
use Rattle.cdc_prog.specs.Translation.{expr_of, target_of, item_of, control_of, stmt_of, stmts_of, arms_of, program_of}
use Rattle.cdc_prog.proofs.Translated.{at_assign, at_do, at_doall, at_print, at_read}
use Rattle.cdc_prog.proofs.Bodies.{allowed}
use Rattle.cdc_meaning.specs.Frames.{shapes_of, binding}
use Rattle.cdc_prog.specs.Held.{Same, around, store_of}
use Rattle.cdc_prog.specs.Unread.{left_of}
use Rattle.cdc_meaning.specs.Carried.{output_of, state, Follows}
use Rattle.cdc_meaning.specs.Loops.{turns_left}
use Rattle.cdc_meaning.specs.Doall.{forked, SlotsWithin}
use Rattle.cdc_meaning.proofs.Comes.{follows_after, comes_after, exits, faults, begun, ticked, same_follows, none_left}
use Rattle.cdc_meaning.proofs.Slots.{none_needed}
use Rattle.cdc_meaning.proofs.Iterations.{iterations_left, is_in_order, one_iteration, no_iteration, follows_there, comes_there}
use Rattle.cdc_meaning.proofs.Statements.{one_statement, one_arm, is_taken, is_passed, one_turn, no_turn, each_image}
use Rattle.cdc_meaning.proofs.exec.+exec.Goals as goal

pub exec_all-returns-in_err-exec : goal.exec_all-returns-in_err-exec
exec_all-returns-in_err-exec g t c = λ calls rest.
    let r = err_from_is_err_and c.from_residual.result c.from_residual.ensures.1 in
    let texts = c.args.frame.now.program.now.texts in
    let b = binding c.args.frame.now in
    let l = c.loop-statement in
    let i = l.statement-index in
    let a = c.args in
    let d = around a.slots.now (left_of a.streams.now.unread) in
    let e = around l.slots (left_of l.streams.unread) in
    let x = state a.words.now a.slots.now (left_of a.streams.now.unread) (output_of (g.K.Sink.taken a.out.now) a.streams.now.page (g.K.Sink.faults a.out.now)) in
    let y = state l.words l.slots (left_of l.streams.unread) (output_of (g.K.Sink.taken l.out) l.streams.page (g.K.Sink.faults l.out)) in
    let n = c.exec.new in
    let z = state n.words n.slots (left_of n.streams.unread) (output_of (g.K.Sink.taken n.out) n.streams.page (g.K.Sink.faults n.out)) in
    let p = stmt calls b (stmts_of a.statements.now) d rest in
    let more = stmts_of (drop (i + 1) a.statements.now) in
    let k = λ (f : Surroundings). stmt calls b more f rest in
    let is = one_statement a.statements.now i c.statement-item.result (omega arith) c.statement-item.is in
    exits texts p (stmt calls b (stmt_of c.statement-item.result) e k) (k z.around) (rest z.around) x y z c.from_residual.result _ (r.1 ∙ ap Err r.2)
    (subst (λ (q : plain.Stmt). Follows texts p x (stmt calls b q e rest) y) is (l.invariant.follows calls rest)) (c.in_err-exec.ensures calls k)

pub exec_all-loop-statement-preserved : goal.exec_all-loop-statement-preserved
exec_all-loop-statement-preserved g t c =
    let texts = c.args.frame.now.program.now.texts in
    let b = binding c.args.frame.now in
    let l = c.loop-statement in
    let i = l.statement-index in
    let a = c.args in
    let d = around a.slots.now (left_of a.streams.now.unread) in
    let e = around l.slots (left_of l.streams.unread) in
    let x = state a.words.now a.slots.now (left_of a.streams.now.unread) (output_of (g.K.Sink.taken a.out.now) a.streams.now.page (g.K.Sink.faults a.out.now)) in
    let y = state l.words l.slots (left_of l.streams.unread) (output_of (g.K.Sink.taken l.out) l.streams.page (g.K.Sink.faults l.out)) in
    let more = stmts_of (drop (i + 1) a.statements.now) in
    let is = one_statement a.statements.now i c.statement-item.result (omega arith) c.statement-item.is in
    record {
      fits = subst (λ n. StmtFits (program_of a.frame.now.program.now) (λ u. 0) 0 (shapes_of a.frame.now) n more) (sym c.exec.auto.slots) (subst (StmtFits (program_of a.frame.now.program.now) (λ u. 0) 0 (shapes_of a.frame.now) (length l.slots)) is l.invariant.fits).1;
      calls = (subst (HasOnly (Unit {0}) (Unit {0}) ⊥) is l.invariant.calls).1;
      lane = subst (λ n. SlotsWithin n more) (sym c.exec.auto.lane) (subst (SlotsWithin (length l.lane)) is l.invariant.lane).1;
      follows = λ calls rest.
          let k = λ (f : Surroundings). stmt calls b more f rest in
          let p = stmt calls b (stmts_of a.statements.now) d rest in
          follows_after texts (subst (λ (q : plain.Stmt). Follows texts p x (stmt calls b q e rest) y) is (l.invariant.follows calls rest)) (c.in_ok-exec.ensures calls k);
    }

pub exec_all-returns : goal.exec_all-returns
exec_all-returns g t c = λ calls rest.
    let texts = c.args.frame.now.program.now.texts in
    let b = binding c.args.frame.now in
    let l = c.loop-statement in
    let a = c.args in
    let d = around a.slots.now (left_of a.streams.now.unread) in
    let e = around l.slots (left_of l.streams.unread) in
    let x = state a.words.now a.slots.now (left_of a.streams.now.unread) (output_of (g.K.Sink.taken a.out.now) a.streams.now.page (g.K.Sink.faults a.out.now)) in
    let y = state l.words l.slots (left_of l.streams.unread) (output_of (g.K.Sink.taken l.out) l.streams.page (g.K.Sink.faults l.out)) in
    let p = stmt calls b (stmts_of a.statements.now) d rest in
    let is = ap stmts_of (none_left a.statements.now l.statement-index (omega arith)) in
    subst (λ (q : plain.Stmt). Follows texts p x (stmt calls b q e rest) y) is (l.invariant.follows calls rest)

pub exec-returns-in_err-assign-in-Assign : goal.exec-returns-in_err-assign-in-Assign
exec-returns-in_err-assign-in-Assign g t c = λ calls rest.
    let r = err_from_is_err_and c.from_residual.result c.from_residual.ensures.1 in
    let texts = c.args.frame.now.program.now.texts in
    let b = binding c.args.frame.now in
    let a = c.args in
    let s = c.in-Assign in
    let left = left_of a.streams.now.unread in
    let d = around a.slots.now left in
    let x = state a.words.now a.slots.now left (output_of (g.K.Sink.taken a.out.now) a.streams.now.page (g.K.Sink.faults a.out.now)) in
    let n = c.assign.new in
    let z = state n.words n.slots left (output_of (g.K.Sink.taken a.out.now) a.streams.now.page (g.K.Sink.faults a.out.now)) in
    let p = stmt calls b (stmt_of a.statement.now) d rest in
    let q = assign b s.line (target_of s.target) (expr_of s.value) d rest in
    let is = ap (λ (w : plain.Stmt). stmt calls b w d rest) (ap stmt_of s.is ∙ at_assign s.line s.target s.value) in
    faults texts p q (rest z.around) x x z c.from_residual.result c.in_err-assign-in-Assign.field-0.0 (r.1 ∙ ap Err r.2) (begun texts is) (c.in_err-assign-in-Assign.ensures left rest) refl

pub exec_other-computed-requires-clause-fits : goal.exec_other-computed-requires-clause-fits
exec_other-computed-requires-clause-fits g t c =
    let a = c.args in
    let l = c.loop-arm in
    let is = one_arm c.as_slice-arm-items.result.now (stmts_of c.in-If.other) l.arm-index c.arm-item.result (omega arith) c.arm-item.is in
    (subst (StmtFits (program_of a.frame.now.program.now) (λ u. 0) 0 (shapes_of a.frame.now) (length l.slots)) is l.invariant.fits).0

pub exec_other-returns-in_err-holds-in-If : goal.exec_other-returns-in_err-holds-in-If
exec_other-returns-in_err-holds-in-If g t c = λ calls rest.
    let r = err_from_is_err_and c.from_residual.result c.from_residual.ensures.1 in
    let texts = c.args.frame.now.program.now.texts in
    let b = binding c.args.frame.now in
    let a = c.args in
    let l = c.loop-arm in
    let arm = c.arm-item.result in
    let arms = c.as_slice-arm-items.result.now in
    let others = stmts_of c.in-If.other in
    let more = arms_of (drop (l.arm-index + 1) arms) others in
    let left = left_of l.streams.unread in
    let d = around a.slots.now (left_of a.streams.now.unread) in
    let e = around l.slots left in
    let x = state a.words.now a.slots.now (left_of a.streams.now.unread) (output_of (g.K.Sink.taken a.out.now) a.streams.now.page (g.K.Sink.faults a.out.now)) in
    let y = state l.words l.slots left (output_of (g.K.Sink.taken l.out) l.streams.page (g.K.Sink.faults l.out)) in
    let p = stmt calls b (stmt_of a.statement.now) d rest in
    let is = one_arm arms others l.arm-index arm (omega arith) c.arm-item.is in
    let k = λ (v : ℤ). branch v (stmt calls b (stmts_of arm.body) e rest) (stmt calls b more e rest) in
    let q = expr b arm.line (expr_of arm.cond) e k in
    let here = subst (λ (w : plain.Stmt). Follows texts p x (stmt calls b w e rest) y) is (l.invariant.follows calls rest) in
    faults texts p q (rest e) x y y c.from_residual.result c.in_err-holds-in-If.field-0.0 (r.1 ∙ ap Err r.2) (follows_after texts here (ticked texts)) (c.in_err-holds-in-If.ensures left k) refl

pub exec_other-returns-then-holds-ne0 : goal.exec_other-returns-then-holds-ne0
exec_other-returns-then-holds-ne0 g t c = λ calls rest.
    let texts = c.args.frame.now.program.now.texts in
    let b = binding c.args.frame.now in
    let a = c.args in
    let l = c.loop-arm in
    let arm = c.arm-item.result in
    let arms = c.as_slice-arm-items.result.now in
    let others = stmts_of c.in-If.other in
    let more = arms_of (drop (l.arm-index + 1) arms) others in
    let left = left_of l.streams.unread in
    let d = around a.slots.now (left_of a.streams.now.unread) in
    let e = around l.slots left in
    let x = state a.words.now a.slots.now (left_of a.streams.now.unread) (output_of (g.K.Sink.taken a.out.now) a.streams.now.page (g.K.Sink.faults a.out.now)) in
    let y = state l.words l.slots left (output_of (g.K.Sink.taken l.out) l.streams.page (g.K.Sink.faults l.out)) in
    let n = c.exec_all.new in
    let z = state n.words n.slots (left_of n.streams.unread) (output_of (g.K.Sink.taken n.out) n.streams.page (g.K.Sink.faults n.out)) in
    let p = stmt calls b (stmt_of a.statement.now) d rest in
    let is = one_arm arms others l.arm-index arm (omega arith) c.arm-item.is in
    let taken = stmt calls b (stmts_of arm.body) e rest in
    let passed = stmt calls b more e rest in
    let k = λ (v : ℤ). branch v taken passed in
    let q = expr b arm.line (expr_of arm.cond) e k in
    let here = follows_after texts (subst (λ (w : plain.Stmt). Follows texts p x (stmt calls b w e rest) y) is (l.invariant.follows calls rest)) (ticked texts) in
    let v = c.in_ok-holds-in-If.holds in
    let some : v ≡ pos 0 → ⊥ = search rules in
    let chosen = subst (λ (w : Process). Same q (store_of l.words) w (store_of l.words)) (is_taken v taken passed some) (c.in_ok-holds-in-If.ensures left k) in
    comes_after texts p taken (rest z.around) x y z c.exec_all.result (follows_after texts here (same_follows texts chosen refl)) (rw c.as_slice.ensures at (c.exec_all.ensures calls rest))

pub exec_other-loop-arm-preserved : goal.exec_other-loop-arm-preserved
exec_other-loop-arm-preserved g t c =
    let texts = c.args.frame.now.program.now.texts in
    let b = binding c.args.frame.now in
    let a = c.args in
    let l = c.loop-arm in
    let arm = c.arm-item.result in
    let arms = c.as_slice-arm-items.result.now in
    let others = stmts_of c.in-If.other in
    let more = arms_of (drop (l.arm-index + 1) arms) others in
    let left = left_of l.streams.unread in
    let d = around a.slots.now (left_of a.streams.now.unread) in
    let e = around l.slots left in
    let x = state a.words.now a.slots.now (left_of a.streams.now.unread) (output_of (g.K.Sink.taken a.out.now) a.streams.now.page (g.K.Sink.faults a.out.now)) in
    let y = state l.words l.slots left (output_of (g.K.Sink.taken l.out) l.streams.page (g.K.Sink.faults l.out)) in
    let is = one_arm arms others l.arm-index arm (omega arith) c.arm-item.is in
    let v = c.in_ok-holds-in-If.holds in
    let none : v ≡ pos 0 = search rules in
    record {
      fits = (subst (StmtFits (program_of a.frame.now.program.now) (λ u. 0) 0 (shapes_of a.frame.now) (length l.slots)) is l.invariant.fits).2;
      calls = (subst (HasOnly (Unit {0}) (Unit {0}) ⊥) is l.invariant.calls).1;
      lane = (subst (SlotsWithin (length l.lane)) is l.invariant.lane).1;
      follows = λ calls rest.
          let p = stmt calls b (stmt_of a.statement.now) d rest in
          let taken = stmt calls b (stmts_of arm.body) e rest in
          let passed = stmt calls b more e rest in
          let k = λ (w : ℤ). branch w taken passed in
          let q = expr b arm.line (expr_of arm.cond) e k in
          let here = follows_after texts (subst (λ (w : plain.Stmt). Follows texts p x (stmt calls b w e rest) y) is (l.invariant.follows calls rest)) (ticked texts) in
          let chosen = subst (λ (w : Process). Same q (store_of l.words) w (store_of l.words)) (is_passed v taken passed none) (c.in_ok-holds-in-If.ensures left k) in
          follows_after texts here (same_follows texts chosen refl);
    }

pub exec_other-returns-after-loop-arm : goal.exec_other-returns-after-loop-arm
exec_other-returns-after-loop-arm g t c = λ calls rest.
    let texts = c.args.frame.now.program.now.texts in
    let b = binding c.args.frame.now in
    let a = c.args in
    let l = c.loop-arm in
    let others = stmts_of c.in-If.other in
    let d = around a.slots.now (left_of a.streams.now.unread) in
    let e = around l.slots (left_of l.streams.unread) in
    let x = state a.words.now a.slots.now (left_of a.streams.now.unread) (output_of (g.K.Sink.taken a.out.now) a.streams.now.page (g.K.Sink.faults a.out.now)) in
    let y = state l.words l.slots (left_of l.streams.unread) (output_of (g.K.Sink.taken l.out) l.streams.page (g.K.Sink.faults l.out)) in
    let n = c.exec_all-in-If.new in
    let z = state n.words n.slots (left_of n.streams.unread) (output_of (g.K.Sink.taken n.out) n.streams.page (g.K.Sink.faults n.out)) in
    let p = stmt calls b (stmt_of a.statement.now) d rest in
    let is = ap (λ k. arms_of k others) (none_left c.as_slice-arm-items.result.now l.arm-index (omega arith)) in
    comes_after texts p (stmt calls b others e rest) (rest z.around) x y z c.exec_all-in-If.result
    (subst (λ (w : plain.Stmt). Follows texts p x (stmt calls b w e rest) y) is (l.invariant.follows calls rest))
    (rw c.as_slice-in-If.ensures at (c.exec_all-in-If.ensures calls rest))

pub exec_other-returns-in_err-turns-in-Do : goal.exec_other-returns-in_err-turns-in-Do
exec_other-returns-in_err-turns-in-Do g t c = λ calls rest.
    let r = err_from_is_err_and c.from_residual-in_err-turns-in-Do.result c.from_residual-in_err-turns-in-Do.ensures.1 in
    let texts = c.args.frame.now.program.now.texts in
    let b = binding c.args.frame.now in
    let a = c.args in
    let o = c.in-Do in
    let left = left_of a.streams.now.unread in
    let d = around a.slots.now left in
    let x = state a.words.now a.slots.now left (output_of (g.K.Sink.taken a.out.now) a.streams.now.page (g.K.Sink.faults a.out.now)) in
    let n = c.begin.new in
    let z = state n.words n.slots left (output_of (g.K.Sink.taken a.out.now) a.streams.now.page (g.K.Sink.faults a.out.now)) in
    let p = stmt calls b (stmt_of a.statement.now) d rest in
    let body = stmt calls b (stmts_of o.body) in
    let q = counted b (control_of o.control) o.first o.again o.bump body d rest in
    let is = ap (λ (w : plain.Stmt). stmt calls b w d rest) (ap stmt_of o.is ∙ at_do o.control o.first o.body o.again o.bump) in
    let h = c.in_err-turns-in-Do.ensures.begins left body rest in
    faults texts p q (rest z.around) x x z c.from_residual-in_err-turns-in-Do.result c.in_err-turns-in-Do.field-0.0 (r.1 ∙ ap Err r.2) (begun texts is) (record { output = h.output; ends = h.ends }) refl

pub exec_other-returns-in_ok-turns-in-Do : goal.exec_other-returns-in_ok-turns-in-Do
exec_other-returns-in_ok-turns-in-Do g t c = λ calls rest.
    let texts = c.args.frame.now.program.now.texts in
    let b = binding c.args.frame.now in
    let a = c.args in
    let o = c.in-Do in
    let w = c.in_ok-turns-in-Do.turns in
    let left = left_of a.streams.now.unread in
    let d = around a.slots.now left in
    let m = c.begin.new in
    let e = around m.slots left in
    let x = state a.words.now a.slots.now left (output_of (g.K.Sink.taken a.out.now) a.streams.now.page (g.K.Sink.faults a.out.now)) in
    let y = state m.words m.slots left (output_of (g.K.Sink.taken a.out.now) a.streams.now.page (g.K.Sink.faults a.out.now)) in
    let n = c.repeat.new in
    let z = state n.words n.slots (left_of n.streams.unread) (output_of (g.K.Sink.taken n.out) n.streams.page (g.K.Sink.faults n.out)) in
    let p = stmt calls b (stmt_of a.statement.now) d rest in
    let body = stmt calls b (stmts_of o.body) in
    let is = ap (λ (v : plain.Stmt). stmt calls b v d rest) (ap stmt_of o.is ∙ at_do o.control o.first o.body o.again o.bump) in
    comes_after texts p (turns_left w.count b w body e rest) (rest z.around) x y z c.repeat.result
    (follows_after texts (begun texts is) (same_follows texts (c.in_ok-turns-in-Do.ensures.begins left body rest) refl))
    (rw c.as_slice-in-Do.ensures at (c.repeat.ensures calls rest))

pub exec_other-print-requires-clause-fits : goal.exec_other-print-requires-clause-fits
exec_other-print-requires-clause-fits g t c =
    let a = c.args in
    let f = a.frame.now in
    let fits = subst (StmtFits (program_of f.program.now) (λ u. 0) 0 (shapes_of f) (length a.slots.now)) (ap stmt_of c.in-Print.is ∙ at_print c.in-Print.line c.in-Print.items) c.requires.fits in
    rw c.as_slice-in-Print.ensures (each_image (ItemFits f.program.now.objects (shapes_of f) (length a.slots.now) (length f.program.now.texts)) item_of c.in-Print.items fits)

pub exec_other-read-requires-clause-fits : goal.exec_other-read-requires-clause-fits
exec_other-read-requires-clause-fits g t c =
    let a = c.args in
    let f = a.frame.now in
    let fits = subst (StmtFits (program_of f.program.now) (λ u. 0) 0 (shapes_of f) (length a.slots.now)) (ap stmt_of c.in-Read.is ∙ at_read c.in-Read.line c.in-Read.targets) c.requires.fits in
    rw c.as_slice-in-Read.ensures (each_image (TargetFits f.program.now.objects (shapes_of f) (length a.slots.now)) target_of c.in-Read.targets fits)

pub exec_other-returns-in-Print : goal.exec_other-returns-in-Print
exec_other-returns-in-Print g t c = λ calls rest.
    let texts = c.args.frame.now.program.now.texts in
    let b = binding c.args.frame.now in
    let a = c.args in
    let o = c.in-Print in
    let left = left_of a.streams.now.unread in
    let d = around a.slots.now left in
    let x = state a.words.now a.slots.now left (output_of (g.K.Sink.taken a.out.now) a.streams.now.page (g.K.Sink.faults a.out.now)) in
    let z = state a.words.now a.slots.now left (output_of (g.K.Sink.taken c.print.new.out) c.print.new.page (g.K.Sink.faults c.print.new.out)) in
    let p = stmt calls b (stmt_of a.statement.now) d rest in
    let q = items b o.line true (map item_of o.items) d (rest d) in
    let is = ap (λ (w : plain.Stmt). stmt calls b w d rest) (ap stmt_of o.is ∙ at_print o.line o.items) in
    comes_after texts p q (rest d) x x z c.print.result (begun texts is) (rw c.as_slice-in-Print.ensures at (c.print.ensures left (rest d)))

pub repeat-returns-in_err-exec_all : goal.repeat-returns-in_err-exec_all
repeat-returns-in_err-exec_all g t c = λ calls rest.
    let r = err_from_is_err_and c.from_residual.result c.from_residual.ensures.1 in
    let texts = c.args.frame.now.program.now.texts in
    let b = binding c.args.frame.now in
    let a = c.args in
    let l = c.loop in
    let body = stmt calls b (stmts_of a.body.now) in
    let raised = raise b a.turns.line a.turns.again a.turns.bump a.turns.by in
    let x = state a.words.now a.slots.now (left_of a.streams.now.unread) (output_of (g.K.Sink.taken a.out.now) a.streams.now.page (g.K.Sink.faults a.out.now)) in
    let y = state l.words l.slots (left_of l.streams.unread) (output_of (g.K.Sink.taken l.out) l.streams.page (g.K.Sink.faults l.out)) in
    let n = c.exec_all.new in
    let z = state n.words n.slots (left_of n.streams.unread) (output_of (g.K.Sink.taken n.out) n.streams.page (g.K.Sink.faults n.out)) in
    let p = turns a.turns.count body raised x.around rest in
    let k = λ (d : Surroundings). raised d (λ e. turns (a.turns.count - (l.counter + 1)) body raised e rest) in
    exits texts p (body y.around k) (k z.around) (rest z.around) x y z c.from_residual.result _ (r.1 ∙ ap Err r.2)
    (one_turn texts a.turns.count l.counter body raised rest p x y (omega arith) (l.invariant calls rest)) (c.in_err-exec_all.ensures calls k)

pub repeat-returns-in_err-raise : goal.repeat-returns-in_err-raise
repeat-returns-in_err-raise g t c = λ calls rest.
    let r = err_from_is_err_and c.from_residual-in_err-raise.result c.from_residual-in_err-raise.ensures.1 in
    let texts = c.args.frame.now.program.now.texts in
    let b = binding c.args.frame.now in
    let a = c.args in
    let l = c.loop in
    let body = stmt calls b (stmts_of a.body.now) in
    let raised = raise b a.turns.line a.turns.again a.turns.bump a.turns.by in
    let x = state a.words.now a.slots.now (left_of a.streams.now.unread) (output_of (g.K.Sink.taken a.out.now) a.streams.now.page (g.K.Sink.faults a.out.now)) in
    let y = state l.words l.slots (left_of l.streams.unread) (output_of (g.K.Sink.taken l.out) l.streams.page (g.K.Sink.faults l.out)) in
    let n = c.exec_all.new in
    let left = left_of n.streams.unread in
    let z = state n.words n.slots left (output_of (g.K.Sink.taken n.out) n.streams.page (g.K.Sink.faults n.out)) in
    let m = c.raise.new in
    let w = state m.words m.slots left (output_of (g.K.Sink.taken n.out) n.streams.page (g.K.Sink.faults n.out)) in
    let p = turns a.turns.count body raised x.around rest in
    let later = λ (e : Surroundings). turns (a.turns.count - (l.counter + 1)) body raised e rest in
    let k = λ (d : Surroundings). raised d later in
    let here = follows_after texts (one_turn texts a.turns.count l.counter body raised rest p x y (omega arith) (l.invariant calls rest)) (c.in_ok-exec_all.ensures calls k) in
    faults texts p (k z.around) (rest w.around) x z w c.from_residual-in_err-raise.result c.in_err-raise.field-0.0 (r.1 ∙ ap Err r.2) here (c.in_err-raise.ensures left later) refl

pub repeat-loop-preserved : goal.repeat-loop-preserved
repeat-loop-preserved g t c = λ calls rest.
    let texts = c.args.frame.now.program.now.texts in
    let b = binding c.args.frame.now in
    let a = c.args in
    let l = c.loop in
    let body = stmt calls b (stmts_of a.body.now) in
    let raised = raise b a.turns.line a.turns.again a.turns.bump a.turns.by in
    let x = state a.words.now a.slots.now (left_of a.streams.now.unread) (output_of (g.K.Sink.taken a.out.now) a.streams.now.page (g.K.Sink.faults a.out.now)) in
    let y = state l.words l.slots (left_of l.streams.unread) (output_of (g.K.Sink.taken l.out) l.streams.page (g.K.Sink.faults l.out)) in
    let left = left_of c.exec_all.new.streams.unread in
    let p = turns a.turns.count body raised x.around rest in
    let later = λ (e : Surroundings). turns (a.turns.count - (l.counter + 1)) body raised e rest in
    let k = λ (d : Surroundings). raised d later in
    let here = follows_after texts (one_turn texts a.turns.count l.counter body raised rest p x y (omega arith) (l.invariant calls rest)) (c.in_ok-exec_all.ensures calls k) in
    follows_after texts here (same_follows texts (c.in_ok-raise.ensures left later) refl)

pub repeat-returns : goal.repeat-returns
repeat-returns g t c = λ calls rest.
    let texts = c.args.frame.now.program.now.texts in
    let b = binding c.args.frame.now in
    let a = c.args in
    let l = c.loop in
    let body = stmt calls b (stmts_of a.body.now) in
    let raised = raise b a.turns.line a.turns.again a.turns.bump a.turns.by in
    let x = state a.words.now a.slots.now (left_of a.streams.now.unread) (output_of (g.K.Sink.taken a.out.now) a.streams.now.page (g.K.Sink.faults a.out.now)) in
    let y = state l.words l.slots (left_of l.streams.unread) (output_of (g.K.Sink.taken l.out) l.streams.page (g.K.Sink.faults l.out)) in
    let p = turns a.turns.count body raised x.around rest in
    no_turn texts a.turns.count l.counter body raised rest p x y (omega arith) (l.invariant calls rest)

pub exec_other-returns-in_ok-fork-in-Doall : goal.exec_other-returns-in_ok-fork-in-Doall
exec_other-returns-in_ok-fork-in-Doall g t c = λ calls rest.
    let texts = c.args.frame.now.program.now.texts in
    let b = binding c.args.frame.now in
    let a = c.args in
    let o = c.in-Doall in
    let f = c.in_ok-fork-in-Doall.fork in
    let left = left_of a.streams.now.unread in
    let d = around a.slots.now left in
    let x = state a.words.now a.slots.now left (output_of (g.K.Sink.taken a.out.now) a.streams.now.page (g.K.Sink.faults a.out.now)) in
    let n = c.iterate.new in
    let z = state n.words a.slots.now (left_of n.streams.unread) (output_of (g.K.Sink.taken n.out) n.streams.page (g.K.Sink.faults n.out)) in
    let p = stmt calls b (stmt_of a.statement.now) d rest in
    let body = stmt calls b (stmts_of o.body) in
    let is = ap (λ (v : plain.Stmt). stmt calls b v d rest) (ap stmt_of o.is ∙ at_doall o.control o.number o.own o.body) in
    comes_after texts p (forked b o.number f body d rest) (rest z.around) x x z c.iterate.result
    (follows_after texts (begun texts is) (same_follows texts (c.in_ok-fork-in-Doall.ensures.forks o.number left body rest) refl))
    (rw c.as_slice-in-Doall.ensures at (c.iterate.ensures a.slots.now calls o.number rest))

pub iterate-loop-k-init : goal.iterate-loop-k-init
iterate-loop-k-init g t c = λ slots calls number rest.
    let a = c.args in
    let d = around slots (left_of a.streams.now.unread) in
    same_follows a.frame.now.program.now.texts (is_in_order calls (binding a.frame.now) (stmts_of a.body.now) number (a.fork.count - 0) a.fork d rest (store_of a.words.now) c.requires.alone (omega arith)) refl

pub iterate-exec_all-requires : goal.iterate-exec_all-requires
iterate-exec_all-requires g t c =
    let a = c.args in
    let f = a.frame.now in
    let body = stmts_of a.body.now in
    let same : length a.lane.now ≡ length c.begin_iteration.new.lane = omega arith in
    let fits = subst (λ n. StmtFits (program_of f.program.now) (λ u. 0) 0 (shapes_of f) n body) same c.requires.fits in
    let calls = allowed {talks' = Unit {0}} {doalls' = Unit {0}} {calls' = ⊥} (λ h. absurd h) (λ h. absurd h) (λ h. h) body c.requires.alone in
    λ κs lives. (search rules, (lives, (c.requires.placed, (search rules, (fits, (calls, none_needed ⊥ ⊥ (length c.loop-k.others) body c.requires.alone))))))

pub iterate-returns-in_err-exec_all : goal.iterate-returns-in_err-exec_all
iterate-returns-in_err-exec_all g t c = λ slots calls number rest.
    let r = err_from_is_err_and c.from_residual.result c.from_residual.ensures.1 in
    let texts = c.args.frame.now.program.now.texts in
    let b = binding c.args.frame.now in
    let a = c.args in
    let f = a.fork in
    let l = c.loop-k in
    let lane = c.begin_iteration.new.lane in
    let left = left_of l.streams.unread in
    let body = stmt calls b (stmts_of a.body.now) in
    let output = output_of (g.K.Sink.taken l.out) l.streams.page (g.K.Sink.faults l.out) in
    let x = state a.words.now slots (left_of a.streams.now.unread) (output_of (g.K.Sink.taken a.out.now) a.streams.now.page (g.K.Sink.faults a.out.now)) in
    let y = state l.words slots left output in
    let w = state l.words lane left output in
    let n = c.exec_all.new in
    let after = left_of n.streams.unread in
    let o = output_of (g.K.Sink.taken n.out) n.streams.page (g.K.Sink.faults n.out) in
    let z = state n.words n.slots after o in
    let p = forked b number f body x.around rest in
    let k = λ (d : Surroundings). iterations_left (f.count - (l.k + 1)) (l.k + 1) f.from f.by body (record { slots = store_of slots; input = d.input }) rest in
    let q = body (around lane left) k in
    let here = one_iteration texts f.count l.k f.from f.by body slots lane left rest p x y (omega arith) c.begin_iteration.ensures (l.invariant slots calls number rest) in
    let there = follows_there texts p x (store_of l.words) y.around w.around output q here in
    comes_there texts p x (store_of n.words) z.around (around slots after) o (rest (around slots after)) c.from_residual.result
    (exits texts p q (k z.around) (rest (around slots after)) x w z c.from_residual.result _ (r.1 ∙ ap Err r.2) there (c.in_err-exec_all.ensures calls k))

pub iterate-loop-k-preserved : goal.iterate-loop-k-preserved
iterate-loop-k-preserved g t c = λ slots calls number rest.
    let texts = c.args.frame.now.program.now.texts in
    let b = binding c.args.frame.now in
    let a = c.args in
    let f = a.fork in
    let l = c.loop-k in
    let lane = c.begin_iteration.new.lane in
    let left = left_of l.streams.unread in
    let body = stmt calls b (stmts_of a.body.now) in
    let output = output_of (g.K.Sink.taken l.out) l.streams.page (g.K.Sink.faults l.out) in
    let x = state a.words.now slots (left_of a.streams.now.unread) (output_of (g.K.Sink.taken a.out.now) a.streams.now.page (g.K.Sink.faults a.out.now)) in
    let y = state l.words slots left output in
    let w = state l.words lane left output in
    let n = c.exec_all.new in
    let after = left_of n.streams.unread in
    let o = output_of (g.K.Sink.taken n.out) n.streams.page (g.K.Sink.faults n.out) in
    let z = state n.words n.slots after o in
    let p = forked b number f body x.around rest in
    let k = λ (d : Surroundings). iterations_left (f.count - (l.k + 1)) (l.k + 1) f.from f.by body (record { slots = store_of slots; input = d.input }) rest in
    let q = body (around lane left) k in
    let here = one_iteration texts f.count l.k f.from f.by body slots lane left rest p x y (omega arith) c.begin_iteration.ensures (l.invariant slots calls number rest) in
    let there = follows_there texts p x (store_of l.words) y.around w.around output q here in
    follows_there texts p x (store_of n.words) z.around (around slots after) o (k z.around) (follows_after texts there (c.in_ok-exec_all.ensures calls k))

pub iterate-returns : goal.iterate-returns
iterate-returns g t c = λ slots calls number rest.
    let a = c.args in
    let f = a.fork in
    let l = c.loop-k in
    let b = binding a.frame.now in
    let body = stmt calls b (stmts_of a.body.now) in
    let x = state a.words.now slots (left_of a.streams.now.unread) (output_of (g.K.Sink.taken a.out.now) a.streams.now.page (g.K.Sink.faults a.out.now)) in
    let y = state l.words slots (left_of l.streams.unread) (output_of (g.K.Sink.taken l.out) l.streams.page (g.K.Sink.faults l.out)) in
    no_iteration a.frame.now.program.now.texts f.count l.k f.from f.by body y.around rest (forked b number f body x.around rest) x y (omega arith) (l.invariant slots calls number rest)
