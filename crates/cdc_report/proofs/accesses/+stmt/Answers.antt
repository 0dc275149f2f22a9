use Rattle.std.proofs.Common.{true, false, List, [], ◌∷◌, ◌++◌, map, drop_of_length-le, append_assoc, sym, ap, ◌∙◌, arith}
use Rattle.cdc_prog.specs.Dependence.{spot, index_of, inside}
use Rattle.cdc_prog.specs.declared.stmt.Arm.{Arm}
use Rattle.cdc_prog.specs.Plain as plain
use Rattle.cdc_prog.specs.Translation.{expr_of, control_of, item_of, target_of, actual_of, stmt_of, stmts_of, arms_of}
use Rattle.cdc_prog.proofs.Translated.{at_assign, at_if, at_do, at_doall, at_call, at_print, at_read}
use Rattle.cdc_path.specs.References.{expr_refs, controls_refs, items_refs, reads_refs, actuals_refs, store_ref, inside_doall, refs}
use Rattle.cdc_report.specs.MarkLines.{access_line}
use Rattle.cdc_report.proofs.Reached.{start, along, onward, failed, finished, over}
use Rattle.cdc_report.proofs.Walks.{one_left, arms_next, arms_refs}
use Rattle.cdc_report.proofs.accesses.+stmt.Goals as goal

pub gather_stmt-returns-in-Assign : goal.gather_stmt-returns-in-Assign
gather_stmt-returns-in-Assign g t c = λ sc.
    let L = access_line c.args.sites.now in
    let s = c.in-Assign in
    let a = refs sc (plain.Assign s.line (target_of s.target) (expr_of s.value)) in
    finished L a c.gather_assign.result (start L a _ _ _ (ap (refs sc) (ap stmt_of s.is ∙ at_assign s.line s.target s.value))) (c.gather_assign.ensures sc)

pub gather_stmt-returns-in_err-gather_arms-in-If : goal.gather_stmt-returns-in_err-gather_arms-in-If
gather_stmt-returns-in_err-gather_arms-in-If g t c = λ sc.
    let L = access_line c.args.sites.now in
    let s = c.in-If in
    let a = refs sc (arms_of s.arms plain.Skip) in
    let b = refs sc (stmts_of s.other) in
    let is = ap (refs sc) (ap stmt_of s.is ∙ at_if s.arms s.other) ∙ arms_refs sc s.arms (stmts_of s.other) in
    failed L a b c.from_residual.result (start L (a ++ b) _ _ _ is) c.from_residual.ensures.0 (c.in_err-gather_arms-in-If.ensures sc).part

pub gather_stmt-returns-in_ok-gather_arms-in-If : goal.gather_stmt-returns-in_ok-gather_arms-in-If
gather_stmt-returns-in_ok-gather_arms-in-If g t c = λ sc.
    let L = access_line c.args.sites.now in
    let s = c.in-If in
    let a = refs sc (arms_of s.arms plain.Skip) in
    let b = refs sc (stmts_of s.other) in
    let is = ap (refs sc) (ap stmt_of s.is ∙ at_if s.arms s.other) ∙ arms_refs sc s.arms (stmts_of s.other) in
    finished L b c.gather_stmts.result (onward L a b (start L (a ++ b) _ _ _ is) (c.in_ok-gather_arms-in-If.ensures sc).whole) (c.gather_stmts.ensures sc)

pub gather_stmt-returns-in_err-gather_start-in-Do : goal.gather_stmt-returns-in_err-gather_start-in-Do
gather_stmt-returns-in_err-gather_start-in-Do g t c = λ sc.
    let L = access_line c.args.sites.now in
    let s = c.in-Do in
    let k = control_of s.control in
    let a = controls_refs sc k ++ store_ref sc s.first plain.Empty in
    let b = refs (inside sc (index_of k s.first)) (stmts_of s.body) in
    let d = spot sc false s.again plain.Empty ∷ spot sc true s.bump plain.Empty ∷ [] in
    let is = ap (refs sc) (ap stmt_of s.is ∙ at_do s.control s.first s.body s.again s.bump) ∙ sym (append_assoc (controls_refs sc k) (store_ref sc s.first plain.Empty) (b ++ d)) in
    failed L a (b ++ d) c.from_residual-in_err-gather_start-in-Do.result (start L (a ++ (b ++ d)) _ _ _ is) c.from_residual-in_err-gather_start-in-Do.ensures.0 (c.in_err-gather_start-in-Do.ensures sc).part

pub gather_stmt-returns-in_err-gather_stmts-in-Do : goal.gather_stmt-returns-in_err-gather_stmts-in-Do
gather_stmt-returns-in_err-gather_stmts-in-Do g t c = λ sc.
    let L = access_line c.args.sites.now in
    let s = c.in-Do in
    let k = control_of s.control in
    let a = controls_refs sc k ++ store_ref sc s.first plain.Empty in
    let b = refs (inside sc (index_of k s.first)) (stmts_of s.body) in
    let d = spot sc false s.again plain.Empty ∷ spot sc true s.bump plain.Empty ∷ [] in
    let is = ap (refs sc) (ap stmt_of s.is ∙ at_do s.control s.first s.body s.again s.bump) ∙ sym (append_assoc (controls_refs sc k) (store_ref sc s.first plain.Empty) (b ++ d)) in
    failed L b d c.from_residual-in_err-gather_stmts-in-Do.result (onward L a (b ++ d) (start L (a ++ (b ++ d)) _ _ _ is) (c.in_ok-gather_start-in-Do.ensures sc).whole) c.from_residual-in_err-gather_stmts-in-Do.ensures.0 (c.in_err-gather_stmts-in-Do.ensures (inside sc (index_of k s.first))).part

pub gather_stmt-returns-in_ok-gather_stmts-in-Do : goal.gather_stmt-returns-in_ok-gather_stmts-in-Do
gather_stmt-returns-in_ok-gather_stmts-in-Do g t c = λ sc.
    let L = access_line c.args.sites.now in
    let s = c.in-Do in
    let k = control_of s.control in
    let a = controls_refs sc k ++ store_ref sc s.first plain.Empty in
    let b = refs (inside sc (index_of k s.first)) (stmts_of s.body) in
    let d = spot sc false s.again plain.Empty ∷ spot sc true s.bump plain.Empty ∷ [] in
    let is = ap (refs sc) (ap stmt_of s.is ∙ at_do s.control s.first s.body s.again s.bump) ∙ sym (append_assoc (controls_refs sc k) (store_ref sc s.first plain.Empty) (b ++ d)) in
    finished L d c.gather_raise.result (onward L b d (onward L a (b ++ d) (start L (a ++ (b ++ d)) _ _ _ is) (c.in_ok-gather_start-in-Do.ensures sc).whole) (c.in_ok-gather_stmts-in-Do.ensures (inside sc (index_of k s.first))).whole) (c.gather_raise.ensures sc)

pub gather_stmt-returns-in_err-gather_controls-in-Doall : goal.gather_stmt-returns-in_err-gather_controls-in-Doall
gather_stmt-returns-in_err-gather_controls-in-Doall g t c = λ sc.
    let L = access_line c.args.sites.now in
    let s = c.in-Doall in
    let k = control_of s.control in
    let a = controls_refs sc k in
    let b = refs (inside_doall sc k) (stmts_of s.body) in
    let is = ap (refs sc) (ap stmt_of s.is ∙ at_doall s.control s.number s.slots s.body) in
    failed L a b c.from_residual-in_err-gather_controls-in-Doall.result (start L (a ++ b) _ _ _ is) c.from_residual-in_err-gather_controls-in-Doall.ensures.0 (c.in_err-gather_controls-in-Doall.ensures sc).part

pub gather_stmt-returns-in_ok-gather_controls-in-Doall : goal.gather_stmt-returns-in_ok-gather_controls-in-Doall
gather_stmt-returns-in_ok-gather_controls-in-Doall g t c = λ sc.
    let L = access_line c.args.sites.now in
    let s = c.in-Doall in
    let k = control_of s.control in
    let a = controls_refs sc k in
    let b = refs (inside_doall sc k) (stmts_of s.body) in
    let is = ap (refs sc) (ap stmt_of s.is ∙ at_doall s.control s.number s.slots s.body) in
    finished L b c.gather_stmts-in-Doall.result (onward L a b (start L (a ++ b) _ _ _ is) (c.in_ok-gather_controls-in-Doall.ensures sc).whole) (c.gather_stmts-in-Doall.ensures (inside_doall sc k))

pub gather_stmt-returns-in-Call : goal.gather_stmt-returns-in-Call
gather_stmt-returns-in-Call g t c = λ sc.
    let L = access_line c.args.sites.now in
    let s = c.in-Call in
    let a = actuals_refs sc (map actual_of s.actuals) in
    finished L a c.gather_actuals.result (start L a _ _ _ (ap (refs sc) (ap stmt_of s.is ∙ at_call s.line s.unit s.actuals))) (c.gather_actuals.ensures sc)

pub gather_stmt-returns-in-Print : goal.gather_stmt-returns-in-Print
gather_stmt-returns-in-Print g t c = λ sc.
    let L = access_line c.args.sites.now in
    let s = c.in-Print in
    let a = items_refs sc (map item_of s.items) in
    finished L a c.gather_items.result (start L a _ _ _ (ap (refs sc) (ap stmt_of s.is ∙ at_print s.line s.items))) (c.gather_items.ensures sc)

pub gather_stmt-returns-in-Read : goal.gather_stmt-returns-in-Read
gather_stmt-returns-in-Read g t c = λ sc.
    let L = access_line c.args.sites.now in
    let s = c.in-Read in
    let a = reads_refs sc (map target_of s.targets) in
    finished L a c.gather_targets.result (start L a _ _ _ (ap (refs sc) (ap stmt_of s.is ∙ at_read s.line s.targets))) (c.gather_targets.ensures sc)

pub gather_stmts-loop-s-init : goal.gather_stmts-loop-s-init
gather_stmts-loop-s-init g t c = λ sc.
    let L = access_line c.args.sites.now in
    start L _ _ _ _ (ap (λ ss. refs sc (stmts_of ss)) (sym c.as_slice-s-items.ensures))

pub gather_stmts-returns-in_err-gather_stmt : goal.gather_stmts-returns-in_err-gather_stmt
gather_stmts-returns-in_err-gather_stmt g t c = λ sc.
    let L = access_line c.args.sites.now in
    let l = c.loop-s in
    let xs = c.as_slice-s-items.result.now in
    let is = ap (λ ss. refs sc (stmts_of ss)) (one_left xs l.s-index c.s-item.result (omega arith) c.s-item.is) in
    failed L (refs sc (stmt_of c.s-item.result)) _ c.from_residual.result (along L is (l.invariant sc)) c.from_residual.ensures.0 (c.in_err-gather_stmt.ensures sc).part

pub gather_stmts-loop-s-preserved : goal.gather_stmts-loop-s-preserved
gather_stmts-loop-s-preserved g t c = λ sc.
    let L = access_line c.args.sites.now in
    let l = c.loop-s in
    let xs = c.as_slice-s-items.result.now in
    let is = ap (λ ss. refs sc (stmts_of ss)) (one_left xs l.s-index c.s-item.result (omega arith) c.s-item.is) in
    onward L (refs sc (stmt_of c.s-item.result)) _ (along L is (l.invariant sc)) (c.in_ok-gather_stmt.ensures sc).whole

pub gather_stmts-returns : goal.gather_stmts-returns
gather_stmts-returns g t c = λ sc.
    let L = access_line c.args.sites.now in
    let l = c.loop-s in
    let xs = c.as_slice-s-items.result.now in
    over L tt (along L (ap (λ ss. refs sc (stmts_of ss)) (drop_of_length-le xs (omega arith))) (l.invariant sc))

pub gather_arms-loop-arm-init : goal.gather_arms-loop-arm-init
gather_arms-loop-arm-init g t c = λ sc.
    let L = access_line c.args.sites.now in
    start L _ _ _ _ (ap (λ (more : List Arm). refs sc (arms_of more plain.Skip)) (sym c.as_slice-arm-items.ensures))

pub gather_arms-returns-in_err-gather_expr : goal.gather_arms-returns-in_err-gather_expr
gather_arms-returns-in_err-gather_expr g t c = λ sc.
    let L = access_line c.args.sites.now in
    let l = c.loop-arm in
    let xs = c.as_slice-arm-items.result.now in
    let arm = c.arm-item.result in
    let a = expr_refs sc (expr_of arm.cond) in
    let b = refs sc (stmts_of arm.body) in
    let is = ap (refs sc) (arms_next xs plain.Skip l.arm-index arm (omega arith) c.arm-item.is) in
    failed L a _ c.from_residual.result (along L is (l.invariant sc)) c.from_residual.ensures.0 (c.in_err-gather_expr.ensures sc).part

pub gather_arms-returns-in_err-gather_stmts : goal.gather_arms-returns-in_err-gather_stmts
gather_arms-returns-in_err-gather_stmts g t c = λ sc.
    let L = access_line c.args.sites.now in
    let l = c.loop-arm in
    let xs = c.as_slice-arm-items.result.now in
    let arm = c.arm-item.result in
    let a = expr_refs sc (expr_of arm.cond) in
    let b = refs sc (stmts_of arm.body) in
    let is = ap (refs sc) (arms_next xs plain.Skip l.arm-index arm (omega arith) c.arm-item.is) in
    failed L b _ c.from_residual-in_err-gather_stmts.result (onward L a _ (along L is (l.invariant sc)) (c.in_ok-gather_expr.ensures sc).whole) c.from_residual-in_err-gather_stmts.ensures.0 (c.in_err-gather_stmts.ensures sc).part

pub gather_arms-loop-arm-preserved : goal.gather_arms-loop-arm-preserved
gather_arms-loop-arm-preserved g t c = λ sc.
    let L = access_line c.args.sites.now in
    let l = c.loop-arm in
    let xs = c.as_slice-arm-items.result.now in
    let arm = c.arm-item.result in
    let a = expr_refs sc (expr_of arm.cond) in
    let b = refs sc (stmts_of arm.body) in
    let is = ap (refs sc) (arms_next xs plain.Skip l.arm-index arm (omega arith) c.arm-item.is) in
    onward L b _ (onward L a _ (along L is (l.invariant sc)) (c.in_ok-gather_expr.ensures sc).whole) (c.in_ok-gather_stmts.ensures sc).whole

pub gather_arms-returns : goal.gather_arms-returns
gather_arms-returns g t c = λ sc.
    let L = access_line c.args.sites.now in
    let l = c.loop-arm in
    let xs = c.as_slice-arm-items.result.now in
    over L tt (along L (ap (λ (more : List Arm). refs sc (arms_of more plain.Skip)) (drop_of_length-le xs (omega arith))) (l.invariant sc))
