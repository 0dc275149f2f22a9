use Rattle.cdc_report.specs.declared.boundaries.Loop.{Loop}
use Rattle.std.proofs.Common.{List, [], ◌∷◌, ◌++◌, drop_of_length-le, sym, ap, ◌∙◌, arith}
use Rattle.cdc_prog.specs.declared.stmt.Arm.{Arm}
use Rattle.cdc_prog.specs.Plain as plain
use Rattle.cdc_prog.specs.Translation.{stmt_of, stmts_of, arms_of}
use Rattle.cdc_prog.proofs.Translated.{at_assign, at_if, at_do, at_doall, at_call, at_print, at_read}
use Rattle.cdc_report.specs.MarkLines.{loops, loop_lines}
use Rattle.cdc_report.proofs.Reached.{start, along, onward, failed, finished, over, one}
use Rattle.cdc_report.proofs.Walks.{one_left, arms_next, arms_loops}
use Rattle.cdc_report.proofs.boundaries.+loops.Goals as goal

pub gather_loops_in-returns-in_err-gather_arms-in-If : goal.gather_loops_in-returns-in_err-gather_arms-in-If
gather_loops_in-returns-in_err-gather_arms-in-If g t c =
    let L = loop_lines c.args.lists.now in
    let s = c.in-If in
    let a = loops (arms_of s.arms plain.Skip) in
    let b = loops (stmts_of s.other) in
    let is = ap loops (ap stmt_of s.is ∙ at_if s.arms s.other) ∙ arms_loops s.arms (stmts_of s.other) in
    failed L a b c.from_residual.result (start L (a ++ b) _ _ _ is) c.from_residual.ensures.0 c.in_err-gather_arms-in-If.ensures.part

pub gather_loops_in-returns-in_ok-gather_arms-in-If : goal.gather_loops_in-returns-in_ok-gather_arms-in-If
gather_loops_in-returns-in_ok-gather_arms-in-If g t c =
    let L = loop_lines c.args.lists.now in
    let s = c.in-If in
    let a = loops (arms_of s.arms plain.Skip) in
    let b = loops (stmts_of s.other) in
    let is = ap loops (ap stmt_of s.is ∙ at_if s.arms s.other) ∙ arms_loops s.arms (stmts_of s.other) in
    finished L b c.gather_loops.result (onward L a b (start L (a ++ b) _ _ _ is) c.in_ok-gather_arms-in-If.ensures.whole) c.gather_loops.ensures

pub gather_loops_in-returns-in-Do : goal.gather_loops_in-returns-in-Do
gather_loops_in-returns-in-Do g t c =
    let L = loop_lines c.args.lists.now in
    let s = c.in-Do in
    let a = loops (stmts_of s.body) in
    let is = ap loops (ap stmt_of s.is ∙ at_do s.control s.first s.body s.again s.bump) in
    finished L a c.gather_loops-in-Do.result (start L a _ _ _ is) c.gather_loops-in-Do.ensures

pub gather_loops_in-returns-in-Doall : goal.gather_loops_in-returns-in-Doall
gather_loops_in-returns-in-Doall g t c =
    let L = loop_lines c.args.lists.now in
    let s = c.in-Doall in
    let a : Loop = record { number = s.number; line = s.control.line } in
    let is = ap loops (ap stmt_of s.is ∙ at_doall s.control s.number s.slots s.body) in
    finished L (a ∷ []) c.gather_loop.result (start L (a ∷ []) _ _ _ is) (one L a c.gather_loop.result c.gather_loop.ensures)

pub gather_loops_in-returns-in-Assign : goal.gather_loops_in-returns-in-Assign
gather_loops_in-returns-in-Assign g t c =
    let L = loop_lines c.args.lists.now in
    let s = c.in-Assign in
    let is = ap loops (ap stmt_of s.is ∙ at_assign s.line s.target s.value) in
    over L tt (start L [] _ _ _ is)

pub gather_loops_in-returns-in-Call : goal.gather_loops_in-returns-in-Call
gather_loops_in-returns-in-Call g t c =
    let L = loop_lines c.args.lists.now in
    let s = c.in-Call in
    let is = ap loops (ap stmt_of s.is ∙ at_call s.line s.unit s.actuals) in
    over L tt (start L [] _ _ _ is)

pub gather_loops_in-returns-in-Print : goal.gather_loops_in-returns-in-Print
gather_loops_in-returns-in-Print g t c =
    let L = loop_lines c.args.lists.now in
    let s = c.in-Print in
    let is = ap loops (ap stmt_of s.is ∙ at_print s.line s.items) in
    over L tt (start L [] _ _ _ is)

pub gather_loops_in-returns-in-Read : goal.gather_loops_in-returns-in-Read
gather_loops_in-returns-in-Read g t c =
    let L = loop_lines c.args.lists.now in
    let s = c.in-Read in
    let is = ap loops (ap stmt_of s.is ∙ at_read s.line s.targets) in
    over L tt (start L [] _ _ _ is)

pub gather_loops-loop-s-init : goal.gather_loops-loop-s-init
gather_loops-loop-s-init g t c =
    let L = loop_lines c.args.lists.now in
    start L _ _ _ _ (ap (λ ss. loops (stmts_of ss)) (sym c.as_slice-s-items.ensures))

pub gather_loops-returns-in_err-gather_loops_in : goal.gather_loops-returns-in_err-gather_loops_in
gather_loops-returns-in_err-gather_loops_in g t c =
    let L = loop_lines c.args.lists.now in
    let l = c.loop-s in
    let xs = c.as_slice-s-items.result.now in
    let is = ap (λ ss. loops (stmts_of ss)) (one_left xs l.s-index c.s-item.result (omega arith) c.s-item.is) in
    failed L (loops (stmt_of c.s-item.result)) _ c.from_residual.result (along L is l.invariant) c.from_residual.ensures.0 c.in_err-gather_loops_in.ensures.part

pub gather_loops-loop-s-preserved : goal.gather_loops-loop-s-preserved
gather_loops-loop-s-preserved g t c =
    let L = loop_lines c.args.lists.now in
    let l = c.loop-s in
    let xs = c.as_slice-s-items.result.now in
    let is = ap (λ ss. loops (stmts_of ss)) (one_left xs l.s-index c.s-item.result (omega arith) c.s-item.is) in
    onward L (loops (stmt_of c.s-item.result)) _ (along L is l.invariant) c.in_ok-gather_loops_in.ensures.whole

pub gather_loops-returns : goal.gather_loops-returns
gather_loops-returns g t c =
    let L = loop_lines c.args.lists.now in
    let l = c.loop-s in
    let xs = c.as_slice-s-items.result.now in
    over L tt (along L (ap (λ ss. loops (stmts_of ss)) (drop_of_length-le xs (omega arith))) l.invariant)

pub gather_arms-loop-arm-init : goal.gather_arms-loop-arm-init
gather_arms-loop-arm-init g t c =
    let L = loop_lines c.args.lists.now in
    start L _ _ _ _ (ap (λ (more : List Arm). loops (arms_of more plain.Skip)) (sym c.as_slice-arm-items.ensures))

pub gather_arms-returns-in_err-gather_loops : goal.gather_arms-returns-in_err-gather_loops
gather_arms-returns-in_err-gather_loops g t c =
    let L = loop_lines c.args.lists.now in
    let l = c.loop-arm in
    let xs = c.as_slice-arm-items.result.now in
    let is = ap loops (arms_next xs plain.Skip l.arm-index c.arm-item.result (omega arith) c.arm-item.is) in
    failed L (loops (stmts_of c.arm-item.result.body)) _ c.from_residual.result (along L is l.invariant) c.from_residual.ensures.0 c.in_err-gather_loops.ensures.part

pub gather_arms-loop-arm-preserved : goal.gather_arms-loop-arm-preserved
gather_arms-loop-arm-preserved g t c =
    let L = loop_lines c.args.lists.now in
    let l = c.loop-arm in
    let xs = c.as_slice-arm-items.result.now in
    let is = ap loops (arms_next xs plain.Skip l.arm-index c.arm-item.result (omega arith) c.arm-item.is) in
    onward L (loops (stmts_of c.arm-item.result.body)) _ (along L is l.invariant) c.in_ok-gather_loops.ensures.whole

pub gather_arms-returns : goal.gather_arms-returns
gather_arms-returns g t c =
    let L = loop_lines c.args.lists.now in
    let l = c.loop-arm in
    let xs = c.as_slice-arm-items.result.now in
    over L tt (along L (ap (λ (more : List Arm). loops (arms_of more plain.Skip)) (drop_of_length-le xs (omega arith))) l.invariant)
