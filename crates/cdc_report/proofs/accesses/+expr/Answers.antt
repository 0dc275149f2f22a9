use Rattle.std.proofs.Common.{◌≡◌, false, [], ◌∷◌, ◌++◌, drop_of_length-le, sym, ap, ◌∙◌, arith, rules}
use Rattle.cdc_prog.specs.declared.expr.Expr.{the_lemmas}
use Rattle.cdc_prog.specs.Dependence.{spot}
use Rattle.cdc_prog.specs.Plain as plain
use Rattle.cdc_prog.specs.Translation.{expr_of, exprs_of}
use Rattle.cdc_prog.proofs.Translated.{at_element}
use Rattle.cdc_path.specs.References.{expr_refs, exprs_refs}
use Rattle.cdc_report.specs.MarkLines.{access_line}
use Rattle.cdc_report.proofs.Reached.{start, along, onward, failed, finished, over}
use Rattle.cdc_report.proofs.Walks.{one_left}
use Rattle.cdc_report.proofs.accesses.+expr.Goals as goal

pub gather_expr-returns-in_err-gather_exprs-in-Element : goal.gather_expr-returns-in_err-gather_exprs-in-Element
gather_expr-returns-in_err-gather_exprs-in-Element g t c = λ sc.
    let L = access_line c.args.sites.now in
    let at = c.in-Element.at in
    let subs = c.in-Element.subs in
    let a = exprs_refs sc (exprs_of subs) in
    let b = spot sc false at (exprs_of subs) ∷ [] in
    let is = ap (expr_refs sc) (ap expr_of c.in-Element.is ∙ at_element at subs) in
    failed L a b c.from_residual.result (start L (a ++ b) _ _ _ is) c.from_residual.ensures.0 (c.in_err-gather_exprs-in-Element.ensures sc).part

pub gather_expr-returns-in_ok-gather_exprs-in-Element : goal.gather_expr-returns-in_ok-gather_exprs-in-Element
gather_expr-returns-in_ok-gather_exprs-in-Element g t c = λ sc.
    let L = access_line c.args.sites.now in
    let at = c.in-Element.at in
    let subs = c.in-Element.subs in
    let a = exprs_refs sc (exprs_of subs) in
    let b = spot sc false at (exprs_of subs) ∷ [] in
    let is = ap (expr_refs sc) (ap expr_of c.in-Element.is ∙ at_element at subs) in
    finished L b c.gather_access-in-Element.result (onward L a b (start L (a ++ b) _ _ _ is) (c.in_ok-gather_exprs-in-Element.ensures sc).whole) c.gather_access-in-Element.ensures

pub gather_expr-returns-in-Un : goal.gather_expr-returns-in-Un
gather_expr-returns-in-Un g t c = λ sc.
    let L = access_line c.args.sites.now in
    let a = expr_of c.deref.result.now in
    let is : expr_of c.args.e.now ≡ plain.Un c.in-Un.field-0 a = search (rules, the_lemmas) in
    finished L (expr_refs sc a) c.gather_expr.result (start L (expr_refs sc a) _ _ _ (ap (expr_refs sc) is)) (c.gather_expr.ensures sc)

pub gather_expr-returns-in_err-gather_expr-in-Bin : goal.gather_expr-returns-in_err-gather_expr-in-Bin
gather_expr-returns-in_err-gather_expr-in-Bin g t c = λ sc.
    let L = access_line c.args.sites.now in
    let a = expr_of c.deref-in-Bin.result.now in
    let b = expr_of c.in-Bin.b.value in
    let is : expr_of c.args.e.now ≡ plain.Bin c.in-Bin.field-0 a b = search (rules, the_lemmas) in
    failed L (expr_refs sc a) (expr_refs sc b) c.from_residual-in_err-gather_expr-in-Bin.result (start L (expr_refs sc a ++ expr_refs sc b) _ _ _ (ap (expr_refs sc) is)) c.from_residual-in_err-gather_expr-in-Bin.ensures.0 (c.in_err-gather_expr-in-Bin.ensures sc).part

pub gather_expr-returns-in_ok-gather_expr-in-Bin : goal.gather_expr-returns-in_ok-gather_expr-in-Bin
gather_expr-returns-in_ok-gather_expr-in-Bin g t c = λ sc.
    let L = access_line c.args.sites.now in
    let a = expr_of c.deref-in-Bin.result.now in
    let b = expr_of c.deref-in-Bin-2.result.now in
    let is : expr_of c.args.e.now ≡ plain.Bin c.in-Bin.field-0 a b = search (rules, the_lemmas) in
    finished L (expr_refs sc b) c.gather_expr-in-Bin-2.result (onward L (expr_refs sc a) (expr_refs sc b) (start L (expr_refs sc a ++ expr_refs sc b) _ _ _ (ap (expr_refs sc) is)) (c.in_ok-gather_expr-in-Bin.ensures sc).whole) (c.gather_expr-in-Bin-2.ensures sc)

pub gather_exprs-loop-e-init : goal.gather_exprs-loop-e-init
gather_exprs-loop-e-init g t c = λ sc.
    let L = access_line c.args.sites.now in
    start L _ _ _ _ (ap (λ es. exprs_refs sc (exprs_of es)) (sym c.as_slice-e-items.ensures))

pub gather_exprs-returns-in_err-gather_expr : goal.gather_exprs-returns-in_err-gather_expr
gather_exprs-returns-in_err-gather_expr g t c = λ sc.
    let L = access_line c.args.sites.now in
    let l = c.loop-e in
    let xs = c.as_slice-e-items.result.now in
    let is = ap (λ es. exprs_refs sc (exprs_of es)) (one_left xs l.e-index c.e-item.result (omega arith) c.e-item.is) in
    failed L (expr_refs sc (expr_of c.e-item.result)) _ c.from_residual.result (along L is (l.invariant sc)) c.from_residual.ensures.0 (c.in_err-gather_expr.ensures sc).part

pub gather_exprs-loop-e-preserved : goal.gather_exprs-loop-e-preserved
gather_exprs-loop-e-preserved g t c = λ sc.
    let L = access_line c.args.sites.now in
    let l = c.loop-e in
    let xs = c.as_slice-e-items.result.now in
    let is = ap (λ es. exprs_refs sc (exprs_of es)) (one_left xs l.e-index c.e-item.result (omega arith) c.e-item.is) in
    onward L (expr_refs sc (expr_of c.e-item.result)) _ (along L is (l.invariant sc)) (c.in_ok-gather_expr.ensures sc).whole

pub gather_exprs-returns : goal.gather_exprs-returns
gather_exprs-returns g t c = λ sc.
    let L = access_line c.args.sites.now in
    let l = c.loop-e in
    let xs = c.as_slice-e-items.result.now in
    over L tt (along L (ap (λ es. exprs_refs sc (exprs_of es)) (drop_of_length-le xs (omega arith))) (l.invariant sc))
