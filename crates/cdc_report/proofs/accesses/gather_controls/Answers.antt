use Rattle.std.proofs.Common.{◌++◌, refl}
use Rattle.cdc_prog.specs.Translation.{control_of}
use Rattle.cdc_path.specs.References.{expr_refs}
use Rattle.cdc_report.specs.MarkLines.{access_line}
use Rattle.cdc_report.proofs.Reached.{start, onward, failed, finished}
use Rattle.cdc_report.proofs.accesses.gather_controls.Goals as goal

pub returns-in_err-gather_expr : goal.returns-in_err-gather_expr
returns-in_err-gather_expr g c = λ sc.
    let L = access_line c.args.sites.now in
    let k = control_of c.args.k.now in
    failed L (expr_refs sc k.from) (expr_refs sc k.to ++ (expr_refs sc k.by)) c.from_residual.result (start L (expr_refs sc k.from ++ (expr_refs sc k.to ++ (expr_refs sc k.by))) _ _ _ refl) c.from_residual.ensures.0 (c.in_err-gather_expr.ensures sc).part

pub returns-in_err-gather_expr-2 : goal.returns-in_err-gather_expr-2
returns-in_err-gather_expr-2 g c = λ sc.
    let L = access_line c.args.sites.now in
    let k = control_of c.args.k.now in
    failed L (expr_refs sc k.to) (expr_refs sc k.by) c.from_residual-in_err-gather_expr-2.result (onward L (expr_refs sc k.from) (expr_refs sc k.to ++ (expr_refs sc k.by)) (start L (expr_refs sc k.from ++ (expr_refs sc k.to ++ (expr_refs sc k.by))) _ _ _ refl) (c.in_ok-gather_expr.ensures sc).whole) c.from_residual-in_err-gather_expr-2.ensures.0 (c.in_err-gather_expr-2.ensures sc).part

pub returns : goal.returns
returns g c = λ sc.
    let L = access_line c.args.sites.now in
    let k = control_of c.args.k.now in
    finished L (expr_refs sc k.by) c.gather_expr-3.result (onward L (expr_refs sc k.to) (expr_refs sc k.by) (onward L (expr_refs sc k.from) (expr_refs sc k.to ++ (expr_refs sc k.by)) (start L (expr_refs sc k.from ++ (expr_refs sc k.to ++ (expr_refs sc k.by))) _ _ _ refl) (c.in_ok-gather_expr.ensures sc).whole) (c.in_ok-gather_expr-2.ensures sc).whole) (c.gather_expr-3.ensures sc)
