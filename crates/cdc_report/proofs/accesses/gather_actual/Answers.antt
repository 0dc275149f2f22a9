use Rattle.std.proofs.Common.{[], ◌∷◌, ◌++◌, ap}
use Rattle.cdc_prog.specs.Plain as plain
use Rattle.cdc_prog.specs.Translation.{expr_of, actual_of}
use Rattle.cdc_path.specs.References.{expr_refs, actuals_refs, store_ref}
use Rattle.cdc_report.specs.MarkLines.{access_line}
use Rattle.cdc_report.proofs.Reached.{start, onward, failed, finished}
use Rattle.cdc_report.proofs.accesses.gather_actual.Goals as goal

pub returns-in_err-gather_expr-in-Copy : goal.returns-in_err-gather_expr-in-Copy
returns-in_err-gather_expr-in-Copy g c = λ sc.
    let L = access_line c.args.sites.now in
    let a = expr_refs sc (expr_of c.in-Copy.value) in
    let b = store_ref sc c.in-Copy.at plain.Empty in
    let is = ap (λ i. actuals_refs sc (actual_of i ∷ [])) c.in-Copy.is in
    failed L a b c.from_residual.result (start L (a ++ b) _ _ _ is) c.from_residual.ensures.0 (c.in_err-gather_expr-in-Copy.ensures sc).part

pub returns-in_ok-gather_expr-in-Copy : goal.returns-in_ok-gather_expr-in-Copy
returns-in_ok-gather_expr-in-Copy g c = λ sc.
    let L = access_line c.args.sites.now in
    let a = expr_refs sc (expr_of c.in-Copy.value) in
    let b = store_ref sc c.in-Copy.at plain.Empty in
    let is = ap (λ i. actuals_refs sc (actual_of i ∷ [])) c.in-Copy.is in
    finished L b c.gather_access.result (onward L a b (start L (a ++ b) _ _ _ is) (c.in_ok-gather_expr-in-Copy.ensures sc).whole) c.gather_access.ensures
