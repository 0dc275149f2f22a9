use Rattle.std.proofs.Common.{◌++◌, refl}
use Rattle.cdc_prog.specs.Translation.{expr_of, exprs_of}
use Rattle.cdc_path.specs.References.{expr_refs, exprs_refs, store_ref}
use Rattle.cdc_report.specs.MarkLines.{access_line}
use Rattle.cdc_report.proofs.Reached.{start, onward, failed, finished}
use Rattle.cdc_report.proofs.accesses.gather_assign.Goals as goal

pub returns-in_err-gather_exprs : goal.returns-in_err-gather_exprs
returns-in_err-gather_exprs g c = λ sc.
    let L = access_line c.args.sites.now in
    let t = c.args.target.now in
    failed L (exprs_refs sc (exprs_of t.subs)) (expr_refs sc (expr_of c.args.value.now) ++ (store_ref sc t.at (exprs_of t.subs))) c.from_residual.result (start L (exprs_refs sc (exprs_of t.subs) ++ (expr_refs sc (expr_of c.args.value.now) ++ (store_ref sc t.at (exprs_of t.subs)))) _ _ _ refl) c.from_residual.ensures.0 (c.in_err-gather_exprs.ensures sc).part

pub returns-in_err-gather_expr : goal.returns-in_err-gather_expr
returns-in_err-gather_expr g c = λ sc.
    let L = access_line c.args.sites.now in
    let t = c.args.target.now in
    failed L (expr_refs sc (expr_of c.args.value.now)) (store_ref sc t.at (exprs_of t.subs)) c.from_residual-in_err-gather_expr.result (onward L (exprs_refs sc (exprs_of t.subs)) (expr_refs sc (expr_of c.args.value.now) ++ (store_ref sc t.at (exprs_of t.subs))) (start L (exprs_refs sc (exprs_of t.subs) ++ (expr_refs sc (expr_of c.args.value.now) ++ (store_ref sc t.at (exprs_of t.subs)))) _ _ _ refl) (c.in_ok-gather_exprs.ensures sc).whole) c.from_residual-in_err-gather_expr.ensures.0 (c.in_err-gather_expr.ensures sc).part

pub returns : goal.returns
returns g c = λ sc.
    let L = access_line c.args.sites.now in
    let t = c.args.target.now in
    finished L (store_ref sc t.at (exprs_of t.subs)) c.gather_access.result (onward L (expr_refs sc (expr_of c.args.value.now)) (store_ref sc t.at (exprs_of t.subs)) (onward L (exprs_refs sc (exprs_of t.subs)) (expr_refs sc (expr_of c.args.value.now) ++ (store_ref sc t.at (exprs_of t.subs))) (start L (exprs_refs sc (exprs_of t.subs) ++ (expr_refs sc (expr_of c.args.value.now) ++ (store_ref sc t.at (exprs_of t.subs)))) _ _ _ refl) (c.in_ok-gather_exprs.ensures sc).whole) (c.in_ok-gather_expr.ensures sc).whole) c.gather_access.ensures
