use Rattle.std.proofs.Common.{◌++◌, refl}
use Rattle.cdc_prog.specs.Translation.{exprs_of}
use Rattle.cdc_path.specs.References.{exprs_refs, store_ref}
use Rattle.cdc_report.specs.MarkLines.{access_line}
use Rattle.cdc_report.proofs.Reached.{start, onward, failed, finished}
use Rattle.cdc_report.proofs.accesses.gather_target.Goals as goal

pub returns-in_err-gather_exprs : goal.returns-in_err-gather_exprs
returns-in_err-gather_exprs g c = λ sc.
    let L = access_line c.args.sites.now in
    let t = c.args.t.now in
    failed L (exprs_refs sc (exprs_of t.subs)) (store_ref sc t.at (exprs_of t.subs)) c.from_residual.result (start L (exprs_refs sc (exprs_of t.subs) ++ (store_ref sc t.at (exprs_of t.subs))) _ _ _ refl) c.from_residual.ensures.0 (c.in_err-gather_exprs.ensures sc).part

pub returns : goal.returns
returns g c = λ sc.
    let L = access_line c.args.sites.now in
    let t = c.args.t.now in
    finished L (store_ref sc t.at (exprs_of t.subs)) c.gather_access.result (onward L (exprs_refs sc (exprs_of t.subs)) (store_ref sc t.at (exprs_of t.subs)) (start L (exprs_refs sc (exprs_of t.subs) ++ (store_ref sc t.at (exprs_of t.subs))) _ _ _ refl) (c.in_ok-gather_exprs.ensures sc).whole) c.gather_access.ensures
