use Rattle.std.proofs.Common.{[], ◌∷◌, map, drop, ◌+◌, drop_of_length-le, sym, ap, ◌∙◌, arith}
use Rattle.cdc_prog.specs.Translation.{actual_of}
use Rattle.cdc_path.specs.References.{actuals_refs}
use Rattle.cdc_report.specs.MarkLines.{access_line}
use Rattle.cdc_report.proofs.Reached.{start, along, onward, failed, over}
use Rattle.cdc_report.proofs.Walks.{one_left, actuals_more}
use Rattle.cdc_report.proofs.accesses.gather_actuals.Goals as goal

pub loop-actual-init : goal.loop-actual-init
loop-actual-init g c = λ sc.
    let L = access_line c.args.sites.now in
    start L _ _ _ _ (ap (λ ts. actuals_refs sc (map actual_of ts)) (sym c.as_slice-actual-items.ensures))

pub returns-in_err-gather_actual : goal.returns-in_err-gather_actual
returns-in_err-gather_actual g c = λ sc.
    let L = access_line c.args.sites.now in
    let l = c.loop-actual in
    let xs = c.as_slice-actual-items.result.now in
    let is = ap (λ ts. actuals_refs sc (map actual_of ts)) (one_left xs l.actual-index c.actual-item.result (omega arith) c.actual-item.is) ∙ actuals_more sc (actual_of c.actual-item.result) (map actual_of (drop (l.actual-index + 1) xs)) in
    failed L (actuals_refs sc (actual_of c.actual-item.result ∷ [])) _ c.from_residual.result (along L is (l.invariant sc)) c.from_residual.ensures.0 (c.in_err-gather_actual.ensures sc).part

pub loop-actual-preserved : goal.loop-actual-preserved
loop-actual-preserved g c = λ sc.
    let L = access_line c.args.sites.now in
    let l = c.loop-actual in
    let xs = c.as_slice-actual-items.result.now in
    let is = ap (λ ts. actuals_refs sc (map actual_of ts)) (one_left xs l.actual-index c.actual-item.result (omega arith) c.actual-item.is) ∙ actuals_more sc (actual_of c.actual-item.result) (map actual_of (drop (l.actual-index + 1) xs)) in
    onward L (actuals_refs sc (actual_of c.actual-item.result ∷ [])) _ (along L is (l.invariant sc)) (c.in_ok-gather_actual.ensures sc).whole

pub returns : goal.returns
returns g c = λ sc.
    let L = access_line c.args.sites.now in
    let l = c.loop-actual in
    let xs = c.as_slice-actual-items.result.now in
    over L tt (along L (ap (λ ts. actuals_refs sc (map actual_of ts)) (drop_of_length-le xs (omega arith))) (l.invariant sc))
