use Rattle.std.proofs.Common.{[], ◌∷◌, map, drop, ◌+◌, drop_of_length-le, sym, ap, ◌∙◌, arith}
use Rattle.cdc_prog.specs.Translation.{target_of}
use Rattle.cdc_path.specs.References.{reads_refs}
use Rattle.cdc_report.specs.MarkLines.{access_line}
use Rattle.cdc_report.proofs.Reached.{start, along, onward, failed, over}
use Rattle.cdc_report.proofs.Walks.{one_left, targets_more}
use Rattle.cdc_report.proofs.accesses.gather_targets.Goals as goal

pub loop-t-init : goal.loop-t-init
loop-t-init g c = λ sc.
    let L = access_line c.args.sites.now in
    start L _ _ _ _ (ap (λ ts. reads_refs sc (map target_of ts)) (sym c.as_slice-t-items.ensures))

pub returns-in_err-gather_target : goal.returns-in_err-gather_target
returns-in_err-gather_target g c = λ sc.
    let L = access_line c.args.sites.now in
    let l = c.loop-t in
    let xs = c.as_slice-t-items.result.now in
    let is = ap (λ ts. reads_refs sc (map target_of ts)) (one_left xs l.t-index c.t-item.result (omega arith) c.t-item.is) ∙ targets_more sc (target_of c.t-item.result) (map target_of (drop (l.t-index + 1) xs)) in
    failed L (reads_refs sc (target_of c.t-item.result ∷ [])) _ c.from_residual.result (along L is (l.invariant sc)) c.from_residual.ensures.0 (c.in_err-gather_target.ensures sc).part

pub loop-t-preserved : goal.loop-t-preserved
loop-t-preserved g c = λ sc.
    let L = access_line c.args.sites.now in
    let l = c.loop-t in
    let xs = c.as_slice-t-items.result.now in
    let is = ap (λ ts. reads_refs sc (map target_of ts)) (one_left xs l.t-index c.t-item.result (omega arith) c.t-item.is) ∙ targets_more sc (target_of c.t-item.result) (map target_of (drop (l.t-index + 1) xs)) in
    onward L (reads_refs sc (target_of c.t-item.result ∷ [])) _ (along L is (l.invariant sc)) (c.in_ok-gather_target.ensures sc).whole

pub returns : goal.returns
returns g c = λ sc.
    let L = access_line c.args.sites.now in
    let l = c.loop-t in
    let xs = c.as_slice-t-items.result.now in
    over L tt (along L (ap (λ ts. reads_refs sc (map target_of ts)) (drop_of_length-le xs (omega arith))) (l.invariant sc))
