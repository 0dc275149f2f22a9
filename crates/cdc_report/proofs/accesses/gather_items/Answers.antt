use Rattle.std.proofs.Common.{[], ◌∷◌, map, drop, ◌+◌, drop_of_length-le, sym, ap, ◌∙◌, arith}
use Rattle.cdc_prog.specs.Translation.{item_of}
use Rattle.cdc_path.specs.References.{items_refs}
use Rattle.cdc_report.specs.MarkLines.{access_line}
use Rattle.cdc_report.proofs.Reached.{start, along, onward, failed, over}
use Rattle.cdc_report.proofs.Walks.{one_left, items_more}
use Rattle.cdc_report.proofs.accesses.gather_items.Goals as goal

pub loop-item-init : goal.loop-item-init
loop-item-init g c = λ sc.
    let L = access_line c.args.sites.now in
    start L _ _ _ _ (ap (λ is. items_refs sc (map item_of is)) (sym c.as_slice-item-items.ensures))

pub returns-in_err-gather_item : goal.returns-in_err-gather_item
returns-in_err-gather_item g c = λ sc.
    let L = access_line c.args.sites.now in
    let l = c.loop-item in
    let xs = c.as_slice-item-items.result.now in
    let is = ap (λ is. items_refs sc (map item_of is)) (one_left xs l.item-index c.item-item.result (omega arith) c.item-item.is) ∙ items_more sc (item_of c.item-item.result) (map item_of (drop (l.item-index + 1) xs)) in
    failed L (items_refs sc (item_of c.item-item.result ∷ [])) _ c.from_residual.result (along L is (l.invariant sc)) c.from_residual.ensures.0 (c.in_err-gather_item.ensures sc).part

pub loop-item-preserved : goal.loop-item-preserved
loop-item-preserved g c = λ sc.
    let L = access_line c.args.sites.now in
    let l = c.loop-item in
    let xs = c.as_slice-item-items.result.now in
    let is = ap (λ is. items_refs sc (map item_of is)) (one_left xs l.item-index c.item-item.result (omega arith) c.item-item.is) ∙ items_more sc (item_of c.item-item.result) (map item_of (drop (l.item-index + 1) xs)) in
    onward L (items_refs sc (item_of c.item-item.result ∷ [])) _ (along L is (l.invariant sc)) (c.in_ok-gather_item.ensures sc).whole

pub returns : goal.returns
returns g c = λ sc.
    let L = access_line c.args.sites.now in
    let l = c.loop-item in
    let xs = c.as_slice-item-items.result.now in
    over L tt (along L (ap (λ is. items_refs sc (map item_of is)) (drop_of_length-le xs (omega arith))) (l.invariant sc))
