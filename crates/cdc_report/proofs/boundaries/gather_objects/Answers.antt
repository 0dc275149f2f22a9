use Rattle.std.proofs.Common.{drop_of_length-le, refl, arith}
use Rattle.cdc_report.specs.MarkLines.{object_text}
use Rattle.cdc_report.proofs.Reached.{start, along, onward_one, failed_one, over}
use Rattle.cdc_report.proofs.Walks.{one_read}
use Rattle.cdc_report.proofs.boundaries.gather_objects.Goals as goal

pub loop-object-init : goal.loop-object-init
loop-object-init g c = start (object_text c.args.named.now) _ _ _ _ refl

pub returns-in_err-gather_texts : goal.returns-in_err-gather_texts
returns-in_err-gather_texts g c =
    let L = object_text c.args.named.now in
    let l = c.loop-object in
    let is = one_read c.args.written.now l.object-index _ c.loop-object-test.true in
    failed_one L _ _ c.from_residual.result (along L is l.invariant) c.from_residual.ensures.0 (rw c.of_variable.ensures at c.in_err-gather_texts.ensures.part)

pub loop-object-preserved : goal.loop-object-preserved
loop-object-preserved g c =
    let L = object_text c.args.named.now in
    let l = c.loop-object in
    let is = one_read c.args.written.now l.object-index _ c.loop-object-test.true in
    onward_one L _ _ (along L is l.invariant) (rw c.of_variable.ensures at c.in_ok-gather_texts.ensures.whole)

pub returns : goal.returns
returns g c =
    let L = object_text c.args.named.now in
    let l = c.loop-object in
    over L tt (along L (drop_of_length-le c.args.written.now (omega arith)) l.invariant)
