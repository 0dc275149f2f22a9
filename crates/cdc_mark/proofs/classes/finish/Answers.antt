use Rattle.std.proofs.Common.{◌∙◌, Some, sym, ap, arith}
use Rattle.std.proofs.lemmas.Option.{slice_get-get_or}
use Rattle.cdc_mark.specs.Least.{IsIn}
use Rattle.cdc_mark.proofs.Lowered.{class_more, class_all}
use Rattle.cdc_mark.proofs.classes.finish.Goals as goal

pub loop-at-preserved : goal.loop-at-preserved
loop-at-preserved c =
    let l = c.loop-at in
    record {
      count = c.add_done.ensures.count ∙ l.invariant.count;
      bits = λ i. class_more (IsIn c.add_done.new.done i) (IsIn l.done i) _ c.args.refs.now c.args.p.now c.index-refs-at.result l.at i (slice_get-get_or c.args.refs.now l.at c.index-refs-at.result (omega arith) ∙ ap Some (sym c.index-refs-at.is)) (c.add_done.ensures.bits i) (l.invariant.bits i);
    }

pub returns-clause-bits : goal.returns-clause-bits
returns-clause-bits c = λ i. class_all _ _ c.args.refs.now c.args.p.now c.loop-at.at i (omega arith) (c.loop-at.invariant.bits i)
