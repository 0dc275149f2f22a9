use Rattle.std.proofs.Common.{◌∙◌, refl, slice_index, arith}
use Rattle.cdc_mark.proofs.Lowered.{lowered_more, lowered_none, lowered_all}
use Rattle.cdc_mark.proofs.classes.lower_all.Goals as goal

pub loop-at-init : goal.loop-at-init
loop-at-init c = record { count = refl; lowered = λ r lt. lowered_none c.args.points.now c.args.dist.now c.args.reads.now r _ }

pub loop-at-preserved : goal.loop-at-preserved
loop-at-preserved c =
    let l = c.loop-at in
    record {
      count = c.note.ensures.count ∙ l.invariant.count;
      lowered = λ r lt. lowered_more c.args.points.now c.args.dist.now c.args.reads.now l.at r _ (slice_index l.best r) (slice_index c.note.new.best r) _ (omega arith) (c.note.ensures.noted r (omega (arith, l.invariant.count))) (l.invariant.lowered r lt);
    }

pub returns-clause-lowered : goal.returns-clause-lowered
returns-clause-lowered c = λ r lt. lowered_all c.args.points.now c.args.dist.now c.args.reads.now r _ _ c.loop-at.at (omega arith) (c.loop-at.invariant.lowered r lt)
