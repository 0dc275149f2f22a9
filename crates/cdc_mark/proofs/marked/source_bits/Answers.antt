use Rattle.std.proofs.Common.{arith}
use Rattle.cdc_mark.proofs.Marking.{source_pushed}
use Rattle.cdc_mark.proofs.marked.source_bits.Goals as goal

pub loop-at-preserved : goal.loop-at-preserved
loop-at-preserved c =
    let l = c.loop-at in
    record {
      count = omega (arith, c.in_ok-push.ensures.len, l.invariant.count);
      bits = source_pushed c.args.points.now c.args.late.now c.args.wanted.now l.bits.items c.push.new.self.items l.at c.is_source.result _ c.in_ok-push.ensures.items l.invariant.count (omega arith) l.invariant.bits c.is_source.ensures;
    }
