use Rattle.std.proofs.Common.{◌∙◌, arith}
use Rattle.cdc_mark.specs.Least.{IsIn}
use Rattle.cdc_mark.specs.Classes.{IsReadAt}
use Rattle.cdc_mark.proofs.Sets.{grown_by}
use Rattle.cdc_mark.proofs.classes.add_reads.Goals as goal

pub loop-q-preserved : goal.loop-q-preserved
loop-q-preserved c =
    let l = c.loop-q in
    let p = c.args.p.now in
    record {
      count = c.add_read.ensures.count ∙ l.invariant.count;
      bits = λ r. grown_by (IsIn c.add_read.new.bits r) (IsIn l.bits r) _ (IsReadAt p r) c.args.refs.now l.q-index c.q-item.result (omega arith) c.q-item.is (c.add_read.ensures.bits r) (l.invariant.bits r);
    }
