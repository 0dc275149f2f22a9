use Rattle.std.proofs.Common.{◌∙◌, arith}
use Rattle.cdc_mark.specs.Least.{IsIn}
use Rattle.cdc_mark.specs.Classes.{IsWriteOfAt}
use Rattle.cdc_mark.proofs.Sets.{grown_by}
use Rattle.cdc_mark.proofs.written.add_writes_of.Goals as goal

pub loop-q-preserved : goal.loop-q-preserved
loop-q-preserved c =
    let l = c.loop-q in
    record {
      count = c.add_write_of.ensures.count ∙ l.invariant.count;
      bits = λ w. grown_by (IsIn c.add_write_of.new.bits w) (IsIn l.bits w) _ (IsWriteOfAt c.args.object w) c.args.refs.now l.q-index c.q-item.result (omega arith) c.q-item.is (c.add_write_of.ensures.bits w) (l.invariant.bits w);
    }
