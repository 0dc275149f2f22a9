use Rattle.std.proofs.Common.{◌↔◌, Bool, IsTrue, List, subst, arith}
use Rattle.cdc_mark.specs.Least.{IsIn}
use Rattle.cdc_mark.proofs.Columns.{column_more}
use Rattle.cdc_mark.proofs.written.objects_at.Goals as goal

pub loop-at-preserved : goal.loop-at-preserved
loop-at-preserved c =
    column_more c.args.rows.now c.args.place c.loop-at.at c.loop-at.list c.add_object.new.list c.has_bit-is_set.result c.index-rows-at.result (omega arith) c.index-rows-at.is
    (subst (λ (b : List Bool). IsTrue c.has_bit-is_set.result ↔ IsIn b c.args.place) c.as_slice.ensures c.has_bit-is_set.ensures) c.in_ok-add_object.ensures c.loop-at.invariant
