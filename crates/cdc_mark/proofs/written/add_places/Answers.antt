use Rattle.std.proofs.Common.{◌∙◌, refl, length, arith}
use Rattle.cdc_mark.specs.Least.{IsIn}
use Rattle.cdc_mark.proofs.Columns.{placed_more, placed_none, placed_all}
use Rattle.cdc_mark.proofs.written.add_places.Goals as goal

pub loop-at-init : goal.loop-at-init
loop-at-init c = record { count = refl; bits = λ n. placed_none c.args.points.now c.args.bits.now (length c.args.row.now) n (IsIn c.args.row.now n) }

pub loop-at-preserved : goal.loop-at-preserved
loop-at-preserved c =
    let l = c.loop-at in
    record {
      count = c.add_place.ensures.count ∙ l.invariant.count;
      bits = λ n. placed_more c.args.points.now c.args.bits.now l.at (length l.row) (length c.args.row.now) n _ c.has_bit.result _ _ _ (omega arith) l.invariant.count c.has_bit.ensures (c.add_place.ensures.bits n) (l.invariant.bits n);
    }

pub returns-clause-bits : goal.returns-clause-bits
returns-clause-bits c = λ n. placed_all c.args.points.now c.args.bits.now c.loop-at.at (length c.args.row.now) n _ _ (omega arith) (c.loop-at.invariant.bits n)
