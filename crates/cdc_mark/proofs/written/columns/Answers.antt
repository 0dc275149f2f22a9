use Rattle.std.proofs.Common.{subst, sym}
use Rattle.cdc_mark.specs.Rows.{AreColumns}
use Rattle.cdc_mark.proofs.Columns.{columns_none, columns_more}
use Rattle.cdc_mark.proofs.written.columns.Goals as goal

pub loop-at-init : goal.loop-at-init
loop-at-init c = subst (AreColumns c.args.rows.now c.args.side 0) (sym c.new-lists.ensures) (columns_none c.args.rows.now c.args.side)

pub loop-at-preserved : goal.loop-at-preserved
loop-at-preserved c =
    let l = c.loop-at in
    columns_more c.args.rows.now c.args.side l.at l.lists c.add.new.items c.in_ok-list.list c.in_ok-add.ensures c.in_ok-list.ensures l.invariant
