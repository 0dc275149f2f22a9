use Rattle.cdc_mark.specs.Rows.{AreColumns}
use Rattle.cdc_mark.proofs.written.columns.Given as goal

abbrev pub invariant-loop-at : goal.invariant-loop-at
invariant-loop-at l = AreColumns l.rows l.side l.at l.lists
