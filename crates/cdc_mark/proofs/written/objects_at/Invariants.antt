use Rattle.cdc_mark.specs.Rows.{IsColumn}
use Rattle.cdc_mark.proofs.written.objects_at.Given as goal

abbrev pub invariant-loop-at : goal.invariant-loop-at
invariant-loop-at l = IsColumn l.rows l.place l.at l.list
