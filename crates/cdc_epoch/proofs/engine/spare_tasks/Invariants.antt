use Rattle.std.proofs.Common.{◌≡◌, vec_len}
use Rattle.cdc_epoch.proofs.engine.spare_tasks.Given as goal

abbrev pub invariant-loop-proc : goal.invariant-loop-proc
invariant-loop-proc l = vec_len l.lanes ≡ l._proc
