use Rattle.std.proofs.Common.{length}
use Rattle.cdc_sched.proofs.Passes.{Passes}
use Rattle.cdc_sched.proofs.kept.next_kept.Given as goal

abbrev pub invariant-loop-rest : goal.invariant-loop-rest
invariant-loop-rest l = Passes l.bytes l.number l.rest l.at

abbrev pub decreases-loop-rest : goal.decreases-loop-rest
decreases-loop-rest l = length l.rest
