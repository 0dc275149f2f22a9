use Rattle.std.proofs.Common.{length}
use Rattle.cdc_input.proofs.Gone.{Gone}
use Rattle.cdc_input.proofs.file.records.Given as goal

abbrev pub invariant-loop-rest : goal.invariant-loop-rest
invariant-loop-rest l = Gone l.bytes l.records.items l.number l.rest

abbrev pub decreases-loop-rest : goal.decreases-loop-rest
decreases-loop-rest l = length l.rest
