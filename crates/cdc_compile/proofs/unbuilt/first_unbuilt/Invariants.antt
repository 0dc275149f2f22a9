use Rattle.std.proofs.Common.{length, map}
use Rattle.cdc_tree.specs.Forms.{statement}
use Rattle.cdc_compile.proofs.Passing.{Passed}
use Rattle.cdc_compile.proofs.unbuilt.first_unbuilt.Given as goal

abbrev pub invariant-loop-rest : goal.invariant-loop-rest
invariant-loop-rest l = Passed (map statement l.statements) (map statement l.rest)

abbrev pub decreases-loop-rest : goal.decreases-loop-rest
decreases-loop-rest l = length l.rest
