use Rattle.cdc_subtest.proofs.Earlier.{IsAt}
use Rattle.cdc_subtest.proofs.pairs.first_failing.Given as goal

abbrev pub invariant-loop-i : goal.invariant-loop-i
invariant-loop-i l = IsAt l.step l.ps l.i
