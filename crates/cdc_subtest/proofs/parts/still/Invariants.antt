use Rattle.std.proofs.Common.{◌≡◌, ◌++◌, drop}
use Rattle.cdc_prog.specs.Dependence.{still}
use Rattle.cdc_subtest.proofs.parts.still.Given as goal

abbrev pub invariant-loop-t : goal.invariant-loop-t
invariant-loop-t l = l.out ++ still l.scope (drop l.t-index l.terms) ≡ still l.scope l.terms
