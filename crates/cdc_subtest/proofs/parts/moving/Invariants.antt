use Rattle.std.proofs.Common.{◌≡◌, ◌++◌, drop}
use Rattle.cdc_prog.specs.Dependence.{moving}
use Rattle.cdc_subtest.proofs.parts.moving.Given as goal

abbrev pub invariant-loop-t : goal.invariant-loop-t
invariant-loop-t l = l.out ++ moving l.scope (drop l.t-index l.terms) ≡ moving l.scope l.terms
