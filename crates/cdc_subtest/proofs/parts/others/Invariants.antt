use Rattle.std.proofs.Common.{◌≡◌, ◌++◌, drop}
use Rattle.cdc_prog.specs.Dependence.{others}
use Rattle.cdc_subtest.proofs.parts.others.Given as goal

abbrev pub invariant-loop-t : goal.invariant-loop-t
invariant-loop-t l = l.out ++ others (drop l.t-index l.terms) ≡ others l.terms
