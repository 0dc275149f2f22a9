use Rattle.std.proofs.Common.{◌≡◌, drop, map}
use Rattle.cdc_prog.specs.Dependence.{failing_with}
use Rattle.cdc_subtest.specs.Seen.{seen_of, pair_fails}
use Rattle.cdc_subtest.proofs.pairs.failing_with.Given as goal

abbrev pub invariant-loop-q : goal.invariant-loop-q
invariant-loop-q l = failing_with (pair_fails l.step) (seen_of l.p) (map seen_of (drop l.q-index l.qs)) ≡ failing_with (pair_fails l.step) (seen_of l.p) (map seen_of l.qs)
