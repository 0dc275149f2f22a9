use Rattle.std.proofs.Common.{◌≡◌, ◌++◌, drop, map}
use Rattle.cdc_prog.specs.Translation.{exprs_of}
use Rattle.cdc_subtest.specs.Sketches.{glimpses, glance_in}
use Rattle.cdc_subtest.proofs.sketches.sketches.Given as goal

abbrev pub invariant-loop-e : goal.invariant-loop-e
invariant-loop-e l = map glance_in l.out.items ++ glimpses l.scope (exprs_of (drop l.e-index l.subs)) ≡ glimpses l.scope (exprs_of l.subs)
