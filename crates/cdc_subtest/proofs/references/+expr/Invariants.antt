use Rattle.std.proofs.Common.{◌≡◌, ◌++◌, drop, map}
use Rattle.cdc_prog.specs.Translation.{exprs_of}
use Rattle.cdc_prog.specs.Dependence.{exprs_spots}
use Rattle.cdc_subtest.specs.Seen.{seen, seen_of}
use Rattle.cdc_subtest.proofs.references.+expr.Given as goal

abbrev pub invariant-exprs_references-loop-e : goal.invariant-exprs_references-loop-e
invariant-exprs_references-loop-e l =
    map seen_of l.out.items ++ map seen (exprs_spots l.scope (exprs_of (drop l.e-index l.es))) ≡ map seen_of l.initial.out.items ++ map seen (exprs_spots l.scope (exprs_of l.es))
