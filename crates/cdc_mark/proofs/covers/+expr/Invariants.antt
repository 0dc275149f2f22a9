use Rattle.std.proofs.Common.{◌≡◌, ◌++◌, drop, map}
use Rattle.cdc_prog.specs.Translation.{exprs_of}
use Rattle.cdc_path.specs.References.{outside, exprs_refs}
use Rattle.cdc_mark.specs.Covered.{spot_of}
use Rattle.cdc_mark.proofs.covers.+expr.Given as goal

abbrev pub invariant-exprs_mentions-loop-e : goal.invariant-exprs_mentions-loop-e
invariant-exprs_mentions-loop-e l = map spot_of l.run.items ++ exprs_refs outside (exprs_of (drop l.e-index l.es)) ≡ map spot_of l.initial.run.items ++ exprs_refs outside (exprs_of l.es)
