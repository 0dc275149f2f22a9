use Rattle.std.proofs.Common.{◌≡◌, ◌++◌, drop, map}
use Rattle.cdc_prog.specs.Translation.{exprs_of}
use Rattle.cdc_path.specs.References.{exprs_refs}
use Rattle.cdc_mark.specs.Seen.{unbound, seen}
use Rattle.cdc_mark.proofs.references.+expr.Given as goal

abbrev pub invariant-exprs_references-loop-e : goal.invariant-exprs_references-loop-e
invariant-exprs_references-loop-e l =
    l.out.items ++ map (seen (unbound l.objects)) (exprs_refs l.scope (exprs_of (drop l.e-index l.es))) ≡ l.initial.out.items ++ map (seen (unbound l.objects)) (exprs_refs l.scope (exprs_of l.es))
