use Rattle.std.proofs.Common.{◌≡◌, ◌++◌, drop, map}
use Rattle.cdc_prog.specs.Translation.{actual_of}
use Rattle.cdc_path.specs.References.{actuals_refs}
use Rattle.cdc_mark.specs.Seen.{unbound, seen}
use Rattle.cdc_mark.proofs.references.actuals_references.Given as goal

abbrev pub invariant-loop-actual : goal.invariant-loop-actual
invariant-loop-actual l =
    l.out.items ++ map (seen (unbound l.objects)) (actuals_refs l.scope (map actual_of (drop l.actual-index l.actuals))) ≡ l.initial.out.items ++ map (seen (unbound l.objects)) (actuals_refs l.scope (map actual_of l.actuals))
