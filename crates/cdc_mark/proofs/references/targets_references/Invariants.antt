use Rattle.std.proofs.Common.{◌≡◌, ◌++◌, drop, map}
use Rattle.cdc_prog.specs.Translation.{target_of}
use Rattle.cdc_path.specs.References.{reads_refs}
use Rattle.cdc_mark.specs.Seen.{unbound, seen}
use Rattle.cdc_mark.proofs.references.targets_references.Given as goal

abbrev pub invariant-loop-t : goal.invariant-loop-t
invariant-loop-t l =
    l.out.items ++ map (seen (unbound l.objects)) (reads_refs l.scope (map target_of (drop l.t-index l.targets))) ≡ l.initial.out.items ++ map (seen (unbound l.objects)) (reads_refs l.scope (map target_of l.targets))
