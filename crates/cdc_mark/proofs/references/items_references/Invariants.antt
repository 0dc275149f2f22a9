use Rattle.std.proofs.Common.{◌≡◌, ◌++◌, drop, map}
use Rattle.cdc_prog.specs.Translation.{item_of}
use Rattle.cdc_path.specs.References.{items_refs}
use Rattle.cdc_mark.specs.Seen.{unbound, seen}
use Rattle.cdc_mark.proofs.references.items_references.Given as goal

abbrev pub invariant-loop-item : goal.invariant-loop-item
invariant-loop-item l =
    l.out.items ++ map (seen (unbound l.objects)) (items_refs l.scope (map item_of (drop l.item-index l.items))) ≡ l.initial.out.items ++ map (seen (unbound l.objects)) (items_refs l.scope (map item_of l.items))
