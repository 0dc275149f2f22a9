use Rattle.std.proofs.Common.{◌≡◌, ◌++◌, drop, map}
use Rattle.cdc_prog.specs.Translation.{item_of}
use Rattle.cdc_path.specs.References.{outside, items_refs}
use Rattle.cdc_mark.specs.Covered.{spot_of}
use Rattle.cdc_mark.proofs.covers.items_mentions.Given as goal

abbrev pub invariant-loop-item : goal.invariant-loop-item
invariant-loop-item l = map spot_of l.run.items ++ items_refs outside (map item_of (drop l.item-index l.items)) ≡ map spot_of l.initial.run.items ++ items_refs outside (map item_of l.items)
