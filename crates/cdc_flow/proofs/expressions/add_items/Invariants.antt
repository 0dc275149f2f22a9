use Rattle.std.proofs.Common.{◌≡◌, [], drop, map}
use Rattle.cdc_prog.specs.Translation.{item_of}
use Rattle.cdc_path.specs.Courses.{items_course}
use Rattle.cdc_flow.specs.Built.{built}
use Rattle.cdc_flow.proofs.expressions.add_items.Given as goal

abbrev pub invariant-loop-item : goal.invariant-loop-item
invariant-loop-item l = built (items_course [] (map item_of (drop l.item-index l.items))) l.g ≡ built (items_course [] (map item_of l.items)) l.initial.g
