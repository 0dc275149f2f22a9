use Rattle.std.proofs.Common.{◌≡◌, ◌++◌, drop, map}
use Rattle.cdc_tree.specs.Forms.{shown}
use Rattle.cdc_names.specs.Places.{joined}
use Rattle.cdc_names.specs.Uses.{shown_uses}
use Rattle.cdc_names.proofs.walk.shown_items.Given as goal

abbrev pub invariant-loop-item : goal.invariant-loop-item
invariant-loop-item l = l.out ++ joined (map shown_uses (map shown (drop l.item-index l.items))) ≡ l.initial.out ++ joined (map shown_uses (map shown l.items))
