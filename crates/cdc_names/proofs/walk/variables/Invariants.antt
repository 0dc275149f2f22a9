use Rattle.std.proofs.Common.{◌≡◌, ◌++◌, drop, map}
use Rattle.cdc_tree.specs.Forms.{declared}
use Rattle.cdc_names.specs.Places.{joined}
use Rattle.cdc_names.specs.Uses.{item_uses}
use Rattle.cdc_names.proofs.walk.variables.Given as goal

abbrev pub invariant-loop-item : goal.invariant-loop-item
invariant-loop-item l = l.out ++ joined (map item_uses (map declared (drop l.item-index l.items))) ≡ l.initial.out ++ joined (map item_uses (map declared l.items))
