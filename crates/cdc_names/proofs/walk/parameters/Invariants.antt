use Rattle.std.proofs.Common.{◌≡◌, ◌++◌, drop, map}
use Rattle.cdc_tree.specs.Forms.{define}
use Rattle.cdc_names.specs.Places.{joined}
use Rattle.cdc_names.specs.Uses.{define_uses}
use Rattle.cdc_names.proofs.walk.parameters.Given as goal

abbrev pub invariant-loop-item : goal.invariant-loop-item
invariant-loop-item l = l.out ++ joined (map define_uses (map define (drop l.item-index l.items))) ≡ l.initial.out ++ joined (map define_uses (map define l.items))
