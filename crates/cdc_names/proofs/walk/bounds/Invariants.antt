use Rattle.std.proofs.Common.{◌≡◌, ◌++◌, drop, map}
use Rattle.cdc_tree.specs.Forms.{bound}
use Rattle.cdc_names.specs.Places.{joined}
use Rattle.cdc_names.specs.Uses.{bound_uses}
use Rattle.cdc_names.proofs.walk.bounds.Given as goal

abbrev pub invariant-loop-b : goal.invariant-loop-b
invariant-loop-b l = l.out ++ joined (map bound_uses (map bound (drop l.b-index l.bs))) ≡ l.initial.out ++ joined (map bound_uses (map bound l.bs))
