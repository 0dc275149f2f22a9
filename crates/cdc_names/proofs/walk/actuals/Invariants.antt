use Rattle.std.proofs.Common.{◌≡◌, ◌++◌, drop, map}
use Rattle.cdc_tree.specs.Plain.{plain}
use Rattle.cdc_names.specs.Places.{joined}
use Rattle.cdc_names.specs.Uses.{actual_uses}
use Rattle.cdc_names.proofs.walk.actuals.Given as goal

abbrev pub invariant-loop-t : goal.invariant-loop-t
invariant-loop-t l = l.out ++ joined (map actual_uses (map plain (drop l.t-index l.ts))) ≡ l.initial.out ++ joined (map actual_uses (map plain l.ts))
