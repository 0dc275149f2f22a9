use Rattle.std.proofs.Common.{◌≡◌, ◌++◌, map, drop}
use Rattle.cdc_tree.specs.Plain.{plain, plains}
use Rattle.cdc_names.specs.Uses.{trees_uses}
use Rattle.cdc_names.proofs.walk.+tree.Given as goal

abbrev pub invariant-trees-loop-t : goal.invariant-trees-loop-t
invariant-trees-loop-t l = l.out ++ trees_uses (plains (map plain (drop l.t-index l.ts))) ≡ l.initial.out ++ trees_uses (plains (map plain l.ts))
