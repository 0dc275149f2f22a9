use Rattle.std.proofs.Common.{◌≡◌, map, drop}
use Rattle.cdc_tree.specs.Plain.{plain, plains}
use Rattle.cdc_parse.specs.Kinds.{are_numbers}
use Rattle.cdc_parse.proofs.kind.+kind.Given as goal

abbrev pub invariant-are_numbers-loop-tree : goal.invariant-are_numbers-loop-tree
invariant-are_numbers-loop-tree l = are_numbers (plains (map plain l.trees)) ≡ are_numbers (plains (map plain (drop l.tree-index l.trees)))
