use Rattle.std.proofs.Common.{◌≡◌, ◌++◌, map, drop}
use Rattle.cdc_tree.specs.Forms.{statement}
use Rattle.cdc_names.specs.Uses.{statements_uses}
use Rattle.cdc_names.proofs.walk.statements.Given as goal

abbrev pub invariant-loop-s : goal.invariant-loop-s
invariant-loop-s l = l.out ++ statements_uses (map statement (drop l.s-index l.ss)) ≡ l.initial.out ++ statements_uses (map statement l.ss)
