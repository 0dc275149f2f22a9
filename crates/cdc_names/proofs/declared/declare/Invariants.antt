use Rattle.std.proofs.Common.{◌≡◌, ◌++◌, map, drop}
use Rattle.cdc_tree.specs.Forms.{statement}
use Rattle.cdc_names.specs.Declarations.{declared_in, plain_declaration}
use Rattle.cdc_names.proofs.declared.declare.Given as goal

abbrev pub invariant-loop-s : goal.invariant-loop-s
invariant-loop-s l = map plain_declaration l.out ++ declared_in (map statement (drop l.s-index l.statements)) ≡ map plain_declaration l.initial.out ++ declared_in (map statement l.statements)
