use Rattle.std.proofs.Common.{◌≡◌, ◌++◌, map, drop}
use Rattle.cdc_tree.specs.Forms.{define}
use Rattle.cdc_names.specs.Declarations.{parameter, plain_declaration}
use Rattle.cdc_names.proofs.declared.parameters.Given as goal

abbrev pub invariant-loop-item : goal.invariant-loop-item
invariant-loop-item l = map plain_declaration l.out ++ map parameter (map define (drop l.item-index l.items)) ≡ map plain_declaration l.initial.out ++ map parameter (map define l.items)
