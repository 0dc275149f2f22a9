use Rattle.std.proofs.Common.{◌≡◌, ◌++◌, map, drop}
use Rattle.cdc_tree.specs.Forms.{declared}
use Rattle.cdc_names.specs.Declarations.{variable, plain_declaration}
use Rattle.cdc_names.proofs.declared.variables.Given as goal

abbrev pub invariant-loop-item : goal.invariant-loop-item
invariant-loop-item l = map plain_declaration l.out ++ map variable (map declared (drop l.item-index l.items)) ≡ map plain_declaration l.initial.out ++ map variable (map declared l.items)
