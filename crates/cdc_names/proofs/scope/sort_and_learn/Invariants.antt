use Rattle.std.proofs.Common.{◌≡◌, map, drop}
use Rattle.cdc_names.specs.Declarations.{plain_declaration}
use Rattle.cdc_names.specs.Scopes.{sorts_from, values_from}
use Rattle.cdc_names.proofs.scope.sort_and_learn.Given as goal

abbrev pub invariant-loop-d : goal.invariant-loop-d
invariant-loop-d l =
    (sorts_from l.sorts (map plain_declaration (drop l.d-index l.ds)) ≡ sorts_from l.initial.sorts (map plain_declaration l.ds))
    × (values_from l.values (map plain_declaration (drop l.d-index l.ds)) ≡ values_from l.initial.values (map plain_declaration l.ds))
