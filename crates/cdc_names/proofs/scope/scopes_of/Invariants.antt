use Rattle.std.proofs.Common.{◌≡◌, ◌++◌, map, drop}
use Rattle.cdc_tree.specs.Units.{unit}
use Rattle.cdc_names.specs.Scopes.{scope_of, plain_scope}
use Rattle.cdc_names.proofs.scope.scopes_of.Given as goal

abbrev pub invariant-loop-u : goal.invariant-loop-u
invariant-loop-u l = map plain_scope l.scopes ++ map scope_of (map unit (drop l.u-index l.units)) ≡ map scope_of (map unit l.units)
