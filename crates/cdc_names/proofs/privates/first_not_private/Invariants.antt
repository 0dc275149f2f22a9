use Rattle.std.proofs.Common.{◌≡◌, map, drop}
use Rattle.cdc_names.specs.Places.{sooner, first_of}
use Rattle.cdc_names.specs.Scopes.{plain_scope}
use Rattle.cdc_names.specs.Privates.{not_private_in}
use Rattle.cdc_names.proofs.privates.first_not_private.Given as goal

abbrev pub invariant-loop-scope : goal.invariant-loop-scope
invariant-loop-scope l = sooner l.best (first_of not_private_in (map plain_scope (drop l.scope-index l.scopes))) ≡ first_of not_private_in (map plain_scope l.scopes)
