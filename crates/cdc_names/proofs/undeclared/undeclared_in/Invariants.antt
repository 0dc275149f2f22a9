use Rattle.std.proofs.Common.{◌≡◌, drop}
use Rattle.cdc_names.specs.Places.{sooner, first_of}
use Rattle.cdc_names.specs.Scopes.{plain_scope}
use Rattle.cdc_names.specs.Undeclared.{undeclared}
use Rattle.cdc_names.proofs.undeclared.undeclared_in.Given as goal

abbrev pub invariant-loop-u : goal.invariant-loop-u
invariant-loop-u l = sooner l.best (first_of (undeclared (plain_scope l.scope)) (drop l.u-index l.uses)) ≡ first_of (undeclared (plain_scope l.scope)) l.uses
