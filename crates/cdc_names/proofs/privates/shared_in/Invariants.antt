use Rattle.std.proofs.Common.{◌≡◌, [], drop}
use Rattle.cdc_names.specs.Places.{sooner}
use Rattle.cdc_names.specs.Privates.{shared_from}
use Rattle.cdc_names.proofs.privates.shared_in.Given as goal

abbrev pub invariant-loop-u : goal.invariant-loop-u
invariant-loop-u l = sooner l.best (shared_from l.loops (drop l.u-index l.uses)) ≡ shared_from [] l.uses
