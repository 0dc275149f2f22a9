use Rattle.std.proofs.Common.{◌≡◌, [], drop}
use Rattle.cdc_names.specs.Places.{sooner}
use Rattle.cdc_names.specs.DoVariables.{spoiled_from}
use Rattle.cdc_names.proofs.do_variables.spoiled_in.Given as goal

abbrev pub invariant-loop-u : goal.invariant-loop-u
invariant-loop-u l = sooner l.best (spoiled_from l.loops (drop l.u-index l.uses)) ≡ spoiled_from [] l.uses
