use Rattle.std.proofs.Common.{◌≡◌, None, drop}
use Rattle.cdc_names.specs.Entries.{named}
use Rattle.cdc_names.specs.DoVariables.{opened_as}
use Rattle.cdc_names.proofs.open_loops.OpenLoops.opened_as.Given as goal

abbrev pub invariant-loop-o : goal.invariant-loop-o
invariant-loop-o l = opened_as l.role l.name (named (drop l.o-index l.o-items)) ≡ opened_as None l.name l.self
