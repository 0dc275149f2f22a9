use Rattle.std.proofs.Common.{◌≡◌, drop}
use Rattle.cdc_names.specs.Entries.{named}
use Rattle.cdc_names.specs.Privates.{in_doall}
use Rattle.cdc_names.proofs.open_loops.OpenLoops.in_doall.Given as goal

abbrev pub invariant-loop-o : goal.invariant-loop-o
invariant-loop-o l = in_doall (named (drop l.o-index l.o-items)) ≡ in_doall l.self
