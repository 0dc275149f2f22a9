use Rattle.std.proofs.Common.{◌≡◌, drop}
use Rattle.cdc_names.specs.Entries.{named}
use Rattle.cdc_names.specs.Privates.{is_private_in}
use Rattle.cdc_names.proofs.open_loops.OpenLoops.is_private.Given as goal

abbrev pub invariant-loop-o : goal.invariant-loop-o
invariant-loop-o l = is_private_in l.name (named (drop l.o-index l.o-items)) ≡ is_private_in l.name l.self
