use Rattle.std.proofs.Common.{◌≡◌, None, drop}
use Rattle.cdc_names.specs.Duplicates.{first_pair}
use Rattle.cdc_names.proofs.duplicates.first_pair.Given as goal

abbrev pub invariant-loop-names : goal.invariant-loop-names
invariant-loop-names l = first_pair l.best (drop l.names-index l.lists) ≡ first_pair None l.lists
