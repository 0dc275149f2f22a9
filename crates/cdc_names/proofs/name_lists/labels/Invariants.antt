use Rattle.std.proofs.Common.{◌≡◌, ◌++◌, drop}
use Rattle.cdc_names.proofs.name_lists.labels.Given as goal

abbrev pub invariant-loop-named : goal.invariant-loop-named
invariant-loop-named l = l.names ++ drop l.named-index l.more ≡ l.initial.names ++ l.more
