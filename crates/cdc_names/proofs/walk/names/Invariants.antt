use Rattle.std.proofs.Common.{◌≡◌, ◌++◌, drop}
use Rattle.cdc_names.specs.Uses.{names_uses}
use Rattle.cdc_names.proofs.walk.names.Given as goal

abbrev pub invariant-loop-n : goal.invariant-loop-n
invariant-loop-n l = l.out ++ names_uses l.role (drop l.n-index l.names) ≡ l.initial.out ++ names_uses l.role l.names
