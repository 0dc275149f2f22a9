use Rattle.std.proofs.Common.{◌≡◌, ◌≤◌, length, drop}
use Rattle.cdc_names.specs.Duplicates.{twice}
use Rattle.cdc_names.proofs.Nexts.{nexts}
use Rattle.cdc_names.proofs.duplicates.twice.Given as goal

abbrev pub invariant-loop-at : goal.invariant-loop-at
invariant-loop-at l = (l.at ≤ length l.names) × (l.best ≡ twice (drop l.at l.names)) × (l.next ≡ nexts (drop l.at l.names))

abbrev pub decreases-loop-at : goal.decreases-loop-at
decreases-loop-at l = l.at
