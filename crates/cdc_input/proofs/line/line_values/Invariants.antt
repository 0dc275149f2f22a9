use Rattle.std.proofs.Common.{◌-◌, length}
use Rattle.cdc_input.proofs.Reached.{Reached}
use Rattle.cdc_input.proofs.line.line_values.Given as goal

abbrev pub invariant-loop-at : goal.invariant-loop-at
invariant-loop-at l = Reached l.line l.values.items l.at l.bare

abbrev pub decreases-loop-at : goal.decreases-loop-at
decreases-loop-at l = length l.line - l.at
