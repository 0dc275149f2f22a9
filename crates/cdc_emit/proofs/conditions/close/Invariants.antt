use Rattle.std.proofs.Common.{◌≡◌, length, vec_len}
use Rattle.cdc_emit.specs.Parts.{AreWithin, written}
use Rattle.cdc_emit.proofs.conditions.close.Given as goal

abbrev pub invariant-loop-pending : goal.invariant-loop-pending
invariant-loop-pending l = record {
  end : l.end ≡ length l.steps;
  within : AreWithin l.steps l.ends.items;
  written : written l.end l.ends.items l.steps ≡ written l.end l.initial.ends.items l.initial.steps;
}

abbrev pub decreases-loop-pending : goal.decreases-loop-pending
decreases-loop-pending l = vec_len l.ends
