use Rattle.std.proofs.Common.{◌≤◌, drop, length, map}
use Rattle.std.specs.List.{All}
use Rattle.cdc_mark.specs.Covered.{spot_of, IsPassed}
use Rattle.cdc_mark.proofs.covers.has_cover.Given as goal

abbrev pub invariant-loop-left : goal.invariant-loop-left
invariant-loop-left l = record {
  bound : l.left ≤ length l.earlier;
  passed : All (IsPassed (spot_of l.read)) (drop l.left (map spot_of l.earlier));
}

abbrev pub decreases-loop-left : goal.decreases-loop-left
decreases-loop-left l = l.left
