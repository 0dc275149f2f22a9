use Rattle.std.proofs.Common.{◌≡◌, ◌<◌, true, false, List, Bool, take, sum}
use Rattle.std.specs.List.{All}
use Rattle.cdc_mark.specs.Least.{IsIn, Fair, Relaxed}
use Rattle.cdc_mark.proofs.search.sweep.Given as goal

abbrev pub invariant-loop-at : goal.invariant-loop-at
invariant-loop-at l = record {
  fair : (sources : List Bool) → Fair l.graph (IsIn sources) l.initial.dist → Fair l.graph (IsIn sources) l.dist;
  lowered : l.lowered ≡ true → sum l.dist < sum l.initial.dist;
  same : l.lowered ≡ false → l.dist ≡ l.initial.dist;
  relaxed : l.lowered ≡ false → All (Relaxed l.graph l.dist) (take l.at l.graph.edges);
}
