use Rattle.std.proofs.Common.{List, Bool, sum}
use Rattle.cdc_mark.specs.Least.{IsIn, Fair}
use Rattle.cdc_mark.proofs.search.settle.Given as goal

abbrev pub invariant-loop : goal.invariant-loop
invariant-loop l = (sources : List Bool) → Fair l.graph (IsIn sources) l.initial.dist → Fair l.graph (IsIn sources) l.dist

abbrev pub decreases-loop : goal.decreases-loop
decreases-loop l = sum l.dist
