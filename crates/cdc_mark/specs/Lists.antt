-- Which boundaries a write leads to.
use Rattle.std.specs.Prelude.{◌≡◌, ◌↔◌, ℕ, ◌<◌, Bool, List, length}
use Rattle.cdc_path.specs.declared.point.Point.TheVariants.{Write}
use Rattle.cdc_path.specs.PathExpr.{Visit}
use Rattle.cdc_flow.specs.declared.graph.FlowGraph.{FlowGraph}
use Rattle.cdc_flow.specs.Flow.{point_at, ReachedBy}
use Rattle.cdc_mark.specs.Least.{IsIn, First}

abbrev pub IsReached : FlowGraph → ℕ → Type 0
IsReached g v = (t : List Visit) × ReachedBy g v t × Unit {0}

abbrev pub IsWrite : FlowGraph → (wanted : List Bool) → ℕ → Type 0
IsWrite g wanted v = (w : ℕ) × (point_at g.points v ≡ Write w) × IsIn wanted w × IsReached g v

-- the bits tell the points that are reached
abbrev pub AreReached : FlowGraph → List Bool → Type 0
AreReached g bits = (v : ℕ) → v < length g.points → IsIn bits v ↔ IsReached g v

-- the bits tell the boundaries that writes lead to
abbrev pub AreWritten : FlowGraph → (wanted : List Bool) → List Bool → Type 0
AreWritten g wanted bits = (v : ℕ) → v < length g.points → IsIn bits v ↔ First g (IsWrite g wanted) v
