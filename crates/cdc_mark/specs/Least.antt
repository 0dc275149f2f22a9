-- Least numbers of boundaries over all ways through a graph.
use Rattle.std.specs.Prelude.{◌≡◌, ◌↔◌, ℕ, ◌+◌, ◌≤◌, ◌<◌, Bool, false, IsTrue, if◌then◌else◌, nat_le, List, length, min, slice_index, slice_index_or}
use Rattle.std.specs.List.{All}
use Rattle.cdc_path.specs.declared.point.Point.{Point}
use Rattle.cdc_flow.specs.declared.graph.Edge.{Edge}
use Rattle.cdc_flow.specs.declared.graph.FlowGraph.{FlowGraph}
use Rattle.cdc_path.specs.PathExpr.{crosses}
use Rattle.cdc_flow.specs.Flow.{HasEdge, point_at}

-- edges lead from a source to v, and k boundaries come after the source, v included
pub data Past (P : ℕ → Point) (E : ℕ → ℕ → Type 0) (Source : ℕ → Type 0) : ℕ → ℕ → Type 0 where
  Begin : (v j : ℕ) → Source v → j ≡ 0 → Past P E Source j v
  On : (k a v j : ℕ) → Past P E Source k a → E a v → j ≡ k + crosses (P v) → Past P E Source j v

-- d is the least number of Q, cut at 255, or 256 where Q has none
pub record IsLeast (Q : ℕ → Type 0) (d : ℕ) : Type 0 where
  pub within : d ≤ 256
  pub least : (k : ℕ) → Q k → d ≤ min k 255
  pub met : d ≤ 255 → (k : ℕ) × Q k × (min k 255 ≡ d)

abbrev pub IsIn : List Bool → ℕ → Type 0
IsIn bits v = IsTrue (slice_index_or bits v false)

abbrev pub PastIn : FlowGraph → (Source : ℕ → Type 0) → (k v : ℕ) → Type 0
PastIn g Source k v = Past (point_at g.points) (HasEdge g.edges) Source k v

-- the edges of a graph join its vertices
abbrev pub IsGraph : FlowGraph → Type 0
IsGraph g = All (λ e. (e.from < length g.points) × (e.to < length g.points)) g.edges

-- a distance with a boundary more or none
abbrev pub over : (d c : ℕ) → ℕ
over d c = if nat_le d 255 then min (d + c) 255 else 256

-- what a distance says is met, and a source has distance 0
pub record Fair (g : FlowGraph) (Source : ℕ → Type 0) (dist : List ℕ) : Type 0 where
  pub count : length dist ≡ length g.points
  pub within : (v : ℕ) → v < length dist → slice_index dist v ≤ 256
  pub met : (v : ℕ) → v < length dist → slice_index dist v ≤ 255 → (k : ℕ) × PastIn g Source k v × (min k 255 ≡ slice_index dist v)
  pub sources : (v : ℕ) → v < length dist → Source v → slice_index dist v ≡ 0

-- an edge cannot lower a distance
abbrev pub Relaxed : FlowGraph → List ℕ → Edge → Type 0
Relaxed g dist e = slice_index dist e.to ≤ over (slice_index dist e.from) (crosses (point_at g.points e.to))

-- each vertex has its least distance
abbrev pub AreLeast : FlowGraph → (Source : ℕ → Type 0) → List ℕ → Type 0
AreLeast g Source dist = (v : ℕ) → v < length g.points → IsLeast (λ k. PastIn g Source k v) (slice_index dist v)

-- the distance of a vertex at the start
abbrev pub starts : (source : Bool) → ℕ
starts source = if source then 0 else 256

-- a first boundary after a source
abbrev pub First : FlowGraph → (Source : ℕ → Type 0) → ℕ → Type 0
First g Source v = (crosses (point_at g.points v) ≡ 1) × PastIn g Source 1 v

-- the bits tell where a distance is 1 at a boundary
abbrev pub AreFirsts : FlowGraph → (dist : List ℕ) → List Bool → Type 0
AreFirsts g dist bits = (v : ℕ) → v < length g.points → IsIn bits v ↔ ((crosses (point_at g.points v) ≡ 1) × (slice_index dist v ≡ 1))

-- each vertex has the least number over the ways with a boundary, less 1
abbrev pub AreFar : FlowGraph → (Source : ℕ → Type 0) → List ℕ → Type 0
AreFar g Source dist = (v : ℕ) → v < length g.points → IsLeast (λ j. PastIn g Source (j + 1) v) (slice_index dist v)

-- no source is a boundary
abbrev pub ArePlain : FlowGraph → (Source : ℕ → Type 0) → Type 0
ArePlain g Source = (v : ℕ) → Source v → crosses (point_at g.points v) ≡ 0
