-- Graphs that have the paths of a path expression.
use Rattle.std.specs.Prelude.{◌≡◌, ◌↔◌, ◌⊎◌, ℕ, zero, suc, ◌<◌, List, [], ◌∷◌, ◌++◌, length, slice_index_or}
use Rattle.std.specs.List.{All}
use Rattle.cdc_path.specs.declared.point.Point.{Point}
use Rattle.cdc_path.specs.declared.point.Point.TheVariants.{Plain}
use Rattle.cdc_path.specs.PathExpr.{Visit, PathExpr, Passes, visits}
use Rattle.cdc_flow.specs.declared.graph.Edge.{Edge}
use Rattle.cdc_flow.specs.declared.graph.FlowGraph.{FlowGraph}

abbrev pub HasEdge : List Edge → (from to : ℕ) → Type 0
HasEdge [] a b = ⊥
HasEdge (e ∷ es) a b = ((e.from ≡ a) × (e.to ≡ b)) ⊎ HasEdge es a b

abbrev pub point_at : List Point → ℕ → Point
point_at points v = slice_index_or points v Plain

-- what is passed at a point, the newest first: a plain point is left out
abbrev pub pass : Point → List Visit → List Visit
pass Plain t = t
pass p t = record { path = []; point = p } ∷ t

-- k edges one after another lead from the start to v, and pass the points t
module _ (P : ℕ → Point) (E : ℕ → ℕ → Type 0) (start : ℕ) where
  abbrev pub Reach : (k : ℕ) → (v : ℕ) → (t : List Visit) → Type 0
  Reach zero v t = (v ≡ start) × (t ≡ [])
  Reach (suc k) v t = (a : ℕ) × (m : List Visit) × Reach k a m × E a v × (t ≡ pass (P v) m)

  abbrev pub Reaches : (v : ℕ) → (t : List Visit) → Type 0
  Reaches v t = (k : ℕ) × Reach k v t

-- points can be put before t so that Ends holds
pub data Begins (Ends : List Visit → Type 0) : List Visit → Type 0 where
  Done : (t : List Visit) → Ends t → Begins Ends t
  More : (v : Visit) (t : List Visit) → Begins Ends (v ∷ t) → Begins Ends t

-- the points v that are reached from the start of a graph, on a way that passes t
abbrev pub ReachedBy : FlowGraph → (v : ℕ) → (t : List Visit) → Type 0
ReachedBy g v t = Reaches (point_at g.points) (HasEdge g.edges) g.start v t

-- the points of a list, its plain ones left out, in order
abbrev pub shown : Point → List Visit
shown p = pass p []

abbrev pub shown_all : List Point → List Visit
shown_all [] = []
shown_all (p ∷ ps) = shown p ++ shown_all ps

-- the flow graph of a unit: its points, plain ones aside, are those of the unit, each once, and its paths from its start to its end are those of the unit. From each point that is reached the end can be reached. It begins at a plain point, and its edges join its points
pub record IsFlow (c : PathExpr) (g : FlowGraph) : Type 0 where
  pub points : shown_all g.points ≡ visits c
  pub paths : (u : List Visit) → Passes c [] u ↔ ReachedBy g g.end u
  pub onward : (v : ℕ) (u : List Visit) → ReachedBy g v u → Begins (ReachedBy g g.end) u
  pub begins : (g.start < length g.points) × (point_at g.points g.start ≡ Plain)
  pub within : All (λ e. (e.from < length g.points) × (e.to < length g.points)) g.edges
