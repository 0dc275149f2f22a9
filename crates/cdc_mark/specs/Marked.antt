-- The points that distances are searched from.
use Rattle.std.specs.Prelude.{◌≡◌, ◌↔◌, ◌⊎◌, ℕ, ◌+◌, ◌≤◌, ◌<◌, Bool, List, if◌then◌else◌, length, get_or, min, nat_le, slice_index}
use Rattle.cdc_prog.specs.declared.program.Mark.{Mark}
use Rattle.cdc_prog.specs.declared.program.Mark.TheVariants.{Ordinary, Time}
use Rattle.cdc_path.specs.declared.point.Point.{Point}
use Rattle.cdc_path.specs.declared.point.Point.TheVariants.{Write}
use Rattle.cdc_path.specs.PathExpr.{Visit, boundaries}
use Rattle.cdc_flow.specs.declared.graph.FlowGraph.{FlowGraph}
use Rattle.cdc_flow.specs.Flow.{point_at, ReachedBy}
use Rattle.cdc_prog.specs.Plain.{Program}
use Rattle.cdc_path.specs.Covers.{HasCover}
use Rattle.cdc_mark.specs.Least.{IsIn}

-- a boundary comes before v on some way
abbrev pub IsLate : FlowGraph → ℕ → Type 0
IsLate g v = (t : List Visit) × ReachedBy g v t × (1 ≤ boundaries t)

-- a write that is wanted, and late
abbrev pub IsSource : FlowGraph → (wanted : List Bool) → ℕ → Type 0
IsSource g wanted v = (w : ℕ) × (point_at g.points v ≡ Write w) × IsIn wanted w × IsLate g v

-- the bits tell the points that are late
abbrev pub AreLate : FlowGraph → List Bool → Type 0
AreLate g late = (v : ℕ) → v < length g.points → IsIn late v ↔ IsLate g v

-- the bits tell the sources
abbrev pub AreSourcesOf : List Point → (late wanted : List Bool) → List Bool → Type 0
AreSourcesOf ps late wanted bits = (v : ℕ) → v < length ps → IsIn bits v ↔ ((w : ℕ) × (point_at ps v ≡ Write w) × IsIn wanted w × IsIn late v)

abbrev pub AreSources : FlowGraph → (late wanted : List Bool) → List Bool → Type 0
AreSources g late wanted bits = AreSourcesOf g.points late wanted bits

abbrev pub mark_of : ℕ → Mark
mark_of d = if nat_le d 255 then Time (min (d + 1) 255) else Ordinary

-- a mark is ordinary where the site has no distance or is covered, and else that of its distance
abbrev pub IsMarkAt : (best : List ℕ) → (covered : List Bool) → (site : ℕ) → Mark → Type 0
IsMarkAt best covered site m =
    ((length best ≤ site) × (m ≡ Ordinary)) ⊎ ((IsIn covered site × (m ≡ Ordinary)) ⊎ ((site < length best) × (IsIn covered site → ⊥) × (m ≡ mark_of (slice_index best site))))

-- the bits tell which of the first sites have a cover
abbrev pub AreCovered : Program → (room : ℕ) → List Bool → Type 0
AreCovered p room bits = (site : ℕ) → site < room → IsIn bits site ↔ HasCover p site

-- the marks of the first n sites, which are numbered from 1
pub record AreMarksAt (best : List ℕ) (covered : List Bool) (n : ℕ) (marks : List Mark) : Type 0 where
  pub count : length marks ≡ n
  pub each : (k : ℕ) → k < n → IsMarkAt best covered (k + 1) (get_or marks k Ordinary)
