-- What is built of a path expression: the points and edges that it adds.
use Rattle.std.specs.Prelude.{◌≡◌, ℕ, List, [], ◌∷◌, ◌++◌, length}
use Rattle.cdc_path.specs.declared.point.Point.{Point}
use Rattle.cdc_path.specs.declared.point.Point.TheVariants.{Plain}
use Rattle.cdc_path.specs.PathExpr.{PathExpr, Nothing, One, Then, Either, Repeat}
use Rattle.cdc_flow.specs.declared.graph.Edge.{Edge}
use Rattle.cdc_flow.specs.declared.builder.Builder.{Builder}

abbrev pub edge : ℕ → ℕ → Edge
edge a b = record { from = a; to = b }

abbrev pub beginning : Builder
beginning = record { points = Plain ∷ []; edges = []; at = 0 }

abbrev pub linked : (from to : ℕ) → Builder → Builder
linked from to g = record { points = g.points; edges = g.edges ++ edge from to ∷ []; at = g.at }

abbrev pub moved : ℕ → Builder → Builder
moved v g = record { points = g.points; edges = g.edges; at = v }

-- a point after the last one
abbrev pub pointed : Point → Builder → Builder
pointed p g = record { points = g.points ++ p ∷ []; edges = g.edges ++ edge g.at (length g.points) ∷ []; at = length g.points }

-- a plain point after the last one and another one
abbrev pub meeting : (end : ℕ) → Builder → Builder
meeting end g =
    let z = pointed Plain g in
    linked end z.at z

-- two parts side by side meet in a plain point; what is repeated begins and ends in one
abbrev pub built : PathExpr → Builder → Builder
built Nothing g = g
built (One v) g = pointed v.point g
built (Then a b) g = built b (built a g)
built (Either a b) g =
    let x = built a g in
    meeting x.at (built b (moved g.at x))
built (Repeat a) g =
    let h = pointed Plain g in
    let x = built a h in
    moved h.at (linked x.at h.at x)

-- parts that end so meet what was built last, the last of them first
abbrev pub met : (ends : List ℕ) → Builder → Builder
met [] g = g
met (end ∷ ends) g = meeting end (met ends g)

-- after a condition an arm was built, which ends so; what follows comes after the condition
pub record IsArmed (cond body : PathExpr) (old new : Builder) (end : ℕ) : Type 0 where
  pub end_is : end ≡ (built body (built cond old)).at
  pub new_is : new ≡ moved (built cond old).at (built body (built cond old))
