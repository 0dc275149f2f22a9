-- How many points a path expression adds, which, and what edges.
use Rattle.std.proofs.Common.{◌≡◌, ℕ, ◌+◌, List, [], ◌∷◌, ◌++◌, length, refl, ap, ◌∙◌, arith}
use Rattle.std.proofs.lemmas.List.{length-append}
use Rattle.cdc_path.specs.declared.point.Point.{Point}
use Rattle.cdc_path.specs.declared.point.Point.TheVariants.{Plain}
use Rattle.cdc_path.specs.PathExpr.{PathExpr, Nothing, One, Then, Either, Repeat}
use Rattle.cdc_flow.specs.declared.graph.Edge.{Edge}
use Rattle.cdc_flow.specs.declared.builder.Builder.{Builder}
use Rattle.cdc_flow.specs.Built.{edge, pointed, moved, linked, meeting, built}

abbrev pub size : PathExpr → ℕ
size Nothing = 0
size (One v) = 1
size (Then a b) = size a + size b
size (Either a b) = size a + size b + 1
size (Repeat a) = size a + 1

-- the point where an expression ends that begins after the point `from`, where n is the number of points so far
abbrev pub last : PathExpr → (from n : ℕ) → ℕ
last Nothing from n = from
last (One v) from n = n
last (Then a b) from n = last b (last a from n) (n + size a)
last (Either a b) from n = n + size a + size b
last (Repeat a) from n = n

abbrev pub points_onto : PathExpr → List Point → List Point
points_onto Nothing ps = ps
points_onto (One v) ps = ps ++ v.point ∷ []
points_onto (Then a b) ps = points_onto b (points_onto a ps)
points_onto (Either a b) ps = points_onto b (points_onto a ps) ++ Plain ∷ []
points_onto (Repeat a) ps = points_onto a (ps ++ Plain ∷ [])

abbrev pub edges_onto : PathExpr → (from n : ℕ) → List Edge → List Edge
edges_onto Nothing from n es = es
edges_onto (One v) from n es = es ++ edge from n ∷ []
edges_onto (Then a b) from n es = edges_onto b (last a from n) (n + size a) (edges_onto a from n es)
edges_onto (Either a b) from n es =
    let j = n + size a + size b in
    (edges_onto b from (n + size a) (edges_onto a from n es) ++ edge (last b from (n + size a)) j ∷ []) ++ edge (last a from n) j ∷ []
edges_onto (Repeat a) from n es = edges_onto a n (n + 1) (es ++ edge from n ∷ []) ++ edge (last a n (n + 1)) n ∷ []

longer : (ps : List Point) (p : Point) (n : ℕ) → length ps ≡ n → length (ps ++ p ∷ []) ≡ n + 1
longer ps p n e = omega (arith, length-append ps (p ∷ []))

pub count_onto : (c : PathExpr) (ps : List Point) (n : ℕ) → length ps ≡ n → length (points_onto c ps) ≡ n + size c
count_onto Nothing ps n e = omega (arith, e)
count_onto (One v) ps n e = longer ps v.point n e
count_onto (Then a b) ps n e = omega (arith, count_onto b (points_onto a ps) (n + size a) (count_onto a ps n e))
count_onto (Either a b) ps n e = omega (arith, longer _ Plain _ (count_onto b (points_onto a ps) (n + size a) (count_onto a ps n e)))
count_onto (Repeat a) ps n e = omega (arith, count_onto a _ _ (longer ps Plain n e))

abbrev pub grown : PathExpr → (n : ℕ) → Builder → Builder
grown c n g = record { points = points_onto c g.points; edges = edges_onto c g.at n g.edges; at = last c g.at n }

-- what is built are these lists
pub grows : (c : PathExpr) (g : Builder) (n : ℕ) → length g.points ≡ n → built c g ≡ grown c n g
grows Nothing g n e = refl
grows (One v) g n e = rw e refl
grows (Then a b) g n e = ap (built b) (grows a g n e) ∙ grows b (grown a n g) (n + size a) (count_onto a g.points n e)
grows (Either a b) g n e =
    let y = grown a n g in
    let z = moved g.at y in
    let m = count_onto b (points_onto a g.points) (n + size a) (count_onto a g.points n e) in
    ap (λ x. meeting x.at (built b (moved g.at x))) (grows a g n e) ∙ ap (meeting y.at) (grows b z (n + size a) (count_onto a g.points n e)) ∙ (rw m refl)
grows (Repeat a) g n e =
    let h = pointed Plain g in
    ap (λ x. moved h.at (linked x.at h.at x)) (grows a h (n + 1) (longer g.points Plain n e)) ∙ (rw e refl)
