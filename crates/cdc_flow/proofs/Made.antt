-- What is built of a path expression is its flow graph.
use Rattle.std.proofs.Common.{◌≡◌, ℕ, ◌+◌, ◌≤◌, ◌<◌, List, [], ◌∷◌, ◌++◌, refl, sym, ap, ◌∙◌, append_assoc, append-nil, length, arith}
use Rattle.std.specs.List.{All}
use Rattle.std.proofs.lemmas.List.Elements.{All-push, All-nil}
use Rattle.cdc_path.specs.declared.point.Point.{Point}
use Rattle.cdc_path.specs.declared.point.Point.TheVariants.{Plain}
use Rattle.cdc_path.specs.PathExpr.{PathExpr, Nothing, One, Then, Either, Repeat, visits}
use Rattle.cdc_flow.specs.declared.graph.Edge.{Edge}
use Rattle.cdc_flow.specs.declared.graph.FlowGraph.{FlowGraph}
use Rattle.cdc_flow.specs.declared.builder.Builder.{Builder}
use Rattle.cdc_flow.specs.Flow.{point_at, shown, shown_all, IsFlow}
use Rattle.cdc_flow.specs.Built.{edge, beginning, built}
use Rattle.cdc_flow.proofs.Sizes.{size, last, points_onto, edges_onto, count_onto, grows}
use Rattle.cdc_flow.proofs.Flows.{Passed}
use Rattle.cdc_flow.proofs.Lays.{built_paths, stands}
use Rattle.cdc_flow.proofs.Onward.{goes_on}

-- ---- the points
shown_more : (ps : List Point) (p : Point) → shown_all (ps ++ p ∷ []) ≡ shown_all ps ++ shown p
shown_more [] p = append-nil (shown p)
shown_more (q ∷ ps) p = ap (λ l. shown q ++ l) (shown_more ps p) ∙ sym (append_assoc (shown q) (shown_all ps) (shown p))

shown_plain : (ps : List Point) → shown_all (ps ++ Plain ∷ []) ≡ shown_all ps
shown_plain ps = shown_more ps Plain ∙ append-nil (shown_all ps)

pub shown_onto : (c : PathExpr) (ps : List Point) → Passed c → shown_all (points_onto c ps) ≡ shown_all ps ++ visits c
shown_onto Nothing ps q = sym (append-nil (shown_all ps))
shown_onto (One v) ps q = shown_more ps v.point ∙ ap (λ l. shown_all ps ++ l) (q [])
shown_onto (Then a b) ps q = shown_onto b (points_onto a ps) q.1 ∙ (ap (λ l. l ++ visits b) (shown_onto a ps q.0) ∙ append_assoc (shown_all ps) (visits a) (visits b))
shown_onto (Either a b) ps q = shown_plain (points_onto b (points_onto a ps)) ∙ (shown_onto b (points_onto a ps) q.1 ∙ (ap (λ l. l ++ visits b) (shown_onto a ps q.0) ∙ append_assoc (shown_all ps) (visits a) (visits b)))
shown_onto (Repeat a) ps q = shown_onto a (ps ++ Plain ∷ []) q ∙ ap (λ l. l ++ visits a) (shown_plain ps)

-- ---- the edges
module _ (N : ℕ) where
  abbrev Below : List Edge → Type 0
  Below es = All (λ e. (e.from < N) × (e.to < N)) es

  push : (es : List Edge) (a b : ℕ) → a < N → b < N → Below es → Below (es ++ edge a b ∷ [])
  push es a b x y h = All-push (λ e. (e.from < N) × (e.to < N)) es (edge a b) h (x, y)

  last_below : (c : PathExpr) (from n : ℕ) → n + size c ≤ N → from < N → last c from n < N
  last_below Nothing from n l f = f
  last_below (One v) from n l f = omega arith
  last_below (Then a b) from n l f = last_below b (last a from n) (n + size a) (omega arith) (last_below a from n (omega arith) f)
  last_below (Either a b) from n l f = omega arith
  last_below (Repeat a) from n l f = omega arith

  below : (c : PathExpr) (from n : ℕ) → n + size c ≤ N → from < N → (es : List Edge) → Below es → Below (edges_onto c from n es)
  below Nothing from n l f es h = h
  below (One v) from n l f es h = push es from n f (omega arith) h
  below (Then a b) from n l f es h = below b (last a from n) (n + size a) (omega arith) (last_below a from n (omega arith) f) _ (below a from n (omega arith) f es h)
  below (Either a b) from n l f es h =
      push _ _ _ (last_below a from n (omega arith) f) (omega arith) (push _ _ _ (last_below b from (n + size a) (omega arith) f) (omega arith)
      (below b from (n + size a) (omega arith) f _ (below a from n (omega arith) f es h)))
  below (Repeat a) from n l f es h =
      push _ _ _ (last_below a n (n + 1) (omega arith) (omega arith)) (omega arith) (below a n (n + 1) (omega arith) (omega arith) _ (push es from n f (omega arith) h))

pub made : (c : PathExpr) (g : FlowGraph) → Passed c → g.start ≡ 0 → g.end ≡ last c 0 1 → g.points ≡ points_onto c (Plain ∷ []) → g.edges ≡ edges_onto c 0 1 [] → IsFlow c g
made c g q st en p e = record {
  points = rw p (shown_onto c (Plain ∷ []) q);
  paths = rw (p, e, st, en) (built_paths c q);
  onward = rw (p, e, st, en) (λ v u r. goes_on c r.0 v u r.1);
  begins = rw (p, st) (omega (arith, count_onto c (Plain ∷ []) 1 refl), (stands (point_at (points_onto c (Plain ∷ []))) c (Plain ∷ []) 1 refl (λ i lt. refl)).0 0 (omega arith));
  within = rw (p, e) (below (length (points_onto c (Plain ∷ []))) c 0 1 (omega (arith, count_onto c (Plain ∷ []) 1 refl)) (omega (arith, count_onto c (Plain ∷ []) 1 refl)) [] (All-nil (λ e. (e.from < length (points_onto c (Plain ∷ []))) × (e.to < length (points_onto c (Plain ∷ []))))));
}

pub made_of : (c : PathExpr) (b : Builder) (g : FlowGraph) → Passed c → b ≡ built c beginning → g.start ≡ 0 → g.end ≡ b.at → g.points ≡ b.points → g.edges ≡ b.edges → IsFlow c g
made_of c b g q e st en p es =
    let h = e ∙ grows c beginning 1 refl in
    made c g q st (en ∙ ap (λ (x : Builder). x.at) h) (p ∙ ap (λ (x : Builder). x.points) h) (es ∙ ap (λ (x : Builder). x.edges) h)
