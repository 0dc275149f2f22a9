-- From distances to marks.
use Rattle.std.proofs.Common.{◌≡◌, ◌↔◌, ℕ, ◌+◌, ◌-◌, ◌≤◌, ◌<◌, Bool, false, List, [], ◌∷◌, ◌++◌, length, min, get_or, sym, ◌∙◌, subst, inl, inr, slice_index, IsTrue, arith}
use Rattle.std.proofs.lemmas.List.{get_or_push, get_or_append_left, get_or_past, get_or_default}
use Rattle.std.proofs.lemmas.Bool.{cases_lt}
use Rattle.std.proofs.lemmas.Bool.Decides.{nat_tests}
use Rattle.cdc_path.specs.declared.point.Point.{Point}
use Rattle.cdc_path.specs.declared.point.Point.TheVariants.{Write, Plain}
use Rattle.cdc_path.specs.PathExpr.{boundaries}
use Rattle.cdc_flow.specs.declared.graph.FlowGraph.{FlowGraph}
use Rattle.cdc_flow.specs.Flow.{HasEdge, point_at}
use Rattle.cdc_prog.specs.declared.program.Mark.TheVariants.{Ordinary, Time}
use Rattle.cdc_mark.specs.Least.{PastIn, IsIn, AreFar}
use Rattle.cdc_mark.specs.Marked.{IsLate, IsSource, AreLate, AreSources, mark_of}
use Rattle.cdc_mark.proofs.Firsts.{past_map, least_same}
use Rattle.cdc_mark.proofs.Glue.{past_of, reach_of}

pub pushed : (P : ℕ → Type 0) (bits : List Bool) (n : ℕ) (b : Bool) → length bits ≡ n → ((v : ℕ) → v < n → IsIn bits v ↔ P v) → (IsTrue b ↔ P n) → (v : ℕ) → v < n + 1 → IsIn (bits ++ b ∷ []) v ↔ P v
pushed P bits n b e h f v lt = elim (cases_lt v n) [
  | inl l ↦ rw (get_or_append_left bits (b ∷ []) false v (omega arith)) (h v l)
  | inr l ↦ (let q : v ≡ n = omega arith in rw (q, get_or_push bits b false n e) f)
]

pub late_is : (g : FlowGraph) (start bits : List Bool) (dist : List ℕ) → ((v : ℕ) → IsIn start v ↔ (v ≡ g.start)) → AreFar g (IsIn start) dist →
    ((v : ℕ) → v < length g.points → IsIn bits v ↔ (slice_index dist v ≤ 255)) → AreLate g bits
late_is g start bits dist s f b v lt =
    let P = point_at g.points in
    let E = HasEdge g.edges in (
      λ h. (let m = (f v lt).met ((b v lt).0 h) in
          let r = reach_of P E g.start (m.0 + 1) v (past_map g (IsIn start) (λ a. a ≡ g.start) (λ a. (s a).0) (m.0 + 1) v m.1) in
          (r.0, r.1, omega (arith, r.2))),
      λ h. (b v lt).1 (let p = past_map g (λ a. a ≡ g.start) (IsIn start) (λ a. (s a).1) (boundaries h.0) v (past_of P E g.start h.1.0 v h.0 h.1.1) in
          omega (arith, (f v lt).least (boundaries h.0 - 1) (subst (λ k. PastIn g (IsIn start) k v) (omega (arith, h.2)) p))),
    )

pub sources_are : (g : FlowGraph) (L : ℕ → Type 0) (late wanted bits : List Bool) → length bits ≡ length g.points → ((v : ℕ) → v < length g.points → IsIn late v ↔ L v) → AreSources g late wanted bits →
    (v : ℕ) → IsIn bits v ↔ ((w : ℕ) × (point_at g.points v ≡ Write w) × IsIn wanted w × L v)
sources_are g L late wanted bits n l s v = elim (cases_lt v (length g.points)) [
  | inl lt ↦ (λ h. (let x = (s v lt).0 h in (x.0, x.1, x.2, (l v lt).0 x.3)), λ h. (s v lt).1 (h.0, h.1, h.2, (l v lt).1 h.3))
  | inr ge ↦ (λ h. (let x : IsTrue false = subst IsTrue (get_or_past bits v false (omega arith)) h in cc), λ h. (let x : Plain ≡ Write h.0 = sym (get_or_past g.points v Plain ge) ∙ h.1 in cc))
]

pub sources_far : (g : FlowGraph) (late wanted bits : List Bool) (dist : List ℕ) → length bits ≡ length g.points → AreLate g late → AreSources g late wanted bits → AreFar g (IsIn bits) dist → AreFar g (IsSource g wanted) dist
sources_far g late wanted bits dist n l s f v lt =
    let b = sources_are g (IsLate g) late wanted bits n l s in
    least_same _ _ (slice_index dist v) (λ j. (past_map g (IsIn bits) (IsSource g wanted) (λ a. (b a).0) (j + 1) v, past_map g (IsSource g wanted) (IsIn bits) (λ a. (b a).1) (j + 1) v)) (f v lt)

pub near_mark : (d : ℕ) → d ≤ 255 → mark_of d ≡ Time (min (d + 1) 255)
near_mark d h = grind (arith, nat_tests)

pub far_mark : (d : ℕ) → 255 < d → mark_of d ≡ Ordinary
far_mark d h = grind (arith, nat_tests)

-- one more point was asked whether it is a source
pub source_pushed : (ps : List Point) (late wanted bits new : List Bool) (n : ℕ) (b : Bool) (q : Point) → new ≡ bits ++ b ∷ [] → length bits ≡ n → n < length ps →
    ((v : ℕ) → v < n → IsIn bits v ↔ ((w : ℕ) × (point_at ps v ≡ Write w) × IsIn wanted w × IsIn late v)) → (IsTrue b ↔ ((w : ℕ) × (get_or ps n q ≡ Write w) × IsIn wanted w × IsIn late n)) →
    (v : ℕ) → v < n + 1 → IsIn new v ↔ ((w : ℕ) × (point_at ps v ≡ Write w) × IsIn wanted w × IsIn late v)
source_pushed ps late wanted bits new n b q e l lt h f =
    subst (λ (xs : List Bool). (v : ℕ) → v < n + 1 → IsIn xs v ↔ ((w : ℕ) × (point_at ps v ≡ Write w) × IsIn wanted w × IsIn late v)) (sym e)
    (pushed (λ v. (w : ℕ) × (point_at ps v ≡ Write w) × IsIn wanted w × IsIn late v) bits n b l h
    (subst (λ p. IsTrue b ↔ ((w : ℕ) × (p ≡ Write w) × IsIn wanted w × IsIn late n)) (get_or_default ps n q Plain lt) f))
