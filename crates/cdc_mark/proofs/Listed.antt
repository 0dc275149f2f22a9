-- A write leads to a boundary exactly where a first boundary after it stands.
use Rattle.std.proofs.Common.{◌≡◌, ◌≢◌, ◌↔◌, ℕ, ◌≤◌, ◌<◌, Bool, List, ◌∷◌, ◌++◌, refl, ap, ◌∙◌, subst, length, slice_index, arith}
use Rattle.cdc_path.specs.declared.point.Point.{Point}
use Rattle.cdc_path.specs.declared.point.Point.TheVariants.{Read, Write, Entry, Exit, Call, Plain}
use Rattle.cdc_path.specs.PathExpr.{Visit, PathExpr, crosses, boundaries}
use Rattle.cdc_flow.specs.declared.graph.FlowGraph.{FlowGraph}
use Rattle.cdc_flow.specs.Flow.{HasEdge, point_at, pass, Reaches, IsFlow}
use Rattle.cdc_mark.specs.Least.{PastIn, IsIn, First, AreLeast, AreFirsts}
use Rattle.cdc_mark.specs.Marked.{AreSources}
use Rattle.cdc_mark.specs.Ways.{here, IsWritten}
use Rattle.cdc_mark.specs.Lists.{IsWrite, IsReached, AreReached, AreWritten}
use Rattle.cdc_mark.proofs.Firsts.{past_map, bits_first}
use Rattle.cdc_mark.proofs.Glue.{At, put_before, cut, begun, follow_to, past_of, reach_of}
use Rattle.cdc_mark.proofs.Marking.{sources_are}

crossing : (b : Point) → crosses b ≡ 1 → ((w : ℕ) → b ≢ Write w) × ((m : List Visit) → pass b m ≡ here b ∷ m)
crossing (Entry k) c = (λ w e. cc, λ m. refl)
crossing (Exit k) c = (λ w e. cc, λ m. refl)
crossing (Read k) c = absurd (omega arith)
crossing (Write k) c = absurd (omega arith)
crossing (Call k) c = absurd (omega arith)
crossing Plain c = absurd (omega arith)

pub written_first : (c : PathExpr) (g : FlowGraph) (wanted : List Bool) (b : Point) → IsFlow c g → crosses b ≡ 1 → IsWritten c wanted b → (v : ℕ) × (point_at g.points v ≡ b) × First g (IsWrite g wanted) v
written_first c g wanted b flow one h =
    let P = point_at g.points in
    let E = HasEdge g.edges in
    let n = h.2 in
    let rest = n.between ++ (here (Write h.0) ∷ n.before) in
    let whole = (flow.paths (n.after ++ (here b ∷ rest))).0 n.on_path in
    let v = begun P E g.start (At P E g.start b rest) _ _ (cut P E g.start b rest whole.0 g.end _ n.after whole.1 refl) in
    let way = cut P E g.start (Write h.0) n.before v.1.1.0 v.0 (here b ∷ rest) (here b ∷ n.between) v.1.1.1 refl in (
      v.0,
      v.1.0,
      (
        ap crosses v.1.0 ∙ one,
        past_map g (At P E g.start (Write h.0) n.before) (IsWrite g wanted) (λ a x. (h.0, x.0, h.1, (here (Write h.0) ∷ n.before, x.1, tt))) 1 v.0 (subst (λ j. PastIn g (At P E g.start (Write h.0) n.before) j v.0) (omega (arith, n.near, one)) way),
      ),
    )

pub first_written : (c : PathExpr) (g : FlowGraph) (wanted : List Bool) (b : Point) (v : ℕ) → IsFlow c g → crosses b ≡ 1 → point_at g.points v ≡ b → First g (IsWrite g wanted) v → IsWritten c wanted b
first_written c g wanted b v flow one q f =
    let P = point_at g.points in
    let E = HasEdge g.edges in
    let x = crossing b one in
    let m = follow_to P E g.start (IsIn wanted) (λ t. Unit {0}) flow.begins.1 b 1 v q x.0 x.1 f.1 0 (omega (arith, one)) in
    let t = here b ∷ (m.between ++ (here (Write m.w) ∷ m.before)) in
    let z = put_before (Reaches P E g.start g.end) t (flow.onward v t m.reaches) in
    (m.w, m.good, record { before = m.before; between = m.between; after = z.0; on_path = (flow.paths (z.0 ++ t)).1 z.1; near = m.count })

pub reached_is : (g : FlowGraph) (start bits : List Bool) (dist : List ℕ) → ((v : ℕ) → IsIn start v ↔ (v ≡ g.start)) → AreLeast g (IsIn start) dist →
    ((v : ℕ) → v < length g.points → IsIn bits v ↔ (slice_index dist v ≤ 255)) → AreReached g bits
reached_is g start bits dist s f b v lt =
    let P = point_at g.points in
    let E = HasEdge g.edges in (
      λ h. (let m = (f v lt).met ((b v lt).0 h) in
          let r = reach_of P E g.start m.0 v (past_map g (IsIn start) (λ a. a ≡ g.start) (λ a. (s a).0) m.0 v m.1) in
          (r.0, r.1, tt)),
      λ h. (b v lt).1 (omega (arith, (f v lt).least (boundaries h.0) (past_map g (λ a. a ≡ g.start) (IsIn start) (λ a. (s a).1) (boundaries h.0) v (past_of P E g.start h.1.0 v h.0 h.1.1)))),
    )

pub written_are : (g : FlowGraph) (reached wanted sources bits : List Bool) (near : List ℕ) → length sources ≡ length g.points → AreReached g reached → AreSources g reached wanted sources →
    AreLeast g (IsIn sources) near → length bits ≡ length g.points → AreFirsts g near bits → AreWritten g wanted bits
written_are g reached wanted sources bits near n r s l m f v lt =
    let b = sources_are g (IsReached g) reached wanted sources n r s in
    let x = bits_first g (IsIn sources) near bits l (λ a h. ap crosses ((b a).0 h).1) m f v in (
      λ h. (let y = x.0 h in (y.0, past_map g (IsIn sources) (IsWrite g wanted) (λ a. (b a).0) 1 v y.1)),
      λ h. x.1 (h.0, past_map g (IsWrite g wanted) (IsIn sources) (λ a. (b a).1) 1 v h.1),
    )
