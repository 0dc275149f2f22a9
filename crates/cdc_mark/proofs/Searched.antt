-- Distances that no edge lowers are the least ones.
use Rattle.std.proofs.Common.{◌≡◌, ◌≢◌, ℕ, zero, suc, ◌+◌, ◌≤◌, ◌<◌, Bool, true, false, List, [], ◌∷◌, length, get_or, take, drop, ◌++◌, append-nil, min, refl, sym, ap, ◌∙◌, subst, inl, inr, ◌⊎◌, slice_index, slice_set, slice_index_or, map, IsTrue, arith}
use Rattle.std.specs.List.{All}
use Rattle.std.proofs.lemmas.List.{length-set, get_or-set_same, get_or-set_other, get_or_default, take_all, length-map, get_or-map, drop_all}
use Rattle.std.proofs.lemmas.List.Elements.{All-more, All-head, All-tail, All-same}
use Rattle.std.proofs.lemmas.Bool.{cases_lt}
use Rattle.std.proofs.lemmas.Bool.Decides.{nat_tests}
use Rattle.cdc_path.specs.declared.point.Point.{Point}
use Rattle.cdc_path.specs.declared.point.Point.TheVariants.{Plain}
use Rattle.cdc_flow.specs.declared.graph.Edge.{Edge}
use Rattle.cdc_flow.specs.declared.graph.FlowGraph.{FlowGraph}
use Rattle.cdc_path.specs.PathExpr.{crosses}
use Rattle.cdc_flow.specs.Flow.{HasEdge, point_at}
use Rattle.cdc_mark.specs.Least.{Begin, On, PastIn, IsGraph, over, starts, IsIn, Fair, Relaxed, AreLeast}

pub has_at : (es : List Edge) (i : ℕ) (d : Edge) → i < length es → HasEdge es (get_or es i d).from (get_or es i d).to
has_at [] i d lt = absurd (omega arith)
has_at (e ∷ es) zero d lt = inl (refl, refl)
has_at (e ∷ es) (suc i) d lt = inr (has_at es i d (omega arith))

all_edges : (P : Edge → Type 0) (es : List Edge) (a v : ℕ) → All P es → HasEdge es a v → (e : Edge) × P e × (e.from ≡ a) × (e.to ≡ v)
all_edges P [] a v h w = absurd w
all_edges P (e ∷ es) a v h w = elim w [ inl q ↦ (e, All-head P e es h, q.0, q.1) | inr q ↦ all_edges P es a v (All-tail P e es h) q ]

over_near : (d c : ℕ) → d ≤ 255 → over d c ≡ min (d + c) 255
over_near d c h = grind (arith, nat_tests)

over_far : (d c : ℕ) → 255 < d → over d c ≡ 256
over_far d c h = grind (arith, nat_tests)

same_or_not : (w v : ℕ) → (w ≡ v) ⊎ (w ≢ v)
same_or_not w v = elim (cases_lt w v) [
  | inl h ↦ inr (λ e. omega arith)
  | inr h ↦ elim (cases_lt v w) [ inl i ↦ inr (λ e. omega arith) | inr i ↦ inl (omega arith) ]
]

-- a way with the edge into v after it
one_more : (g : FlowGraph) (S : ℕ → Type 0) (a v d0 : ℕ) → HasEdge g.edges a v → (d0 ≤ 255 → (k : ℕ) × PastIn g S k a × (min k 255 ≡ d0)) →
    let d = over d0 (crosses (point_at g.points v)) in d ≤ 255 → (k : ℕ) × PastIn g S k v × (min k 255 ≡ d)
one_more g S a v d0 e m = elim (cases_lt 255 d0) [
  | inl far ↦ (λ le. absurd (omega (arith, over_far d0 (crosses (point_at g.points v)) far)))
  | inr near ↦ (λ le. (let r = m near in (r.0 + crosses (point_at g.points v), On r.0 a v _ r.1 e refl, omega (arith, r.2, over_near d0 (crosses (point_at g.points v)) near))))
]

pub lowered_fair : (g : FlowGraph) (S : ℕ → Type 0) (dist : List ℕ) (a v d : ℕ) → HasEdge g.edges a v → a < length dist → v < length dist →
    d ≡ over (slice_index dist a) (crosses (point_at g.points v)) → d < slice_index dist v → Fair g S dist → Fair g S (slice_set dist v d)
lowered_fair g S dist a v d e la lv q less f = record {
  count = length-set dist v d ∙ f.count;
  within = λ w lt. elim (same_or_not w v) [ inl s ↦ rw (at w s) (omega (arith, f.within v lv)) | inr s ↦ rw (other w s) (f.within w (omega (arith, length-set dist v d))) ];
  met = λ w lt. elim (same_or_not w v) [
    | inl s ↦ rw (at w s, s, q) (one_more g S a v (slice_index dist a) e (f.met a la))
    | inr s ↦ rw (other w s) (f.met w (omega (arith, length-set dist v d)))
  ];
  sources = λ w lt src. elim (same_or_not w v) [
    | inl s ↦ absurd (omega (arith, f.sources v lv (subst S s src)))
    | inr s ↦ rw (other w s) (f.sources w (omega (arith, length-set dist v d)) src)
  ];
}
  where
    at : (w : ℕ) → w ≡ v → slice_index (slice_set dist v d) w ≡ d
    at w s = rw s (get_or-set_same dist v d 0 lv)

    other : (w : ℕ) → w ≢ v → slice_index (slice_set dist v d) w ≡ slice_index dist w
    other w s = get_or-set_other dist v w d 0 s

-- the source of a way through a relaxed graph has distance 0, and each edge keeps the distance below what the way passes
least : (g : FlowGraph) (S : ℕ → Type 0) (dist : List ℕ) → IsGraph g → Fair g S dist → All (Relaxed g dist) g.edges → (k v : ℕ) → PastIn g S k v → v < length dist → slice_index dist v ≤ min k 255
least g S dist ok f r k v (Begin w j src e) lt = omega (arith, f.sources v lt src)
least g S dist ok f r k v (On i a w j p e q) lt =
    let x = all_edges (Relaxed g dist) g.edges a v r e in
    let y = all_edges (λ e. (e.from < length g.points) × (e.to < length g.points)) g.edges a v ok e in
    let c = crosses (point_at g.points v) in
    let la : a < length dist = omega (arith, f.count, y.1, y.2) in
    let h = least g S dist ok f r i a p la in
    let m : slice_index dist v ≤ over (slice_index dist a) c = rw (x.2, x.3) at x.1 in
    omega (arith, m, h, over_near (slice_index dist a) c (omega arith), q)

pub are_least : (g : FlowGraph) (S : ℕ → Type 0) (dist : List ℕ) → IsGraph g → Fair g S dist → All (Relaxed g dist) g.edges → AreLeast g S dist
are_least g S dist ok f r v lt = record { within = f.within v (omega (arith, f.count)); least = λ k p. least g S dist ok f r k v p (omega (arith, f.count)); met = f.met v (omega (arith, f.count)) }

pub lowers_edge : (g : FlowGraph) (S : ℕ → Type 0) (dist : List ℕ) (es : List Edge) (ps : List Point) (at d : ℕ) (b : Edge) (q : Point) → es ≡ g.edges → ps ≡ g.points → IsGraph g → length dist ≡ length g.points → at < length g.edges →
    d ≡ over (slice_index dist (get_or es at b).from) (crosses (get_or ps (get_or es at b).to q)) → d < slice_index dist (get_or es at b).to → Fair g S dist → Fair g S (slice_set dist (get_or es at b).to d)
lowers_edge g S dist es ps at d b q se sp ok n lt = rw (se, sp) (λ o less f.
    let e = get_or g.edges at b in
    let has : HasEdge g.edges e.from e.to = has_at g.edges at b lt in
    let y = all_edges (λ e. (e.from < length g.points) × (e.to < length g.points)) g.edges e.from e.to ok has in
    lowered_fair g S dist e.from e.to d has (omega (arith, y.1, y.2)) (omega (arith, y.1, y.3)) (o ∙ ap (λ p. over (slice_index dist e.from) (crosses p)) (get_or_default g.points e.to q Plain (omega (arith, y.1, y.3)))) less f)

pub not_more : (b : Bool) (m n : ℕ) → (b ≡ true → m < n) → (b ≡ false → m ≡ n) → m ≤ n
not_more true m n h i = omega (arith, h refl)
not_more false m n h i = omega (arith, i refl)

pub relaxed_more : (g : FlowGraph) (old new : List ℕ) (es : List Edge) (i : ℕ) → new ≡ old → i < length es → All (Relaxed g old) (take i es) → ((d : Edge) → Relaxed g old (slice_index_or es i d)) → All (Relaxed g new) (take (i + 1) es)
relaxed_more g old new es i e lt h r = rw e (λ k d. All-more (Relaxed g old) es i d lt h (r d) k d)

pub relaxed_all : (g : FlowGraph) (dist : List ℕ) (es : List Edge) (i : ℕ) → length es ≤ i → All (Relaxed g dist) (take i es) → All (Relaxed g dist) es
relaxed_all g dist es i le h = All-same (Relaxed g dist) es (take i es) (sym (take_all i es le)) h

-- the distances at the start are fair
pub starts_fair : (g : FlowGraph) (sources : List Bool) (dist : List ℕ) → dist ≡ map starts sources → length sources ≡ length g.points → Fair g (IsIn sources) dist
starts_fair g sources dist e n = rw e (record {
  count = length-map sources starts ∙ n;
  within = λ v lt. rw (at v lt) (near (slice_index_or sources v false));
  met = λ v lt. rw (at v lt) (λ le. (0, Begin v 0 (yes (slice_index_or sources v false) le) refl, zeroed (slice_index_or sources v false) le));
  sources = λ v lt src. rw (at v lt) (none (slice_index_or sources v false) src);
})
  where
    at : (v : ℕ) → v < length (map starts sources) → slice_index (map starts sources) v ≡ starts (slice_index_or sources v false)
    at v lt = get_or-map starts sources v false 0 (omega (arith, length-map sources starts))

    near : (b : Bool) → starts b ≤ 256
    near true = omega arith
    near false = omega arith

    yes : (b : Bool) → starts b ≤ 255 → IsTrue b
    yes true le = refl
    yes false le = absurd (omega arith)

    zeroed : (b : Bool) → starts b ≤ 255 → min 0 255 ≡ starts b
    zeroed true le = refl
    zeroed false le = absurd (omega arith)

    none : (b : Bool) → IsTrue b → starts b ≡ 0
    none true t = refl
    none false t = cc

-- a list that a slice of it was written over, as a whole
pub whole : (new old : List ℕ) (n : ℕ) → length new ≡ length old → length old ≡ n → take n (new ++ drop (length new) old) ≡ new
whole new old n e f = rw (drop_all (length new) old (omega arith), append-nil) (take_all n new (omega arith))
