-- A write counts for a read exactly where a way leads from a source to a point of the read.
use Rattle.std.proofs.Common.{◌≡◌, ◌≢◌, ◌⊎◌, ℕ, zero, suc, ◌+◌, ◌≤◌, Bool, List, [], ◌∷◌, ◌++◌, refl, sym, ap, ◌∙◌, subst, inl, inr, append_assoc, arith}
use Rattle.cdc_path.specs.declared.point.Point.{Point}
use Rattle.cdc_path.specs.declared.point.Point.TheVariants.{Read, Write, Entry, Exit, Call, Plain}
use Rattle.cdc_path.specs.PathExpr.{Visit, PathExpr, crosses, boundaries}
use Rattle.cdc_flow.specs.declared.graph.FlowGraph.{FlowGraph}
use Rattle.cdc_flow.specs.Flow.{HasEdge, point_at, pass, Reach, Reaches, Begins, Done, More, IsFlow}
use Rattle.cdc_flow.proofs.Flows.{step}
use Rattle.cdc_mark.specs.Least.{Past, Begin, On, PastIn, IsIn}
use Rattle.cdc_mark.specs.Marked.{IsSource}
use Rattle.cdc_mark.specs.Ways.{here, CountsFor}
use Rattle.cdc_mark.proofs.Firsts.{past_map}

pub put_before : (Q : List Visit → Type 0) (t : List Visit) → Begins Q t → (z : List Visit) × Q (z ++ t)
put_before Q t (Done u q) = ([], q)
put_before Q t (More p u b) = (let r = put_before Q (p ∷ t) b in (r.0 ++ p ∷ [], subst Q (sym (append_assoc r.0 (p ∷ []) t)) r.1))

abbrev newest : List Visit → Point
newest [] = Plain
newest (v ∷ t) = v.point

-- a plain point is left out, every other one is put before
pub record Left (q : Point) : Type 0 where
  pub same : (m : List Visit) → pass q m ≡ m
  pub none : crosses q ≡ 0

pub kind : (q : Point) → Left q ⊎ ((m : List Visit) → pass q m ≡ here q ∷ m)
kind Plain = inl (record { same = λ m. refl; none = refl })
kind (Read k) = inr (λ m. refl)
kind (Write k) = inr (λ m. refl)
kind (Entry k) = inr (λ m. refl)
kind (Exit k) = inr (λ m. refl)
kind (Call k) = inr (λ m. refl)

module _ (P : ℕ → Point) (E : ℕ → ℕ → Type 0) (start : ℕ) where
  -- where a point was passed there is a vertex of it, and a way from there on
  abbrev pub At : Point → List Visit → ℕ → Type 0
  At p x a = (P a ≡ p) × Reaches P E start a (here p ∷ x)

  passed : (p : Point) (x : List Visit) (k v a : ℕ) (u m z : List Visit) → Reach P E start (suc k) v u → E a v → ((z : List Visit) → m ≡ z ++ (here p ∷ x) → Past P E (At p x) (boundaries z) a) →
      here (P v) ∷ m ≡ z ++ (here p ∷ x) → u ≡ z ++ (here p ∷ x) → Past P E (At p x) (boundaries z) v
  passed p x k v a u m [] r e f q i = Begin v 0 (ap newest q, (suc k, subst (Reach P E start (suc k) v) i r)) refl
  passed p x k v a u m (y ∷ z) r e f q i =
      let c : here (P v) ≡ y = cc in
      On (boundaries z) a v (crosses y.point + boundaries z) (f z cc) e (omega (arith, ap (λ (x : Visit). crosses x.point) c))

  pub cut : (p : Point) (x : List Visit) (k v : ℕ) (u z : List Visit) → Reach P E start k v u → u ≡ z ++ (here p ∷ x) → Past P E (At p x) (boundaries z) v
  cut p x zero v u [] r e = (let q : [] ≡ here p ∷ x = sym r.1 ∙ e in cc)
  cut p x zero v u (y ∷ z) r e = (let q : [] ≡ y ∷ (z ++ (here p ∷ x)) = sym r.1 ∙ e in cc)
  cut p x (suc k) v u z r e = elim (kind (P v)) [
    | inl l ↦ On (boundaries z) r.0 v (boundaries z) (cut p x k r.0 r.1 z r.2 (sym (l.same r.1) ∙ (sym r.4 ∙ e))) r.3 (omega (arith, l.none))
    | inr f ↦ passed p x k v r.0 u r.1 z r r.3 (λ z' q. cut p x k r.0 r.1 z' r.2 q) (sym (f r.1) ∙ (sym r.4 ∙ e)) e
  ]

  pub begun : (S : ℕ → Type 0) (k v : ℕ) → Past P E S k v → (a : ℕ) × S a
  begun S k v (Begin w j s e) = (v, s)
  begun S k v (On i a w j p e q) = begun S i a p

  more : (q : Point) (m : List Visit) → boundaries (pass q m) ≡ boundaries m + crosses q
  more Plain m = omega arith
  more (Read k) m = omega arith
  more (Write k) m = omega arith
  more (Entry k) m = omega arith
  more (Exit k) m = omega arith
  more (Call k) m = omega arith

  -- the number of boundaries on the way from the start
  pub past_of : (k v : ℕ) (t : List Visit) → Reach P E start k v t → Past P E (λ a. a ≡ start) (boundaries t) v
  past_of zero v t r = Begin v (boundaries t) r.0 (ap boundaries r.1)
  past_of (suc k) v t r = On (boundaries r.1) r.0 v (boundaries t) (past_of k r.0 r.1 r.2) r.3 (ap boundaries r.4 ∙ more (P v) r.1)

  pub reach_of : (k v : ℕ) → Past P E (λ a. a ≡ start) k v → (t : List Visit) × Reaches P E start v t × (boundaries t ≡ k)
  reach_of k v (Begin w j s e) = ([], (0, (s, refl)), sym e)
  reach_of k v (On i a w j p e q) =
      let r = reach_of i a p in
      (pass (P v) r.0, (suc r.1.0, (a, r.0, r.1.1, e, refl)), more (P v) r.0 ∙ (omega (arith, r.2)))

  -- what reaches a source, and goes on over k boundaries
  pub record Followed (Good : ℕ → Type 0) (Fine : List Visit → Type 0) (k v : ℕ) : Type 0 where
    pub w : ℕ
    pub good : Good w
    pub before : List Visit
    pub between : List Visit
    pub reaches : Reaches P E start v (between ++ (here (Write w) ∷ before))
    pub later : Fine (here (Write w) ∷ before)
    pub count : boundaries between ≡ k

  abbrev pub Sourced : (Good : ℕ → Type 0) → (Fine : List Visit → Type 0) → ℕ → Type 0
  Sourced Good Fine v = (w : ℕ) × (P v ≡ Write w) × Good w × ((t : List Visit) × Reaches P E start v t × Fine t)

  at_write : (w k v : ℕ) (t : List Visit) → P start ≡ Plain → P v ≡ Write w → Reach P E start k v t → (m : List Visit) × (t ≡ here (Write w) ∷ m)
  at_write w zero v t plain q r = (let x : Plain ≡ Write w = sym plain ∙ (ap P (sym r.0) ∙ q) in cc)
  at_write w (suc k) v t plain q r = (r.1, r.4 ∙ ap (λ p. pass p r.1) q)

  follow : (Good : ℕ → Type 0) (Fine : List Visit → Type 0) → P start ≡ Plain → (k v : ℕ) → Past P E (Sourced Good Fine) k v → Followed Good Fine k v
  follow Good Fine plain k v (Begin w j s e) =
      let t = s.3.0 in
      let m = at_write s.0 s.3.1.0 v t plain s.1 s.3.1.1 in
      record { w = s.0; good = s.2; before = m.0; between = []; reaches = (s.3.1.0, subst (Reach P E start s.3.1.0 v) m.1 s.3.1.1); later = subst Fine m.1 s.3.2; count = sym e }
  follow Good Fine plain k v (On i a w j p e q) =
      let f = follow Good Fine plain i a p in
      let u = f.between ++ (here (Write f.w) ∷ f.before) in
      let go : Reaches P E start v (pass (P v) u) = (suc f.reaches.0, (a, u, f.reaches.1, e, refl)) in
      elim (kind (P v)) [
        | inl l ↦ record { w = f.w; good = f.good; before = f.before; between = f.between; reaches = subst (Reaches P E start v) (l.same u) go; later = f.later; count = omega (arith, f.count, l.none) }
        | inr h ↦ record { w = f.w; good = f.good; before = f.before; between = here (P v) ∷ f.between; reaches = subst (Reaches P E start v) (h u) go; later = f.later; count = omega (arith, f.count) }
      ]

  -- the same at a point that is no write, which is passed last
  pub record Met (Good : ℕ → Type 0) (Fine : List Visit → Type 0) (p : Point) (k v : ℕ) : Type 0 where
    pub w : ℕ
    pub good : Good w
    pub before : List Visit
    pub between : List Visit
    pub reaches : Reaches P E start v (here p ∷ (between ++ (here (Write w) ∷ before)))
    pub later : Fine (here (Write w) ∷ before)
    pub count : boundaries between ≡ k

  pub follow_to : (Good : ℕ → Type 0) (Fine : List Visit → Type 0) → P start ≡ Plain → (q : Point) (k v : ℕ) → P v ≡ q → ((w : ℕ) → q ≢ Write w) → ((m : List Visit) → pass q m ≡ here q ∷ m) → Past P E (Sourced Good Fine) k v → (j : ℕ) → k ≡ j + crosses q → Met Good Fine q j v
  follow_to Good Fine plain q k v o other passes (Begin w i s e) j n = absurd (other s.0 (sym o ∙ s.1))
  follow_to Good Fine plain q k v o other passes (On i a w l p e c) j n =
      let f = follow Good Fine plain i a p in
      let u = f.between ++ (here (Write f.w) ∷ f.before) in
      record { w = f.w; good = f.good; before = f.before; between = f.between; reaches = subst (Reaches P E start v) (passes u) (step P E start a v q u o e f.reaches); later = f.later; count = omega (arith, f.count, c, n, ap crosses o) }

-- a write counts over k boundaries where a way leads from a source
pub counts_past : (c : PathExpr) (g : FlowGraph) (wanted : List Bool) (r k : ℕ) → IsFlow c g → CountsFor c wanted r k → (v : ℕ) × (point_at g.points v ≡ Read r) × PastIn g (IsSource g wanted) k v
counts_past c g wanted r k flow h =
    let P = point_at g.points in
    let E = HasEdge g.edges in
    let n = h.2 in
    let w = here (Write h.0) in
    let rest = n.between ++ (w ∷ n.before) in
    let whole = (flow.paths (n.after ++ (here (Read r) ∷ rest))).0 n.on_path in
    let v = begun P E g.start (At P E g.start (Read r) rest) _ _ (cut P E g.start (Read r) rest whole.0 g.end _ n.after whole.1 refl) in
    let way = cut P E g.start (Write h.0) n.before v.1.1.0 v.0 (here (Read r) ∷ rest) (here (Read r) ∷ n.between) v.1.1.1 refl in
    (v.0, v.1.0, past_map g (At P E g.start (Write h.0) n.before) (IsSource g wanted) (λ a x. (h.0, x.0, h.1, (w ∷ n.before, x.1, omega (arith, n.later)))) k v.0 (subst (λ j. PastIn g (At P E g.start (Write h.0) n.before) j v.0) (omega (arith, n.count)) way))

pub past_counts : (c : PathExpr) (g : FlowGraph) (wanted : List Bool) (r k v : ℕ) → IsFlow c g → point_at g.points v ≡ Read r → 1 ≤ k → PastIn g (IsSource g wanted) k v → CountsFor c wanted r k
past_counts c g wanted r k v flow q one p =
    let P = point_at g.points in
    let E = HasEdge g.edges in
    let m = follow_to P E g.start (IsIn wanted) (λ t. 1 ≤ boundaries t) flow.begins.1 (Read r) k v q (λ w e. cc) (λ m. refl) p k (omega arith) in
    let t = here (Read r) ∷ (m.between ++ (here (Write m.w) ∷ m.before)) in
    let z = put_before (Reaches P E g.start g.end) t (flow.onward v t m.reaches) in
    (m.w, m.good, record { before = m.before; between = m.between; after = z.0; on_path = (flow.paths (z.0 ++ t)).1 z.1; later = omega (arith, m.later); count = m.count; apart = one })
