-- The ways with a boundary are those from a first boundary on.
use Rattle.std.proofs.Common.{◌≡◌, ◌↔◌, ℕ, zero, suc, ◌+◌, ◌≤◌, ◌<◌, Bool, false, List, length, refl, sym, ap, subst, inl, inr, slice_index, IsTrue, arith}
use Rattle.std.proofs.lemmas.List.{get_or_past}
use Rattle.std.proofs.lemmas.Bool.{cases_lt}
use Rattle.cdc_path.specs.declared.point.Point.{Point}
use Rattle.cdc_path.specs.declared.point.Point.TheVariants.{Read, Write, Entry, Exit, Call, Plain}
use Rattle.cdc_flow.specs.declared.graph.FlowGraph.{FlowGraph}
use Rattle.cdc_path.specs.PathExpr.{crosses}
use Rattle.cdc_flow.specs.Flow.{point_at}
use Rattle.cdc_mark.specs.Least.{Begin, On, PastIn, IsLeast, IsIn, AreLeast, First, AreFirsts, AreFar, ArePlain}

pub crosses_one : (p : Point) → crosses p ≤ 1
crosses_one (Read k) = omega arith
crosses_one (Write k) = omega arith
crosses_one (Entry k) = omega arith
crosses_one (Exit k) = omega arith
crosses_one (Call k) = omega arith
crosses_one Plain = omega arith

pub least_same : (Q R : ℕ → Type 0) (d : ℕ) → ((k : ℕ) → Q k ↔ R k) → IsLeast Q d → IsLeast R d
least_same Q R d f h = record { within = h.within; least = λ k r. h.least k ((f k).1 r); met = λ le. (let m = h.met le in (m.0, (f m.0).0 m.1, m.2)) }

module _ (g : FlowGraph) where
  pub past_map : (S T : ℕ → Type 0) → ((v : ℕ) → S v → T v) → (k v : ℕ) → PastIn g S k v → PastIn g T k v
  past_map S T f k v (Begin w j s e) = Begin v k (f v s) e
  past_map S T f k v (On i a w j p e q) = On i a v k (past_map S T f i a p) e q

  from_first : (S : ℕ → Type 0) (j v : ℕ) → PastIn g (First g S) j v → PastIn g S (j + 1) v
  from_first S j v (Begin w i s e) = subst (λ k. PastIn g S k v) (omega arith) s.1
  from_first S j v (On k a w i p e q) = On (k + 1) a v (j + 1) (from_first S k a p) e (omega arith)

  to_first : (S : ℕ → Type 0) (i v : ℕ) → PastIn g S i v → (j : ℕ) → i ≡ j + 1 → PastIn g (First g S) j v
  to_first S i v (Begin w k s e) j q = absurd (omega arith)
  to_first S i v (On zero a w k p e r) j q =
      let c = crosses_one (point_at g.points v) in
      Begin v j (omega arith, On zero a v 1 p e (omega arith)) (omega arith)
  to_first S i v (On (suc k) a w l p e r) j q = On k a v j (to_first S (suc k) a p k (omega arith)) e (omega arith)

  -- the bits tell the first boundaries
  pub bits_first : (S : ℕ → Type 0) (dist : List ℕ) (bits : List Bool) → AreLeast g S dist → ArePlain g S → length bits ≡ length g.points → AreFirsts g dist bits → (v : ℕ) → IsIn bits v ↔ First g S v
  bits_first S dist bits l plain n f v = elim (cases_lt v (length g.points)) [
    | inl lt ↦ (
      λ b. (let x = (f v lt).0 b in let m = (l v lt).met (omega (arith, x.1)) in (x.0, subst (λ k. PastIn g S k v) (omega (arith, m.2, x.1)) m.1)),
      λ h. (f v lt).1 (h.0, one lt h),
    )
    | inr ge ↦ (λ b. (let x : IsTrue false = subst IsTrue (get_or_past bits v false (omega arith)) b in cc), λ h. absurd (omega (arith, h.0, ap crosses (get_or_past g.points v Plain ge))))
  ]
    where
      start : (k : ℕ) → PastIn g S k v → crosses (point_at g.points v) ≡ 1 → 1 ≤ k
      start k (Begin w j s e) c = absurd (omega (arith, plain v s))
      start k (On i a w j p e q) c = omega arith

      one : v < length g.points → First g S v → slice_index dist v ≡ 1
      one lt h = elim (cases_lt (slice_index dist v) 1) [
        | inl z ↦ (let m = (l v lt).met (omega arith) in absurd (omega (arith, m.2, start m.0 m.1 h.0)))
        | inr z ↦ omega (arith, (l v lt).least 1 h.1)
      ]

  pub are_far : (S : ℕ → Type 0) (near : List ℕ) (bits : List Bool) (dist : List ℕ) → AreLeast g S near → ArePlain g S → length bits ≡ length g.points → AreFirsts g near bits → AreLeast g (IsIn bits) dist → AreFar g S dist
  are_far S near bits dist l plain n f h v lt =
      let b = bits_first S near bits l plain n f in
      least_same _ _ (slice_index dist v) (λ j.
      (λ p. from_first S j v (past_map (IsIn bits) (First g S) (λ w. (b w).0) j v p), λ p. past_map (First g S) (IsIn bits) (λ w. (b w).1) j v (to_first S (j + 1) v p j refl))) (h v lt)

-- ---- one source at a time
module _ (g : FlowGraph) where
  from_one : (S : ℕ → Type 0) (k v : ℕ) → PastIn g S k v → (a : ℕ) × S a × PastIn g (λ x. x ≡ a) k v
  from_one S k v (Begin w j s e) = (v, s, Begin v k refl e)
  from_one S k v (On i a w j p e q) = (let x = from_one S i a p in (x.0, x.1, On i a v k x.2 e q))

  to_all : (S : ℕ → Type 0) (k v a : ℕ) → S a → PastIn g (λ x. x ≡ a) k v → PastIn g S k v
  to_all S k v a s p = past_map g (λ x. x ≡ a) S (λ x e. subst S (sym e) s) k v p

  -- a way with a boundary is a way to a first boundary from one source, and a way on from there
  pub by_boundary : (S : ℕ → Type 0) (j v : ℕ) → PastIn g S (j + 1) v ↔ ((b : ℕ) × ((a : ℕ) × S a × First g (λ x. x ≡ a) b) × PastIn g (λ x. x ≡ b) j v)
  by_boundary S j v = (
    λ p. (let x = from_one (First g S) j v (to_first g S (j + 1) v p j refl) in
        let y = from_one S 1 x.0 x.1.1 in
        (x.0, (y.0, y.1, (x.1.0, y.2)), x.2)),
    λ h. from_first g S j v (to_all (First g S) j v h.0 (h.1.2.0, to_all S 1 h.0 h.1.0 h.1.1 h.1.2.1) h.2),
  )
