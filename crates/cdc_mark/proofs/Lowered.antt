-- Least numbers that are lowered class by class.
use Rattle.std.proofs.Common.{◌≡◌, ◌↔◌, ◌⊎◌, ℕ, zero, suc, ◌+◌, ◌≤◌, ◌<◌, Bool, false, List, [], ◌∷◌, length, get_or, refl, sym, ap, ◌∙◌, subst, inl, inr, slice_index, slice_get, replicate, Some, arith}
use Rattle.std.proofs.lemmas.List.{get_or_default, get_or_past, get_or-replicate, length-replicate}
use Rattle.std.proofs.lemmas.Bool.{cases_lt}
use Rattle.std.proofs.lemmas.Option.{slice_get_within, slice_get-get_or}
use Rattle.cdc_path.specs.declared.point.Point.{Point}
use Rattle.cdc_path.specs.declared.point.Point.TheVariants.{Read, Plain}
use Rattle.cdc_path.specs.PathExpr.{PathExpr}
use Rattle.cdc_flow.specs.declared.graph.FlowGraph.{FlowGraph}
use Rattle.cdc_flow.specs.Flow.{point_at, IsFlow}
use Rattle.cdc_prog.specs.Sections.{Overlap}
use Rattle.cdc_mark.specs.declared.references.Reference.{Reference}
use Rattle.cdc_mark.specs.Least.{IsIn, IsLeast, AreFar}
use Rattle.cdc_mark.specs.Marked.{IsSource}
use Rattle.cdc_mark.specs.Seen.{SameObject, Meets}
use Rattle.cdc_mark.specs.Ways.{CountsFor}
use Rattle.cdc_mark.specs.Classes.{Some_of, IsWriteFor, AreAlike, IsReadAt, IsReadOf, IsNoted, IsLowered, DistanceOf, CountsFrom, CountsDone, CountsNext, CountsAny, IsOfClass, IsPassed, AreLeastDone, AreLeastNext}
use Rattle.cdc_mark.proofs.Firsts.{least_same}
use Rattle.cdc_mark.proofs.Glue.{counts_past, past_counts}

-- ---- one point after another
pub lowered_more : (ps : List Point) (dist : List ℕ) (reads : List Bool) (n r first old new : ℕ) (q : Point) → n < length ps → IsNoted reads (get_or ps n q) r (slice_index dist n) old new →
    IsLowered first old (λ d. IsIn reads r × DistanceOf ps dist n r d) → IsLowered first new (λ d. IsIn reads r × DistanceOf ps dist (n + 1) r d)
lowered_more ps dist reads n r first old new q lt h l =
    let same : get_or ps n q ≡ point_at ps n = get_or_default ps n q Plain lt in
    elim h [
      | inl x ↦ record {
        below = omega (arith, l.below, x.2);
        least = λ d e. elim (cases_lt e.1.0 n) [
          | inl below ↦ (let y = l.least d (e.0, (e.1.0, below, e.1.2, e.1.3)) in omega (arith, y, x.2))
          | inr above ↦ (let v : e.1.0 ≡ n = omega (arith, e.1.1) in let y : slice_index dist n ≡ d = subst (λ k. slice_index dist k ≡ d) v e.1.3 in omega (arith, y, x.2))
        ];
        met = elim (cases_lt old (slice_index dist n)) [
          | inl less ↦ elim l.met [ inl y ↦ inl (omega (arith, x.2, y)) | inr y ↦ inr (y.0, (y.1.0, omega (arith, y.1.1), y.1.2, y.1.3 ∙ (omega (arith, x.2)))) ]
          | inr more ↦ inr (x.1, (n, omega arith, sym same ∙ x.0, omega (arith, x.2)))
        ];
      }
      | inr x ↦ record {
        below = omega (arith, l.below, x.1);
        least = λ d e. elim (cases_lt e.1.0 n) [
          | inl below ↦ (let y = l.least d (e.0, (e.1.0, below, e.1.2, e.1.3)) in omega (arith, y, x.1))
          | inr above ↦ (let v : e.1.0 ≡ n = omega (arith, e.1.1) in absurd (x.0 (same ∙ subst (λ k. point_at ps k ≡ Read r) v e.1.2) e.0))
        ];
        met = elim l.met [ inl y ↦ inl (x.1 ∙ y) | inr y ↦ inr (y.0, (y.1.0, omega (arith, y.1.1), y.1.2, y.1.3 ∙ sym x.1)) ];
      }
    ]

pub lowered_none : (ps : List Point) (dist : List ℕ) (reads : List Bool) (r first : ℕ) → IsLowered first first (λ d. IsIn reads r × DistanceOf ps dist 0 r d)
lowered_none ps dist reads r first = record { below = omega arith; least = λ d e. absurd (omega (arith, e.1.1)); met = inl refl }

-- ---- one class after another
counts_for : (c : PathExpr) (rs : List Reference) (p : Reference) (writes : List Bool) (r k : ℕ) → ((w : ℕ) → IsIn writes w ↔ IsWriteFor rs p w) → CountsFor c writes r k ↔ CountsFrom c rs p r k
counts_for c rs p writes r k h = (λ x. (x.0, (h x.0).0 x.1, x.2), λ x. (x.0, (h x.0).1 x.1, x.2))

is_below : (g : FlowGraph) (r v : ℕ) → point_at g.points v ≡ Read r → v < length g.points
is_below g r v e = elim (cases_lt v (length g.points)) [
  | inl lt ↦ lt
  | inr ge ↦ (let x : Plain ≡ Read r = sym (get_or_past g.points v Plain ge) ∙ e in cc)
]

pub next_least : (c : PathExpr) (g : FlowGraph) (rs : List Reference) (done : List Bool) (p : Reference) (writes reads : List Bool) (dist : List ℕ) (r old new : ℕ) → IsFlow c g →
    ((w : ℕ) → IsIn writes w ↔ IsWriteFor rs p w) → ((s : ℕ) → IsIn reads s ↔ IsReadOf rs p s) → AreFar g (IsSource g writes) dist → IsLeast (CountsDone c rs done r) old →
    IsLowered old new (λ d. IsIn reads r × DistanceOf g.points dist (length g.points) r d) → IsLeast (CountsNext c rs done p r) new
next_least c g rs done p writes reads dist r old new flow hw hr far l w = record {
  within = omega (arith, l.within, w.below);
  least = λ j x. elim x [
    | inl y ↦ (let a = l.least j y in omega (arith, a, w.below))
    | inr y ↦
        (let v = counts_past c g writes r (j + 1) flow ((counts_for c rs p writes r (j + 1) hw).1 y.1) in
        let lt = is_below g r v.0 v.1 in
        let a = (far v.0 lt).least j v.2 in
        let b = w.least (slice_index dist v.0) ((hr r).1 y.0, (v.0, lt, v.1, refl)) in
        omega (arith, a, b))
  ];
  met = λ le. elim w.met [
    | inl e ↦ (let m = l.met (omega (arith, e)) in (m.0, inl m.1, m.2 ∙ sym e))
    | inr y ↦
        (let v = y.1 in
        let m = (far v.0 v.1).met (omega (arith, v.3)) in
        (m.0, inr ((hr r).0 y.0, (counts_for c rs p writes r (m.0 + 1) hw).0 (past_counts c g writes r (m.0 + 1) v.0 flow v.2 (omega arith) m.1)), m.2 ∙ v.3))
  ];
}

-- where no write meets a read, nothing changes
pub next_same : (c : PathExpr) (rs : List Reference) (done : List Bool) (p : Reference) (writes : List Bool) (r old : ℕ) → ((w : ℕ) → IsIn writes w ↔ IsWriteFor rs p w) → ((w : ℕ) → IsIn writes w → ⊥) →
    IsLeast (CountsDone c rs done r) old → IsLeast (CountsNext c rs done p r) old
next_same c rs done p writes r old hw none l =
    least_same _ _ old (λ j. (λ x. inl x, λ x. elim x [ inl y ↦ y | inr y ↦ absurd (none y.1.0 ((hw y.1.0).1 y.1.1)) ])) l

-- ---- reads of a class have the same writes
meets_alike : (p q x : Reference) → AreAlike p q → Meets p x ↔ Meets q x
meets_alike p q x h =
    (λ m. (subst (λ k. SameObject x.object k) (sym h.0) m.0, subst (λ ts. Overlap x.section ts) (sym h.1) m.1), λ m. (subst (λ k. SameObject x.object k) h.0 m.0, subst (λ ts. Overlap x.section ts) h.1 m.1))

writes_alike : (rs : List Reference) (p q : Reference) (w : ℕ) → AreAlike p q → IsWriteFor rs p w ↔ IsWriteFor rs q w
writes_alike [] p q w h = (λ x. x, λ x. x)
writes_alike (x ∷ rs) p q w h =
    let m = meets_alike p q x h in
    let more = writes_alike rs p q w h in (
      λ s. elim s [ inl a ↦ inl (a.0, m.0 a.1, a.2) | inr a ↦ inr (more.0 a) ],
      λ s. elim s [ inl a ↦ inl (a.0, m.1 a.1, a.2) | inr a ↦ inr (more.1 a) ],
    )

counts_alike : (c : PathExpr) (rs : List Reference) (p q : Reference) (r k : ℕ) → AreAlike p q → CountsFrom c rs p r k ↔ CountsFrom c rs q r k
counts_alike c rs p q r k h = (λ x. (x.0, (writes_alike rs p q x.0 h).0 x.1, x.2), λ x. (x.0, (writes_alike rs p q x.0 h).1 x.1, x.2))

pub some_at : (P : Reference → Type 0) (rs : List Reference) (i : ℕ) (q : Reference) → slice_get rs i ≡ Some q → P q → Some_of P rs
some_at P [] i q e h = cc
some_at P (x ∷ rs) zero q e h = inl (subst P (sym (the_same x q e)) h)
  where
    the_same : (a b : Reference) → Some a ≡ Some b → a ≡ b
    the_same a b e = cc
some_at P (x ∷ rs) (suc i) q e h = inr (some_at P rs i q e h)

pub at_some : (P : Reference → Type 0) (rs : List Reference) → Some_of P rs → (i : ℕ) × (q : Reference) × (slice_get rs i ≡ Some q) × P q
at_some P [] h = absurd h
at_some P (x ∷ rs) (inl h) = (0, x, refl, h)
at_some P (x ∷ rs) (inr h) = (let r = at_some P rs h in (suc r.0, r.1, r.2, r.3))

same_some : (a b : Reference) → Some a ≡ Some b → a ≡ b
same_some a b e = cc

pub done_next : (c : PathExpr) (rs : List Reference) (done new : List Bool) (p : Reference) (r j : ℕ) → ((i : ℕ) → IsIn new i ↔ (IsIn done i ⊎ IsOfClass rs p i)) → CountsNext c rs done p r j ↔ CountsDone c rs new r j
done_next c rs done new p r j h = (
  λ x. elim x [
    | inl y ↦ (y.0, y.1, (h y.0).1 (inl y.2), y.3, y.4, y.5, y.6)
    | inr y ↦
        (let s = at_some (IsReadAt p r) rs y.0 in
        (s.0, s.1, (h s.0).1 (inr (s.1, s.2, s.3.0, s.3.1)), s.2, s.3.0, s.3.2, (counts_alike c rs p s.1 r (j + 1) s.3.1).0 y.1))
  ],
  λ x. elim ((h x.0).0 x.2) [
    | inl y ↦ inl (x.0, x.1, y, x.3, x.4, x.5, x.6)
    | inr y ↦
        (let e = same_some y.0 x.1 (sym y.1 ∙ x.3) in
        let alike = subst (AreAlike p) e y.3 in
        inr (some_at (IsReadAt p r) rs x.0 x.1 x.3 (x.4, alike, x.5), (counts_alike c rs p x.1 r (j + 1) alike).1 x.6))
  ],
)

pub least_next : (c : PathExpr) (rs : List Reference) (done new : List Bool) (p : Reference) (best : List ℕ) → ((i : ℕ) → IsIn new i ↔ (IsIn done i ⊎ IsOfClass rs p i)) → AreLeastNext c rs done p best → AreLeastDone c rs new best
least_next c rs done new p best h l r lt = least_same _ _ (slice_index best r) (λ j. done_next c rs done new p r j h) (l r lt)

-- where all reads are done, nothing is left out
pub all_done : (c : PathExpr) (rs : List Reference) (done : List Bool) (r j : ℕ) → ((i : ℕ) (q : Reference) → slice_get rs i ≡ Some q → q.writes ≡ false → IsIn done i) → CountsDone c rs done r j ↔ CountsAny c rs r j
all_done c rs done r j h = (λ x. (x.0, x.1, x.3, x.4, x.5, x.6), λ x. (x.0, x.1, h x.0 x.1 x.2 x.3, x.2, x.3, x.4, x.5))

-- ---- the reads of a class are done one after another
pub class_more : (New Old First : Type 0) (rs : List Reference) (p q : Reference) (n i : ℕ) → slice_get rs n ≡ Some q → (New ↔ (Old ⊎ ((i ≡ n) × (q.writes ≡ false) × AreAlike p q))) →
    (Old ↔ (First ⊎ ((i < n) × IsOfClass rs p i))) → New ↔ (First ⊎ ((i < n + 1) × IsOfClass rs p i))
class_more New Old First rs p q n i at f h = (
  λ x. elim (f.0 x) [
    | inl o ↦ elim (h.0 o) [ inl a ↦ inl a | inr a ↦ inr (omega (arith, a.0), a.1) ]
    | inr a ↦ inr (omega (arith, a.0), (q, subst (λ k. slice_get rs k ≡ Some q) (sym a.0) at, a.1, a.2))
  ],
  λ x. elim x [
    | inl a ↦ f.1 (inl (h.1 (inl a)))
    | inr a ↦ elim (cases_lt i n) [
      | inl lt ↦ f.1 (inl (h.1 (inr (lt, a.1))))
      | inr ge ↦
          (let e : i ≡ n = omega (arith, a.0) in
          let s = same_some a.1.0 q (sym (subst (λ k. slice_get rs k ≡ Some a.1.0) e a.1.1) ∙ at) in
          f.1 (inr (e, subst (λ (x : Reference). x.writes ≡ false) s a.1.2, subst (AreAlike p) s a.1.3)))
    ]
  ],
)

pub class_all : (New First : Type 0) (rs : List Reference) (p : Reference) (n i : ℕ) → length rs ≤ n → (New ↔ (First ⊎ ((i < n) × IsOfClass rs p i))) → New ↔ (First ⊎ IsOfClass rs p i)
class_all New First rs p n i le h = (
  λ x. elim (h.0 x) [ inl a ↦ inl a | inr a ↦ inr a.1 ],
  λ x. elim x [ inl a ↦ h.1 (inl a) | inr a ↦ h.1 (inr (omega (arith, slice_get_within rs i a.0 a.1), a)) ],
)

pub lowered_all : (ps : List Point) (dist : List ℕ) (reads : List Bool) (r first new n : ℕ) → n ≡ length ps → IsLowered first new (λ d. IsIn reads r × DistanceOf ps dist n r d) → IsLowered first new (λ d. IsIn reads r × DistanceOf ps dist (length ps) r d)
lowered_all ps dist reads r first new n e h = subst (λ (k : ℕ). IsLowered first new (λ d. IsIn reads r × DistanceOf ps dist k r d)) e h

-- the same of lists that are equal
pub next_least_of : (c : PathExpr) (g : FlowGraph) (rs : List Reference) (done : List Bool) (p : Reference) (writes reads wanted chosen : List Bool) (dist far_dist : List ℕ) (ps : List Point) (r old new : ℕ) → wanted ≡ writes → chosen ≡ reads → ps ≡ g.points → far_dist ≡ dist → IsFlow c g →
    ((w : ℕ) → IsIn writes w ↔ IsWriteFor rs p w) → ((s : ℕ) → IsIn reads s ↔ IsReadOf rs p s) → AreFar g (IsSource g wanted) dist → IsLeast (CountsDone c rs done r) old →
    IsLowered old new (λ d. IsIn chosen r × DistanceOf ps far_dist (length ps) r d) → IsLeast (CountsNext c rs done p r) new
next_least_of c g rs done p writes reads wanted chosen dist far_dist ps r old new e1 e2 e3 e4 flow hw hr far l low =
    next_least c g rs done p writes reads dist r old new flow hw hr (subst (λ (xs : List Bool). AreFar g (IsSource g xs) dist) e1 far) l
    (subst (λ (xs : List Bool). IsLowered old new (λ d. IsIn xs r × DistanceOf g.points dist (length g.points) r d)) e2
    (subst (λ (qs : List Point). IsLowered old new (λ d. IsIn chosen r × DistanceOf qs dist (length qs) r d)) e3
    (subst (λ (ds : List ℕ). IsLowered old new (λ d. IsIn chosen r × DistanceOf ps ds (length ps) r d)) e4 low)))

-- one more reference was asked
pub passed_more : (rs : List Reference) (old new : List Bool) (n i : ℕ) (q : Reference) → n < length rs → q ≡ get_or rs n q → (IsIn old i → IsIn new i) → (q.writes ≡ false → IsIn new n) → IsPassed rs old n i → IsPassed rs new (n + 1) i
passed_more rs old new n i q lt is keeps own h x below e reads = elim (cases_lt i n) [
  | inl less ↦ keeps (h x less e reads)
  | inr more ↦
      (let s : i ≡ n = omega (arith, below) in
      let y : q ≡ x = same_some q x (sym (slice_get-get_or rs n q lt ∙ ap Some (sym is)) ∙ subst (λ k. slice_get rs k ≡ Some x) s e) in
      subst (IsIn new) (sym s) (own (subst (λ (z : Reference). z.writes ≡ false) (sym y) reads)))
]

pub own_class : (rs : List Reference) (n : ℕ) (q : Reference) → n < length rs → q ≡ get_or rs n q → q.writes ≡ false → IsOfClass rs q n
own_class rs n q lt is reads = (q, slice_get-get_or rs n q lt ∙ ap Some (sym is), reads, (refl, refl))

-- at the start no read is done
pub no_bit : (m i : ℕ) → IsIn (replicate m false) i → ⊥
no_bit zero i h = cc
no_bit (suc m) zero h = cc
no_bit (suc m) (suc i) h = no_bit m i h

far_at : (n far r : ℕ) → r < length (replicate n far) → slice_index (replicate n far) r ≡ far
far_at n far r lt = get_or-replicate n r far 0 (omega (arith, length-replicate n far, lt))

pub none_done : (c : PathExpr) (rs : List Reference) (done : List Bool) (best : List ℕ) (m n : ℕ) → done ≡ replicate m false → best ≡ replicate n 256 → AreLeastDone c rs done best
none_done c rs done best m n d b = rw (d, b) (λ r lt. record {
  within = omega (arith, far_at n 256 r lt);
  least = λ j x. absurd (no_bit m x.0 x.2);
  met = λ le. absurd (omega (arith, far_at n 256 r lt, le));
})
