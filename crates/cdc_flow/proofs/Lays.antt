-- The lists that are built have each point of a path expression, entered as the expression says.
use Rattle.std.proofs.Common.{◌≡◌, ◌↔◌, ◌⊎◌, ℕ, ◌+◌, ◌≤◌, ◌<◌, List, [], ◌∷◌, ◌++◌, refl, sym, ◌∙◌, inl, inr, length, arith}
use Rattle.std.proofs.lemmas.List.{length-append, get_or_append_left, get_or_push}
use Rattle.cdc_path.specs.declared.point.Point.{Point}
use Rattle.cdc_path.specs.declared.point.Point.TheVariants.{Plain}
use Rattle.cdc_path.specs.PathExpr.{Visit, PathExpr, Nothing, One, Then, Either, Repeat, Passes}
use Rattle.cdc_flow.specs.declared.graph.Edge.{Edge}
use Rattle.cdc_flow.specs.Built.{edge}
use Rattle.cdc_flow.specs.Flow.{HasEdge, point_at, Reaches}
use Rattle.cdc_flow.proofs.Sizes.{size, last, points_onto, edges_onto, count_onto}
use Rattle.cdc_flow.proofs.Flows.{Passed, Laid, same_paths}

-- the edges that an expression adds, in order
abbrev pub Adds : PathExpr → (from n : ℕ) → (x y : ℕ) → Type 0
Adds Nothing from n x y = ⊥
Adds (One v) from n x y = (x ≡ from) × (y ≡ n)
Adds (Then a b) from n x y = Adds a from n x y ⊎ Adds b (last a from n) (n + size a) x y
Adds (Either a b) from n x y =
    let j = n + size a + size b in
    Adds a from n x y ⊎ (Adds b from (n + size a) x y ⊎ (((x ≡ last b from (n + size a)) × (y ≡ j)) ⊎ ((x ≡ last a from n) × (y ≡ j))))
Adds (Repeat a) from n x y = ((x ≡ from) × (y ≡ n)) ⊎ (Adds a n (n + 1) x y ⊎ ((x ≡ last a n (n + 1)) × (y ≡ n)))

pub record Within (n s y : ℕ) : Type 0 where
  pub low : n ≤ y
  pub high : y < n + s

targets : (c : PathExpr) (from n x y : ℕ) → Adds c from n x y → Within n (size c) y
targets Nothing from n x y h = absurd h
targets (One v) from n x y h = record { low = omega arith; high = omega arith }
targets (Then a b) from n x y h = elim h [
  | inl p ↦ (let w = targets a from n x y p in record { low = omega arith; high = omega arith })
  | inr p ↦ (let w = targets b (last a from n) (n + size a) x y p in record { low = omega arith; high = omega arith })
]
targets (Either a b) from n x y h = elim h [
  | inl p ↦ (let w = targets a from n x y p in record { low = omega arith; high = omega arith })
  | inr (inl p) ↦ (let w = targets b from (n + size a) x y p in record { low = omega arith; high = omega arith })
  | inr (inr p) ↦ record { low = omega arith; high = omega arith }
]
targets (Repeat a) from n x y h = elim h [
  | inl p ↦ record { low = omega arith; high = omega arith }
  | inr (inl p) ↦ (let w = targets a n (n + 1) x y p in record { low = omega arith; high = omega arith })
  | inr (inr p) ↦ record { low = omega arith; high = omega arith }
]

-- a list that was built has what was there and what an expression adds
with_edge : (es : List Edge) (a b x y : ℕ) → HasEdge (es ++ edge a b ∷ []) x y ↔ (HasEdge es x y ⊎ ((x ≡ a) × (y ≡ b)))
with_edge [] a b x y = (λ p. elim p [ inl q ↦ inr (sym q.0, sym q.1) | inr q ↦ absurd q ], λ p. elim p [ inl q ↦ absurd q | inr q ↦ inl (sym q.0, sym q.1) ])
with_edge (e ∷ es) a b x y =
    let f = with_edge es a b x y in (
      λ p. elim p [ inl q ↦ inl (inl q) | inr q ↦ elim (f.0 q) [ inl r ↦ inl (inr r) | inr r ↦ inr r ] ],
      λ p. elim p [ inl (inl q) ↦ inl q | inl (inr q) ↦ inr (f.1 (inl q)) | inr q ↦ inr (f.1 (inr q)) ],
    )

-- two steps of building, one after the other
then : {A B C D F : Type 0} → (A ↔ (B ⊎ C)) → (B ↔ (D ⊎ F)) → A ↔ (D ⊎ (F ⊎ C))
then f g = (
  λ p. elim (f.0 p) [ inl q ↦ elim (g.0 q) [ inl r ↦ inl r | inr r ↦ inr (inl r) ] | inr q ↦ inr (inr q) ],
  λ p. elim p [ inl q ↦ f.1 (inl (g.1 (inl q))) | inr (inl q) ↦ f.1 (inl (g.1 (inr q))) | inr (inr q) ↦ f.1 (inr q) ],
)

pub has_edges : (c : PathExpr) (from n : ℕ) (es : List Edge) (x y : ℕ) → HasEdge (edges_onto c from n es) x y ↔ (HasEdge es x y ⊎ Adds c from n x y)
has_edges Nothing from n es x y = (λ p. inl p, λ p. elim p [ inl q ↦ q | inr q ↦ absurd q ])
has_edges (One v) from n es x y = with_edge es from n x y
has_edges (Then a b) from n es x y = then (has_edges b (last a from n) (n + size a) (edges_onto a from n es) x y) (has_edges a from n es x y)
has_edges (Either a b) from n es x y = then (then (then (with_edge _ _ _ x y) (with_edge _ _ _ x y)) (has_edges b from (n + size a) _ x y)) (has_edges a from n es x y)
has_edges (Repeat a) from n es x y = then (then (with_edge _ _ _ x y) (has_edges a n (n + 1) _ x y)) (with_edge es from n x y)

-- P says what the list does
abbrev pub Says : (P : ℕ → Point) → List Point → Type 0
Says P ps = (i : ℕ) → i < length ps → P i ≡ point_at ps i

module _ (P : ℕ → Point) where
  abbrev pub Stands : PathExpr → (n : ℕ) → Type 0
  Stands Nothing n = Unit {0}
  Stands (One v) n = P n ≡ v.point
  Stands (Then a b) n = Stands a n × Stands b (n + size a)
  Stands (Either a b) n = Stands a n × Stands b (n + size a) × (P (n + size a + size b) ≡ Plain)
  Stands (Repeat a) n = (P n ≡ Plain) × Stands a (n + 1)

  front : (ps : List Point) (p : Point) → Says P (ps ++ p ∷ []) → Says P ps
  front ps p h i lt = h i (omega (arith, length-append ps (p ∷ []))) ∙ get_or_append_left ps (p ∷ []) Plain i lt

  at_end : (ps : List Point) (p : Point) (n : ℕ) → length ps ≡ n → Says P (ps ++ p ∷ []) → P n ≡ p
  at_end ps p n e h = h n (omega (arith, length-append ps (p ∷ []))) ∙ get_or_push ps p Plain n e

  pub stands : (c : PathExpr) (ps : List Point) (n : ℕ) → length ps ≡ n → Says P (points_onto c ps) → Says P ps × Stands c n
  stands Nothing ps n e h = (h, tt)
  stands (One v) ps n e h = (front ps _ h, at_end ps _ n e h)
  stands (Then a b) ps n e h =
      let y = stands b (points_onto a ps) (n + size a) (count_onto a ps n e) h in
      let x = stands a ps n e y.0 in
      (x.0, (x.1, y.1))
  stands (Either a b) ps n e h =
      let y = stands b (points_onto a ps) (n + size a) (count_onto a ps n e) (front _ Plain h) in
      let x = stands a ps n e y.0 in
      (x.0, (x.1, y.1, at_end _ Plain _ (count_onto b (points_onto a ps) (n + size a) (count_onto a ps n e)) h))
  stands (Repeat a) ps n e h =
      let y = stands a (ps ++ Plain ∷ []) (n + 1) (omega (arith, length-append ps (Plain ∷ []))) h in
      (front ps Plain y.0, (at_end ps Plain n e y.0, y.1))

module _ (P : ℕ → Point) (E : ℕ → ℕ → Type 0) (start : ℕ) where
  -- the edges into the points of an expression are those that it adds
  abbrev pub Exact : PathExpr → (from n : ℕ) → Type 0
  Exact c from n = (x y : ℕ) → n ≤ y → y < n + size c → E x y ↔ Adds c from n x y

  pub lays : (c : PathExpr) (from n : ℕ) → Exact c from n → Stands P c n → Laid P E start c from n
  lays Nothing from n e p = tt
  lays (One v) from n e p = (p, λ x. (let f = e x n (omega arith) (omega arith) in (λ q. (f.0 q).0, λ q. f.1 (q, refl))))
  lays (Then a b) from n e p = (
    lays a from n (λ x y l h. (let t = targets b (last a from n) (n + size a) x y in let f = e x y l (omega arith) in (λ r. (let q = f.0 r in grind (arith, q, t)), λ q. f.1 (inl q)))) p.0,
    lays b (last a from n) (n + size a) (λ x y l h. (let t = targets a from n x y in let f = e x y (omega arith) (omega arith) in (λ r. (let q = f.0 r in grind (arith, q, t)), λ q. f.1 (inr q)))) p.1,
  )
  lays (Either a b) from n e p = (
    lays a from n (λ x y l h. (let t = targets b from (n + size a) x y in let f = e x y l (omega arith) in (λ r. (let q = f.0 r in grind (arith, q, t)), λ q. f.1 (inl q)))) p.0,
    lays b from (n + size a) (λ x y l h. (let t = targets a from n x y in let f = e x y (omega arith) (omega arith) in (λ r. (let q = f.0 r in grind (arith, q, t)), λ q. f.1 (inr (inl q))))) p.1,
    p.2,
    λ x. (let j = n + size a + size b in let t = targets a from n x j in let v = targets b from (n + size a) x j in let f = e x j (omega arith) (omega arith) in
        (λ r. (let q = f.0 r in grind (arith, q, t, v)), λ q. elim q [ inl r ↦ f.1 (inr (inr (inr (r, refl)))) | inr r ↦ f.1 (inr (inr (inl (r, refl)))) ])),
  )
  lays (Repeat a) from n e p = (
    (
      p.0,
      λ x. (let t = targets a n (n + 1) x n in let f = e x n (omega arith) (omega arith) in
          (λ r. (let q = f.0 r in grind (arith, q, t)), λ q. elim q [ inl r ↦ f.1 (inl (r, refl)) | inr r ↦ f.1 (inr (inr (r, refl))) ])),
    ),
    lays a n (n + 1) (λ x y l k. (let f = e x y (omega arith) (omega arith) in (λ r. (let q = f.0 r in grind (arith, q)), λ q. f.1 (inr (inl q))))) p.1,
  )

module _ (c : PathExpr) where
  abbrev pub points : ℕ → Point
  points = point_at (points_onto c (Plain ∷ []))

  abbrev pub edges : ℕ → ℕ → Type 0
  edges = HasEdge (edges_onto c 0 1 [])

  pub none_into : (x : ℕ) → edges x 0 → ⊥
  none_into x h = elim ((has_edges c 0 1 [] x 0).0 h) [ inl r ↦ r | inr r ↦ (let w = targets c 0 1 x 0 r in omega arith) ]

  pub laid : Laid points edges 0 c 0 1
  laid = lays points edges 0 c 0 1 (λ x y l h. (λ p. elim ((has_edges c 0 1 [] x y).0 p) [ inl r ↦ absurd r | inr r ↦ r ], λ q. (has_edges c 0 1 [] x y).1 (inr q))) (stands points c (Plain ∷ []) 1 refl (λ i lt. refl)).1

  pub into_within : (x y : ℕ) → edges x y → Within 1 (size c) y
  into_within x y h = elim ((has_edges c 0 1 [] x y).0 h) [ inl r ↦ absurd r | inr r ↦ targets c 0 1 x y r ]

-- the graph that is built after one plain point has the paths of the expression
pub built_paths : (c : PathExpr) → Passed c → (u : List Visit) → Passes c [] u ↔ Reaches (points c) (edges c) 0 (last c 0 1) u
built_paths c q = same_paths (points c) (edges c) 0 c q (none_into c) (laid c)
