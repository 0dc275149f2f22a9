-- A graph in which each point of a path expression is entered as the expression says has its paths.
use Rattle.std.proofs.Common.{◌≡◌, ◌↔◌, ◌⊎◌, ℕ, zero, suc, ◌+◌, ◌≤◌, ◌<◌, List, [], ◌∷◌, refl, sym, ap, ◌∙◌, subst, inl, inr, arith}
use Rattle.cdc_path.specs.declared.point.Point.{Point}
use Rattle.cdc_path.specs.declared.point.Point.TheVariants.{Plain}
use Rattle.cdc_path.specs.PathExpr.{Visit, PathExpr, Nothing, One, Then, Either, Repeat, Way, Turns, Passes}
use Rattle.cdc_flow.specs.Flow.{pass, Reach, Reaches}
use Rattle.cdc_flow.proofs.Sizes.{size, last}

-- what is passed at each point is that point alone
abbrev pub Passed : PathExpr → Type 0
Passed Nothing = Unit {0}
Passed (One v) = (t : List Visit) → pass v.point t ≡ v ∷ t
Passed (Then a b) = Passed a × Passed b
Passed (Either a b) = Passed a × Passed b
Passed (Repeat a) = Passed a

module _ (P : ℕ → Point) (E : ℕ → ℕ → Type 0) (start : ℕ) where
  -- the edges into v come from where S says, and from nowhere else
  abbrev pub Into : ℕ → (ℕ → Type 0) → Type 0
  Into v S = (x : ℕ) → E x v ↔ S x

  -- the points of an expression stand in the graph from n on, and are entered as the expression says
  abbrev pub Laid : PathExpr → (from n : ℕ) → Type 0
  Laid Nothing from n = Unit {0}
  Laid (One v) from n = (P n ≡ v.point) × Into n (λ x. x ≡ from)
  Laid (Then a b) from n = Laid a from n × Laid b (last a from n) (n + size a)
  Laid (Either a b) from n =
      let j = n + size a + size b in
      Laid a from n × Laid b from (n + size a) × (P j ≡ Plain) × Into j (λ x. (x ≡ last a from n) ⊎ (x ≡ last b from (n + size a)))
  Laid (Repeat a) from n = ((P n ≡ Plain) × Into n (λ x. (x ≡ from) ⊎ (x ≡ last a n (n + 1)))) × Laid a n (n + 1)

  -- ---- each path of the expression is one of the graph
  pub step : (a v : ℕ) (p : Point) (t : List Visit) → P v ≡ p → E a v → Reaches P E start a t → Reaches P E start v (pass p t)
  step a v p t q e r = (suc r.0, (a, t, r.1, e, ap (λ x. pass x t) (sym q)))

  -- what a part of the graph is for: it leads along the way from a to v
  abbrev pub There : Way → (a v : ℕ) → Type 0
  There way a v = (t u : List Visit) → way t u → Reaches P E start a t → Reaches P E start v u

  turns_there : (i : ℕ) (way : Way) (h e : ℕ) → There way h e → P h ≡ Plain → E e h → (t u : List Visit) → Turns i way t u → Reaches P E start h t → Reaches P E start h u
  turns_there zero way h e there ph eh t u w r = subst (Reaches P E start h) (sym w) r
  turns_there (suc i) way h e there ph eh t u w r = step e h Plain u ph eh (there w.0 u w.2 (turns_there i way h e there ph eh t w.0 w.1 r))

  pub there : (c : PathExpr) (from n : ℕ) → Passed c → Laid c from n → There (Passes c) from (last c from n)
  there Nothing from n k l t u h r = subst (Reaches P E start from) (sym h) r
  there (One v) from n k l t u h r = subst (Reaches P E start n) (k t ∙ sym h) (step from n v.point t l.0 ((l.1 from).1 refl) r)
  there (Then a b) from n k l t u h r = there b (last a from n) (n + size a) k.1 l.1 h.0 u h.2 (there a from n k.0 l.0 t h.0 h.1 r)
  there (Either a b) from n k l t u h r = elim h [
    | inl p ↦ step _ _ Plain u l.2 ((l.3 _).1 (inl refl)) (there a from n k.0 l.0 t u p r)
    | inr p ↦ step _ _ Plain u l.2 ((l.3 _).1 (inr refl)) (there b from (n + size a) k.1 l.1 t u p r)
  ]
  there (Repeat a) from n k l t u h r =
      turns_there h.0 (Passes a) n (last a n (n + 1)) (there a n (n + 1) k l.1) l.0.0 ((l.0.1 _).1 (inr refl)) t u h.1 (step from n Plain t l.0.0 ((l.0.1 from).1 (inl refl)) r)

  -- ---- each path of the graph is one of the expression
  -- the last edge of what reaches v
  record Entered (S : ℕ → Type 0) (p : Point) (k : ℕ) (u : List Visit) : Type 0 where
    j : ℕ
    less : j < k
    a : ℕ
    is : S a
    m : List Visit
    reach : Reach P E start j a m
    points : u ≡ pass p m

  entered : (v : ℕ) (p : Point) (S : ℕ → Type 0) → P v ≡ p → Into v S → start < v → (k : ℕ) (u : List Visit) → Reach P E start k v u → Entered S p k u
  entered v p S q i lt zero u r = absurd (omega (arith, r.0))
  entered v p S q i lt (suc k) u r =
      record { j = k; less = omega arith; a = r.0; is = (i r.0).0 r.3; m = r.1; reach = r.2; points = r.4 ∙ ap (λ x. pass x r.1) q }

  -- what reaches the end of a part came through its beginning, along the way
  pub record Came (way : Way) (from k : ℕ) (u : List Visit) : Type 0 where
    pub j : ℕ
    pub less : j ≤ k
    pub t : List Visit
    pub reach : Reach P E start j from t
    pub along : way t u

  abbrev pub Back : Way → (a v : ℕ) → Type 0
  Back way a v = (k : ℕ) (u : List Visit) → Reach P E start k v u → Came way a k u

  turns_back : (from n : ℕ) (way : Way) (e : ℕ) → start < n → Back way n e → P n ≡ Plain → Into n (λ x. (x ≡ from) ⊎ (x ≡ e)) →
      (fuel k : ℕ) → k ≤ fuel → (u : List Visit) → Reach P E start k n u → Came (λ t u. (i : ℕ) × Turns i way t u) from k u
  turns_back from n way e lt back ph eh zero k le u r =
      let x = entered n Plain _ ph eh lt k u r in
      absurd (omega (arith, x.less, le))
  turns_back from n way e lt back ph eh (suc fuel) k le u r =
      let x = entered n Plain _ ph eh lt k u r in
      elim x.is [
        | inl q ↦ record { j = x.j; less = omega (arith, x.less); t = x.m; reach = subst (λ a. Reach P E start x.j a x.m) q x.reach; along = (0, x.points) }
        | inr q ↦
            (let b = back x.j x.m (subst (λ a. Reach P E start x.j a x.m) q x.reach) in
            let w = turns_back from n way e lt back ph eh fuel b.j (omega (arith, b.less, x.less, le)) b.t b.reach in
            record { j = w.j; less = omega (arith, w.less, b.less, x.less); t = w.t; reach = w.reach; along = (suc w.along.0, (b.t, w.along.1, subst (way b.t) (sym x.points) b.along)) })
      ]

  pub back : (c : PathExpr) (from n : ℕ) → start < n → Passed c → Laid c from n → Back (Passes c) from (last c from n)
  back Nothing from n lt q l k u r = record { j = k; less = omega arith; t = u; reach = r; along = refl }
  back (One v) from n lt q l k u r =
      let e = entered n v.point (λ x. x ≡ from) l.0 l.1 lt k u r in
      record { j = e.j; less = omega (arith, e.less); t = e.m; reach = subst (λ x. Reach P E start e.j x e.m) e.is e.reach; along = e.points ∙ q e.m }
  back (Then a b) from n lt q l k u r =
      let y = back b (last a from n) (n + size a) (omega arith) q.1 l.1 k u r in
      let x = back a from n lt q.0 l.0 y.j y.t y.reach in
      record { j = x.j; less = omega (arith, x.less, y.less); t = x.t; reach = x.reach; along = (y.t, x.along, y.along) }
  back (Either a b) from n lt q l k u r =
      let e = entered (n + size a + size b) Plain _ l.2 l.3 (omega arith) k u r in
      elim e.is [
        | inl p ↦
            (let x = back a from n lt q.0 l.0 e.j e.m (subst (λ v. Reach P E start e.j v e.m) p e.reach) in
            record { j = x.j; less = omega (arith, x.less, e.less); t = x.t; reach = x.reach; along = inl (subst (λ l. Passes a x.t l) (sym e.points) x.along) })
        | inr p ↦
            (let x = back b from (n + size a) (omega arith) q.1 l.1 e.j e.m (subst (λ v. Reach P E start e.j v e.m) p e.reach) in
            record { j = x.j; less = omega (arith, x.less, e.less); t = x.t; reach = x.reach; along = inr (subst (λ l. Passes b x.t l) (sym e.points) x.along) })
      ]
  back (Repeat a) from n lt q l k u r =
      turns_back from n (Passes a) (last a n (n + 1)) lt (back a n (n + 1) (omega arith) q l.1) l.0.0 l.0.1 k k (omega arith) u r

  at_start : ((x : ℕ) → E x start → ⊥) → (k : ℕ) (t : List Visit) → Reach P E start k start t → t ≡ []
  at_start none zero t r = r.1
  at_start none (suc k) t r = absurd (none r.0 r.3)

  -- the paths of the graph are those of the expression
  pub same_paths : (c : PathExpr) → Passed c → ((x : ℕ) → E x start → ⊥) → Laid c start (start + 1) → (u : List Visit) → Passes c [] u ↔ Reaches P E start (last c start (start + 1)) u
  same_paths c q none l u = (
    λ h. there c start (start + 1) q l [] u h (0, (refl, refl)),
    λ r. (let x = back c start (start + 1) (omega arith) q l r.0 u r.1 in subst (λ t. Passes c t u) (at_start none x.j x.t x.reach) x.along),
  )
