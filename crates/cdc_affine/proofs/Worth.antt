-- A form has the value of its expression.
use Rattle.std.proofs.Common.{◌≡◌, ℕ, zero, suc, Bool, true, false, if◌then◌else◌, List, [], ◌∷◌, ℤ, pos, negsuc, ◌+ℤ◌, ◌-ℤ◌, ◌*ℤ◌, neg_ℤ, Option, Some, None, Ok, Err, refl, sym, ap, ◌∙◌, subst, arith}
use Rattle.std.specs.Prelude.{nat_lt, ◌&&◌, ◌||◌}
use Rattle.std.specs.declared.cmp.Ordering.{Ordering}
use Rattle.std.specs.declared.cmp.Ordering.TheVariants.{Less, Equal, Greater}
use Rattle.std.proofs.Math.IntN.{zero-*ℤ, *ℤ_comm}
use Rattle.std.proofs.lemmas.Int.{ints}
use Rattle.std.proofs.lemmas.Bool.{ltb-false}
use Rattle.cdc_prog.specs.declared.expr.Var.{Var}
use Rattle.cdc_prog.specs.declared.expr.Var.TheVariants as var
use Rattle.cdc_prog.specs.declared.expr.UnOp.{UnOp}
use Rattle.cdc_prog.specs.declared.expr.UnOp.TheVariants.{Neg}
use Rattle.cdc_prog.specs.declared.expr.BinOp.{BinOp}
use Rattle.cdc_prog.specs.declared.expr.BinOp.TheVariants.{Add, Sub, Mul}
use Rattle.cdc_num.specs.declared.arith.Arith.TheVariants.{Overflow}
use Rattle.cdc_prog.specs.declared.program.FaultKind.TheVariants.{ZeroDivisor}
use Rattle.cdc_prog.specs.Plain.{Expr, Number, Scalar, Element, Un, Bin}
use Rattle.cdc_num.specs.Exact.{exact, is_value}
use Rattle.cdc_prog.specs.Value.{Got, or_fault, unary, binary}
use Rattle.cdc_prog.specs.Data.{Store, Binding}
use Rattle.cdc_prog.specs.Expressions.{Surroundings}
use Rattle.cdc_prog.specs.declared.affine.Scope.{Scope}
use Rattle.cdc_prog.specs.declared.affine.Term.{Term}
use Rattle.cdc_prog.specs.declared.affine.Affine.{Affine}
use Rattle.cdc_prog.specs.Affine.{order_of, order, is_in, is_index, in_order, kept, into, sum_terms, scaled, is_small, are_small, bounded, with_some, got, constant, sum_of, multiple, minus_one, if_empty, product_of, alone, or_form, form_un, form_bin, form, total, worth, Speaks}
use Rattle.cdc_prog.specs.Iterations.{held, Value}
use Rattle.cdc_num.proofs.Whole.{mul-add, add-mul, mul-mul, mul-negsuc-zero}

-- ---- inversions
pub some_of : {A B : Type 0} (o : Option A) (f : A → Option B) (b : B) → with_some o f ≡ Some b → (a : A) × (o ≡ Some a) × (f a ≡ Some b)
some_of None f b e = cc
some_of (Some a) f b e = (a, refl, e)

pub if_some : {A : Type 0} (test : Bool) (a c : A) → (if test then Some a else None) ≡ Some c → a ≡ c
if_some true a c e = cc
if_some false a c e = cc

pub got_of : {A : Type 0} (g : Got A) (n : A) → got g ≡ Some n → g ≡ Ok n
got_of (Ok a) n e = cc
got_of (Err k) n e = cc

pub exact_of : (z v : ℤ) → or_fault ZeroDivisor (exact z) ≡ Ok v → v ≡ z
exact_of z v e = go (is_value z) e
  where
    go : (test : Bool) → or_fault ZeroDivisor (if test then Ok z else Err Overflow) ≡ Ok v → v ≡ z
    go true e = cc
    go false e = cc

pub and_true : (p q : Bool) → (p && q) ≡ true → (p ≡ true) × (q ≡ true)
and_true true q e = (refl, e)
and_true false q e = cc

pub record IsBounded (ts : List Term) (z : ℤ) (f : Affine) : Type 0 where
  pub terms : f.terms ≡ ts
  pub rest : f.rest ≡ z
  pub small_rest : is_small z ≡ true
  pub small_terms : are_small ts ≡ true

pub bounded_of : (ts : List Term) (z : ℤ) (f : Affine) → bounded ts z ≡ Some f → IsBounded ts z f
bounded_of ts z f e = go (is_small z && are_small ts) refl e
  where
    go : (test : Bool) → (is_small z && are_small ts) ≡ test → (if test then Some (record { terms = ts; rest = z }) else None) ≡ Some f → IsBounded ts z f
    go true q e =
        let same : record { terms = ts; rest = z } ≡ f = cc in
        let both = and_true (is_small z) (are_small ts) q in
        record { terms = sym (ap (λ (g : Affine). g.terms) same); rest = sym (ap (λ (g : Affine). g.rest) same); small_rest = both.0; small_terms = both.1 }
    go false q e = cc

order_of_equal : (m n : ℕ) → order_of m n ≡ Equal → m ≡ n
order_of_equal m n e = first (nat_lt m n) refl e
  where
    second : m ≡ n → m ≡ n
    second h = h

    other : (q : Bool) → nat_lt m n ≡ false → nat_lt n m ≡ q → (if q then Greater else Equal) ≡ Equal → m ≡ n
    other true p h e = cc
    other false p h e = omega (arith, ltb-false m n p, ltb-false n m h)

    first : (q : Bool) → nat_lt m n ≡ q → (if q then Less else (if nat_lt n m then Greater else Equal)) ≡ Equal → m ≡ n
    first true h e = cc
    first false h e = other (nat_lt n m) h refl e

pub order_equal : (u v : Var) → order u v ≡ Equal → u ≡ v
order_equal (var.Object m) (var.Object n) e = ap var.Object (order_of_equal m n e)
order_equal (var.Object m) (var.Dummy n) e = cc
order_equal (var.Object m) (var.Slot n) e = cc
order_equal (var.Dummy m) (var.Object n) e = cc
order_equal (var.Dummy m) (var.Dummy n) e = ap var.Dummy (order_of_equal m n e)
order_equal (var.Dummy m) (var.Slot n) e = cc
order_equal (var.Slot m) (var.Object n) e = cc
order_equal (var.Slot m) (var.Dummy n) e = cc
order_equal (var.Slot m) (var.Slot n) e = ap var.Slot (order_of_equal m n e)

-- ---- totals
module _ (ρ : Var → ℤ) where
  kept_total : (v : Var) (z : ℤ) (us : List Term) → total ρ (kept v z us) ≡ z *ℤ ρ v +ℤ total ρ us
  kept_total v (pos zero) us = let h : pos zero *ℤ ρ v ≡ pos zero = zero-*ℤ (ρ v) in omega (arith, ints)
  kept_total v (pos (suc n)) us = refl
  kept_total v (negsuc n) us = refl

  -- the rest makes a sum with whatever others
  abbrev Adds : (List Term → List Term) → List Term → Type 0
  Adds rest ts = (us : List Term) → total ρ (rest us) ≡ total ρ ts +ℤ total ρ us

  into_total : (t : Term) (ts : List Term) (rest : List Term → List Term) → Adds rest ts → Adds (into t rest) (t ∷ ts)
  into_total t ts rest h [] = let k : total ρ (rest []) ≡ total ρ ts +ℤ pos 0 = h [] in omega (arith, ints)
  into_total t ts rest h (u ∷ us) = go (order t.var u.var) refl (into_total t ts rest h us)
    where
      go : (o : Ordering) → order t.var u.var ≡ o → total ρ (into t rest us) ≡ (t.times *ℤ ρ t.var +ℤ total ρ ts) +ℤ total ρ us → total ρ (in_order o (t ∷ rest (u ∷ us)) (kept u.var (t.times +ℤ u.times) (rest us)) (u ∷ into t rest us)) ≡ (t.times *ℤ ρ t.var +ℤ total ρ ts) +ℤ (u.times *ℤ ρ u.var +ℤ total ρ us)
      go Less q i = let k : total ρ (rest (u ∷ us)) ≡ total ρ ts +ℤ (u.times *ℤ ρ u.var +ℤ total ρ us) = h (u ∷ us) in omega (arith, ints)
      go Equal q i =
          let k = kept_total u.var (t.times +ℤ u.times) (rest us) in
          let r = h us in
          let d = add-mul t.times u.times (ρ u.var) in
          let same : t.times *ℤ ρ t.var ≡ t.times *ℤ ρ u.var = ap (λ v. t.times *ℤ ρ v) (order_equal t.var u.var q) in
          omega (arith, ints)
      go Greater q i = omega (arith, ints)

  sum_total : (ts us : List Term) → total ρ (sum_terms ts us) ≡ total ρ ts +ℤ total ρ us
  sum_total [] us = omega (arith, ints)
  sum_total (t ∷ ts) us = into_total t ts (sum_terms ts) (sum_total ts) us

  scaled_total : (k : ℤ) (ts : List Term) → total ρ (scaled k ts) ≡ k *ℤ total ρ ts
  scaled_total k [] = sym (*ℤ_comm k (pos 0) ∙ zero-*ℤ k)
  scaled_total k (t ∷ ts) =
      let h = kept_total t.var (k *ℤ t.times) (scaled k ts) in
      let i = scaled_total k ts in
      let m = mul-mul k t.times (ρ t.var) in
      let d = mul-add k (t.times *ℤ ρ t.var) (total ρ ts) in
      omega (arith, ints)

  worth_is : (ts : List Term) (z : ℤ) (f : Affine) → IsBounded ts z f → worth ρ f ≡ total ρ ts +ℤ z
  worth_is ts z f h = ap (λ us. total ρ us +ℤ f.rest) h.terms ∙ ap (λ y. total ρ ts +ℤ y) h.rest

  sum_of_worth : (f g h : Affine) → sum_of f g ≡ Some h → worth ρ h ≡ worth ρ f +ℤ worth ρ g
  sum_of_worth f g h e =
      let a = worth_is _ _ h (bounded_of (sum_terms f.terms g.terms) (f.rest +ℤ g.rest) h e) in
      let b = sum_total f.terms g.terms in
      omega (arith, ints)

  multiple_worth : (k : ℤ) (f h : Affine) → multiple k f ≡ Some h → worth ρ h ≡ k *ℤ worth ρ f
  multiple_worth k f h e =
      let a = worth_is _ _ h (bounded_of (scaled k f.terms) (k *ℤ f.rest) h e) in
      let b = scaled_total k f.terms in
      let d = mul-add k (total ρ f.terms) f.rest in
      omega (arith, ints)

  product_of_worth : (f g h : Affine) → product_of f g ≡ Some h → worth ρ h ≡ worth ρ f *ℤ worth ρ g
  product_of_worth f g h e = go f.terms g.terms refl refl e
    where
      go : (ts us : List Term) → f.terms ≡ ts → g.terms ≡ us → if_empty ts (multiple f.rest g) (if_empty us (multiple g.rest f) None) ≡ Some h → worth ρ h ≡ worth ρ f *ℤ worth ρ g
      go [] us p q e =
          let one : worth ρ f ≡ f.rest = ap (λ ts. total ρ ts +ℤ f.rest) p ∙ (omega (arith, ints)) in
          multiple_worth f.rest g h e ∙ ap (λ y. y *ℤ worth ρ g) (sym one)
      go (t ∷ ts) [] p q e =
          let one : worth ρ g ≡ g.rest = ap (λ ts. total ρ ts +ℤ g.rest) q ∙ (omega (arith, ints)) in
          multiple_worth g.rest f h e ∙ (*ℤ_comm g.rest (worth ρ f) ∙ ap (λ y. worth ρ f *ℤ y) (sym one))
      go (t ∷ ts) (u ∷ us) p q e = cc

-- ---- expressions
module _ (b : Binding) (c : Surroundings) (t : Store) where
  pub constant_is : (e : Expr) (n v : ℤ) → constant e ≡ Some n → Value b c t e v → v ≡ n
  constant_is (Number m) n v q h = cc
  constant_is (Scalar at) n v q h = cc
  constant_is (Element at subs) n v q h = cc
  constant_is (Un op a) n v q h =
      let p = some_of (constant a) (λ x. got (unary op x)) n q in
      let same : h.0 ≡ p.0 = constant_is a p.0 h.0 p.1 h.1 in
      let g = got_of (unary op p.0) n p.2 in
      let k : unary op p.0 ≡ Ok v = ap (unary op) (sym same) ∙ h.2 in
      cc
  constant_is (Bin op a e) n v q h =
      let p = some_of (constant a) (λ x. with_some (constant e) (λ y. got (binary op x y))) n q in
      let r = some_of (constant e) (λ y. got (binary op p.0 y)) n p.2 in
      let same : h.0 ≡ p.0 = constant_is a p.0 h.0 p.1 h.2 in
      let same' : h.1 ≡ r.0 = constant_is e r.0 h.1 r.1 h.3 in
      let g = got_of (binary op p.0 r.0) n r.2 in
      let k : binary op p.0 r.0 ≡ Ok v = ap (λ x. binary op x r.0) (sym same) ∙ (ap (binary op h.0) (sym same') ∙ h.4) in
      cc

  un_is : (op : UnOp) (f g : Affine) (x v : ℤ) → form_un op f ≡ Some g → unary op x ≡ Ok v → x ≡ worth (held b c t) f → v ≡ worth (held b c t) g
  un_is Neg f g x v p q e =
      let a = multiple_worth (held b c t) minus_one f g p in
      let d : v ≡ neg_ℤ x = exact_of (neg_ℤ x) v q in
      let m = mul-negsuc-zero (worth (held b c t) f) in
      omega (arith, ints)
  un_is op f g x v p q e = cc

  bin_is : (op : BinOp) (f g h : Affine) (x y v : ℤ) → form_bin op f g ≡ Some h → binary op x y ≡ Ok v → x ≡ worth (held b c t) f → y ≡ worth (held b c t) g → v ≡ worth (held b c t) h
  bin_is Add f g h x y v p q e d =
      let a = sum_of_worth (held b c t) f g h p in
      let s = exact_of (x +ℤ y) v q in
      omega (arith, ints)
  bin_is Sub f g h x y v p q e d =
      let k = some_of (multiple minus_one g) (sum_of f) h p in
      let a = sum_of_worth (held b c t) f k.0 h k.2 in
      let n = multiple_worth (held b c t) minus_one g k.0 k.1 in
      let m = mul-negsuc-zero (worth (held b c t) g) in
      let s = exact_of (x -ℤ y) v q in
      omega (arith, ints)
  bin_is Mul f g h x y v p q e d =
      exact_of (x *ℤ y) v q ∙ (ap (λ z. z *ℤ y) e ∙ (ap (λ z. worth (held b c t) f *ℤ z) d ∙ sym (product_of_worth (held b c t) f g h p)))
  bin_is op f g h x y v p q e d = cc

  alone_is : (sc : Scope) (v : Var) (f : Affine) → alone sc v ≡ Some f → held b c t v ≡ worth (held b c t) f
  alone_is sc v f e = go (is_index sc v || is_in sc.fixed v) e
    where
      go : (test : Bool) → (if test then Some (record { terms = (record { var = v; times = pos 1 }) ∷ []; rest = pos 0 }) else None) ≡ Some f → held b c t v ≡ worth (held b c t) f
      go true e =
          let same : record { terms = (record { var = v; times = pos 1 }) ∷ []; rest = pos 0 } ≡ f = cc in
          subst (λ g. held b c t v ≡ worth (held b c t) g) same (omega (arith, ints))
      go false e = cc

  constant_form : (o : Option ℤ) (p : Option Affine) (f : Affine) (P : Type 0) → or_form o p ≡ Some f → ((n : ℤ) → o ≡ Some n → bounded [] n ≡ Some f → P) → (p ≡ Some f → P) → P
  constant_form (Some n) p f P e h k = h n refl e
  constant_form None p f P e h k = k e

  number_is : (n v : ℤ) (f : Affine) → bounded [] n ≡ Some f → v ≡ n → v ≡ worth (held b c t) f
  number_is n v f e same =
      let a = worth_is (held b c t) _ _ f (bounded_of [] n f e) in
      omega (arith, ints)

  pub form_is : (sc : Scope) (e : Expr) (f : Affine) (v : ℤ) → form sc e ≡ Some f → Value b c t e v → v ≡ worth (held b c t) f
  form_is sc (Number n) f v q h = number_is n v f q h
  form_is sc (Scalar at) f v q h = h ∙ alone_is sc at.var f q
  form_is sc (Element at subs) f v q h = cc
  form_is sc (Un op a) f v q h =
      let p = some_of (form sc a) (λ g. or_form (constant (Un op a)) (form_un op g)) f q in
      constant_form (constant (Un op a)) (form_un op p.0) f (v ≡ worth (held b c t) f) p.2
      (λ n e s. number_is n v f s (constant_is (Un op a) n v e h))
      (λ e. un_is op p.0 f h.0 v e h.2 (form_is sc a p.0 h.0 p.1 h.1))
  form_is sc (Bin op a d) f v q h =
      let p = some_of (form sc a) (λ g. with_some (form sc d) (λ k. or_form (constant (Bin op a d)) (form_bin op g k))) f q in
      let r = some_of (form sc d) (λ k. or_form (constant (Bin op a d)) (form_bin op p.0 k)) f p.2 in
      constant_form (constant (Bin op a d)) (form_bin op p.0 r.0) f (v ≡ worth (held b c t) f) r.2
      (λ n e s. number_is n v f s (constant_is (Bin op a d) n v e h))
      (λ e. bin_is op p.0 r.0 f h.0 h.1 v e h.4 (form_is sc a p.0 h.0 p.1 h.2) (form_is sc d r.0 h.1 r.1 h.3))

-- ---- the variables of a form are indexes and fixed scalars
module _ (sc : Scope) where
  kept_speaks : (v : Var) (z : ℤ) (us : List Term) → (is_index sc v || is_in sc.fixed v) ≡ true → Speaks sc us → Speaks sc (kept v z us)
  kept_speaks v (pos zero) us h s = s
  kept_speaks v (pos (suc n)) us h s = (h, s)
  kept_speaks v (negsuc n) us h s = (h, s)

  into_speaks : (t : Term) (rest : List Term → List Term) → (is_index sc t.var || is_in sc.fixed t.var) ≡ true → ((us : List Term) → Speaks sc us → Speaks sc (rest us)) → (us : List Term) → Speaks sc us → Speaks sc (into t rest us)
  into_speaks t rest h r [] s = (h, r [] tt)
  into_speaks t rest h r (u ∷ us) s = go (order t.var u.var) (into_speaks t rest h r us s.1)
    where
      go : (o : Ordering) → Speaks sc (into t rest us) → Speaks sc (in_order o (t ∷ rest (u ∷ us)) (kept u.var (t.times +ℤ u.times) (rest us)) (u ∷ into t rest us))
      go Less i = (h, r (u ∷ us) s)
      go Equal i = kept_speaks u.var (t.times +ℤ u.times) (rest us) s.0 (r us s.1)
      go Greater i = (s.0, i)

  sum_speaks : (ts us : List Term) → Speaks sc ts → Speaks sc us → Speaks sc (sum_terms ts us)
  sum_speaks [] us s h = h
  sum_speaks (t ∷ ts) us s h = into_speaks t (sum_terms ts) s.0 (λ us. sum_speaks ts us s.1) us h

  scaled_speaks : (k : ℤ) (ts : List Term) → Speaks sc ts → Speaks sc (scaled k ts)
  scaled_speaks k [] s = tt
  scaled_speaks k (t ∷ ts) s = kept_speaks t.var (k *ℤ t.times) (scaled k ts) s.0 (scaled_speaks k ts s.1)

  bounded_speaks : (ts : List Term) (z : ℤ) (f : Affine) → Speaks sc ts → bounded ts z ≡ Some f → Speaks sc f.terms
  bounded_speaks ts z f s e = subst (Speaks sc) (sym (bounded_of ts z f e).terms) s

  multiple_speaks : (k : ℤ) (f h : Affine) → Speaks sc f.terms → multiple k f ≡ Some h → Speaks sc h.terms
  multiple_speaks k f h s e = bounded_speaks (scaled k f.terms) (k *ℤ f.rest) h (scaled_speaks k f.terms s) e

  sum_of_speaks : (f g h : Affine) → Speaks sc f.terms → Speaks sc g.terms → sum_of f g ≡ Some h → Speaks sc h.terms
  sum_of_speaks f g h s s' e = bounded_speaks (sum_terms f.terms g.terms) (f.rest +ℤ g.rest) h (sum_speaks f.terms g.terms s s') e

  product_speaks : (f g h : Affine) → Speaks sc f.terms → Speaks sc g.terms → product_of f g ≡ Some h → Speaks sc h.terms
  product_speaks f g h s s' e = go f.terms g.terms e
    where
      go : (ts us : List Term) → if_empty ts (multiple f.rest g) (if_empty us (multiple g.rest f) None) ≡ Some h → Speaks sc h.terms
      go [] us e = multiple_speaks f.rest g h s' e
      go (t ∷ ts) [] e = multiple_speaks g.rest f h s e
      go (t ∷ ts) (u ∷ us) e = cc

  un_speaks : (op : UnOp) (f g : Affine) → Speaks sc f.terms → form_un op f ≡ Some g → Speaks sc g.terms
  un_speaks Neg f g s e = multiple_speaks minus_one f g s e
  un_speaks op f g s e = cc

  bin_speaks : (op : BinOp) (f g h : Affine) → Speaks sc f.terms → Speaks sc g.terms → form_bin op f g ≡ Some h → Speaks sc h.terms
  bin_speaks Add f g h s s' e = sum_of_speaks f g h s s' e
  bin_speaks Sub f g h s s' e =
      let k = some_of (multiple minus_one g) (sum_of f) h e in
      sum_of_speaks f k.0 h s (multiple_speaks minus_one g k.0 s' k.1) k.2
  bin_speaks Mul f g h s s' e = product_speaks f g h s s' e
  bin_speaks op f g h s s' e = cc

  alone_speaks : (v : Var) (f : Affine) → alone sc v ≡ Some f → Speaks sc f.terms
  alone_speaks v f e = go (is_index sc v || is_in sc.fixed v) refl e
    where
      go : (test : Bool) → (is_index sc v || is_in sc.fixed v) ≡ test → (if test then Some (record { terms = (record { var = v; times = pos 1 }) ∷ []; rest = pos 0 }) else None) ≡ Some f → Speaks sc f.terms
      go true q e =
          let same : record { terms = (record { var = v; times = pos 1 }) ∷ []; rest = pos 0 } ≡ f = cc in
          subst (λ g. Speaks sc g.terms) same (q, tt)
      go false q e = cc

  constant_speaks : (o : Option ℤ) (p : Option Affine) (f : Affine) → or_form o p ≡ Some f → (p ≡ Some f → Speaks sc f.terms) → Speaks sc f.terms
  constant_speaks (Some n) p f e h = bounded_speaks [] n f tt e
  constant_speaks None p f e h = h e

  pub form_speaks : (e : Expr) (f : Affine) → form sc e ≡ Some f → Speaks sc f.terms
  form_speaks (Number n) f q = bounded_speaks [] n f tt q
  form_speaks (Scalar at) f q = alone_speaks at.var f q
  form_speaks (Element at subs) f q = cc
  form_speaks (Un op a) f q =
      let p = some_of (form sc a) (λ g. or_form (constant (Un op a)) (form_un op g)) f q in
      constant_speaks (constant (Un op a)) (form_un op p.0) f p.2 (un_speaks op p.0 f (form_speaks a p.0 p.1))
  form_speaks (Bin op a d) f q =
      let p = some_of (form sc a) (λ g. with_some (form sc d) (λ k. or_form (constant (Bin op a d)) (form_bin op g k))) f q in
      let r = some_of (form sc d) (λ k. or_form (constant (Bin op a d)) (form_bin op p.0 k)) f p.2 in
      constant_speaks (constant (Bin op a d)) (form_bin op p.0 r.0) f r.2 (bin_speaks op p.0 r.0 f (form_speaks a p.0 p.1) (form_speaks d r.0 r.1))
