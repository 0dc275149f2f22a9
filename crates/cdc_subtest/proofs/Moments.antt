-- Each access of an iteration is at a moment that fits the scope of its reference.
use Rattle.std.proofs.Common.{◌≡◌, ℕ, zero, suc, ◌+◌, ◌-◌, ◌*◌, ◌^◌, ◌<◌, ◌≤◌, Bool, true, false, if◌then◌else◌, List, [], ◌∷◌, ◌++◌, ℤ, pos, negsuc, ◌+ℤ◌, ◌*ℤ◌, neg_ℤ, Option, Some, None, Ok, Err, refl, sym, ap, ◌∙◌, subst, inl, inr, arith}
use Rattle.std.specs.Prelude.{nat_lt, nat_abs}
use Rattle.std.proofs.lemmas.Int.{ints}
use Rattle.std.proofs.Math.IntN.{pos-*ℤ-pos, pos-*ℤ-negsuc}
use Rattle.std.proofs.Math.Nat.{mul-le-mul_right, add-mul}
use Rattle.cdc_prog.specs.declared.expr.Var.{Var}
use Rattle.cdc_prog.specs.declared.expr.Var.TheVariants as var
use Rattle.cdc_prog.specs.declared.expr.Ref.{Ref}
use Rattle.cdc_prog.specs.declared.expr.BinOp.TheVariants.{Add}
use Rattle.cdc_prog.specs.declared.program.Dim.{Dim}
use Rattle.cdc_prog.specs.Plain.{Expr, Number, Scalar, Element, Un, Bin, Exprs, Empty, More, Control, Stmt, Skip, Seq, Assign, If, Arm, Do, Doall, Call, Print, Read}
use Rattle.cdc_prog.specs.Value.{Got, unary, binary, trips, is_zero}
use Rattle.cdc_prog.specs.Data.{Store, put, Binding, base_of, dims_at, dims_of, element}
use Rattle.cdc_prog.specs.Process.{Process, Load, Save, or_fail}
use Rattle.cdc_prog.specs.Resolved.{IsVar, ExprFits, SubsFit, SpotFits, ControlFits}
use Rattle.cdc_prog.specs.Expressions.{Surroundings, scalar_of, scalar, fetch, keep, expr, exprs, located}
use Rattle.cdc_prog.specs.Statements.{Calls, Work, branch, controls, raise, turns, stmt}
use Rattle.cdc_prog.proofs.Alone.{put_same, put_other}
use Rattle.cdc_prog.specs.declared.affine.Range.{Range}
use Rattle.cdc_prog.specs.declared.affine.Index.{Index}
use Rattle.cdc_prog.specs.declared.affine.Scope.{Scope}
use Rattle.cdc_prog.specs.Affine.{with_some, got, constant}
use Rattle.cdc_prog.specs.Iterations.{Each, held, Value, Values, LiesIn, Lies, IsIn}
use Rattle.cdc_prog.specs.Dependence.{spread, range_of, Spot, inside, spot, expr_spots, exprs_spots, target_spots, control_spots, index_of, spots}
use Rattle.cdc_prog.specs.Iterations.{with_slot, MaySet, StoresOnlySlots, BodyFits, IsThere}
use Rattle.cdc_subtest.specs.Reached.{IsElementWord, Fits, IsWritten, IsRead}
use Rattle.cdc_num.proofs.Whole.{mul-pos-suc}
use Rattle.cdc_affine.proofs.Worth.{some_of, if_some, got_of, exact_of, constant_is}

pub in_left : {A : Type 0} (a : A) (xs ys : List A) → IsIn a xs → IsIn a (xs ++ ys)
in_left a [] ys h = absurd h
in_left a (x ∷ xs) ys (inl e) = inl e
in_left a (x ∷ xs) ys (inr h) = inr (in_left a xs ys h)

pub in_right : {A : Type 0} (a : A) (xs ys : List A) → IsIn a ys → IsIn a (xs ++ ys)
in_right a [] ys h = h
in_right a (x ∷ xs) ys h = inr (in_right a xs ys h)

-- ---- ranges
abbrev pub in_turn : ℤ → ℤ → ℕ → ℤ
in_turn m1 m3 j = m1 +ℤ (pos j *ℤ m3)

spread_lies : (m1 m3 : ℤ) (n j : ℕ) → j < n → LiesIn (spread m1 m3 (n - 1)) (in_turn m1 m3 j)
spread_lies m1 (pos d) n j h =
    let a : pos j *ℤ pos d ≡ pos (j * d) = pos-*ℤ-pos j d in
    let e : pos (n - 1) *ℤ pos d ≡ pos ((n - 1) * d) = pos-*ℤ-pos (n - 1) d in
    let m : j * d ≤ (n - 1) * d = mul-le-mul_right d (omega arith) in
    record { low = omega (arith, ints); high = omega (arith, ints); step = (j, refl) }
spread_lies m1 (negsuc d) n j h =
    let a : pos j *ℤ negsuc d ≡ neg_ℤ (pos (j * suc d)) = pos-*ℤ-negsuc j d in
    let e : pos (n - 1) *ℤ negsuc d ≡ neg_ℤ (pos ((n - 1) * suc d)) = pos-*ℤ-negsuc (n - 1) d in
    let m : j * suc d ≤ (n - 1) * suc d = mul-le-mul_right (suc d) (omega arith) in
    let g : pos (n - 1 - j) *ℤ pos (suc d) ≡ pos ((n - 1 - j) * suc d) = pos-*ℤ-pos (n - 1 - j) (suc d) in
    let s : (n - 1 - j + j) * suc d ≡ (n - 1 - j) * suc d + j * suc d = add-mul (n - 1 - j) j (suc d) in
    let r : (n - 1 - j + j) * suc d ≡ (n - 1) * suc d = ap (λ i. i * suc d) (omega arith) in
    record { low = omega (arith, ints); high = omega (arith, ints); step = (n - 1 - j, omega (arith, ints)) }

module _ (b : Binding) (c : Surroundings) (t : Store) (k : Control) where
  pub range_lies : (m1 m2 m3 : ℤ) (n j : ℕ) → Value b c t k.from m1 → Value b c t k.to m2 → Value b c t k.by m3 → trips m1 m2 m3 ≡ Ok n → j < n → Lies (range_of k) (in_turn m1 m3 j)
  range_lies m1 m2 m3 n j v1 v2 v3 e h = go (range_of k) refl
    where
      abbreviated : (x y z : ℤ) (r : Range) → m1 ≡ x → m2 ≡ y → m3 ≡ z → with_some (got (trips x y z)) (λ i. if nat_lt (nat_abs z) (2 ^ 63) then Some (spread x z (i - 1)) else None) ≡ Some r → LiesIn r (in_turn m1 m3 j)
      abbreviated x y z r p1 p2 p3 q =
          let w = some_of (got (trips x y z)) (λ i. if nat_lt (nat_abs z) (2 ^ 63) then Some (spread x z (i - 1)) else None) r q in
          let same : n ≡ w.0 = (let g = got_of (trips x y z) w.0 w.1 in let l : trips x y z ≡ Ok n = ap (λ i. trips i y z) (sym p1) ∙ (ap (λ i. trips m1 i z) (sym p2) ∙ (ap (λ i. trips m1 m2 i) (sym p3) ∙ e)) in cc) in
          let is : spread x z (w.0 - 1) ≡ r = if_some (nat_lt (nat_abs z) (2 ^ 63)) (spread x z (w.0 - 1)) r w.2 in
          subst (λ r. LiesIn r (in_turn m1 m3 j)) (ap (λ i. spread i m3 (n - 1)) p1 ∙ (ap (λ i. spread x i (n - 1)) p3 ∙ (ap (λ i. spread x z (i - 1)) same ∙ is))) (spread_lies m1 m3 n j h)

      go : (o : Option Range) → range_of k ≡ o → Lies o (in_turn m1 m3 j)
      go None q = tt
      go (Some r) q =
          let p1 = some_of (constant k.from) (λ x. with_some (constant k.to) (λ y. with_some (constant k.by) (λ z. with_some (got (trips x y z)) (λ i. if nat_lt (nat_abs z) (2 ^ 63) then Some (spread x z (i - 1)) else None)))) r q in
          let p2 = some_of (constant k.to) (λ y. with_some (constant k.by) (λ z. with_some (got (trips p1.0 y z)) (λ i. if nat_lt (nat_abs z) (2 ^ 63) then Some (spread p1.0 z (i - 1)) else None))) r p1.2 in
          let p3 = some_of (constant k.by) (λ z. with_some (got (trips p1.0 p2.0 z)) (λ i. if nat_lt (nat_abs z) (2 ^ 63) then Some (spread p1.0 z (i - 1)) else None)) r p2.2 in
          abbreviated p1.0 p2.0 p3.0 r (constant_is b c t k.from p1.0 m1 p1.1 v1) (constant_is b c t k.to p2.0 m2 p2.1 v2) (constant_is b c t k.by p3.0 m3 p3.1 v3) p3.2

module _ (b : Binding) (known : List Var) (c0 : Surroundings) (s : Store) (all : List Spot) where
  abbrev pub Fine : Process → Store → Type 0
  Fine = Each (IsRead b known c0 s all) (IsWritten b known c0 s all)

  -- each reference of a list is one of the body
  abbrev pub AreOf : List Spot → Type 0
  AreOf ps = (p : Spot) → IsIn p ps → IsIn p all

  abbrev pub Moment : Scope → Surroundings → Store → Type 0
  Moment = Fits b known c0 s

  or_fail_fine : {A : Type 0} (line : ℕ) (o : Got A) (rest : A → Process) (t : Store) → ((a : A) → o ≡ Ok a → Fine (rest a) t) → Fine (or_fail line o rest) t
  or_fail_fine line (Ok a) rest t h = h a refl
  or_fail_fine line (Err k) rest t h = tt

  -- an array is in memory
  there_of : (slots : ℕ) (v : Var) (e : Expr) (es : Exprs) → IsVar b.objects b.shapes slots v → SubsFit b.objects b.shapes slots (dims_at b.objects b.shapes v) (More e es) → IsThere b v
  there_of slots (var.Object k) e es h f = h
  there_of slots (var.Dummy k) e es h f = h
  there_of slots (var.Slot k) e es h f = absurd f

  fetch_fine : (slots site : ℕ) (v : Var) (c : Surroundings) (t : Store) (rest : ℤ → Process) → IsVar b.objects b.shapes slots v → dims_of b v ≡ [] → ((x : ℤ) → x ≡ held b c t v → Fine (rest x) t) → Fine (fetch (scalar_of b site v) c rest) t
  fetch_fine slots site (var.Slot k) c t rest there d h = h _ refl
  fetch_fine slots site (var.Object k) c t rest there d h = (inr (record { var = var.Object k; there = there; scalar = d; word = refl }), h _ refl)
  fetch_fine slots site (var.Dummy k) c t rest there d h = (inr (record { var = var.Dummy k; there = there; scalar = d; word = refl }), h _ refl)

  mutual
    expr_fine : (e : Expr) (slots : ℕ) (sc : Scope) (line : ℕ) (c : Surroundings) (t : Store) (rest : ℤ → Process) → ExprFits b.objects b.shapes slots e → Moment sc c t → AreOf (expr_spots sc e) → ((v : ℤ) → Value b c t e v → Fine (rest v) t) → Fine (expr b line e c rest) t
    expr_fine (Number n) slots sc line c t rest f m a h = h n refl
    expr_fine (Scalar at) slots sc line c t rest f m a h = fetch_fine slots at.site at.var c t rest f.0 f.1 h
    expr_fine (Element at Empty) slots sc line c t rest f m a h = absurd f
    expr_fine (Element at (More e es)) slots sc line c t rest f m a h =
        exprs_fine (More e es) slots (dims_at b.objects b.shapes at.var) sc line c t (λ vs. or_fail line (element (dims_of b at.var) vs) (λ n. Load b.path at.site (base_of b at.var + n) rest)) f.1 m (λ p i. a p (in_left p (exprs_spots sc (More e es)) (spot sc false at (More e es) ∷ []) i)) (λ vs vals.
        or_fail_fine line (element (dims_of b at.var) vs) (λ n. Load b.path at.site (base_of b at.var + n) rest) t (λ n q. (
          inl (spot sc false at (More e es), a (spot sc false at (More e es)) (in_right (spot sc false at (More e es)) (exprs_spots sc (More e es)) (spot sc false at (More e es) ∷ []) (inl refl)), refl, record { surroundings = c; store = t; there = there_of slots at.var e es f.0 f.1; fits = m; first = vals.0; others = vals.1; values = (vals.0, vals.1, vals.2, vals.3, refl); number = n; element = subst (λ us. element (dims_of b at.var) us ≡ Ok n) vals.4 q; word = refl }),
          h (t (base_of b at.var + n)) (vs, n, vals, q, refl),
        )))
    expr_fine (Un op x) slots sc line c t rest f m a h =
        expr_fine x slots sc line c t _ f m a (λ v val. or_fail_fine line (unary op v) rest t (λ w q. h w (v, val, q)))
    expr_fine (Bin op x y) slots sc line c t rest f m a h =
        expr_fine x slots sc line c t _ f.0 m (λ p i. a p (in_left p (expr_spots sc x) _ i)) (λ v val.
        expr_fine y slots sc line c t _ f.1 m (λ p i. a p (in_right p (expr_spots sc x) _ i)) (λ w wal.
        or_fail_fine line (binary op v w) rest t (λ z q. h z (v, w, val, wal, q))))

    exprs_fine : (es : Exprs) (slots : ℕ) (ds : List Dim) (sc : Scope) (line : ℕ) (c : Surroundings) (t : Store) (rest : List ℤ → Process) → SubsFit b.objects b.shapes slots ds es → Moment sc c t → AreOf (exprs_spots sc es) → ((vs : List ℤ) → Values b c t es vs → Fine (rest vs) t) → Fine (exprs b line es c rest) t
    exprs_fine Empty slots ds sc line c t rest f m a h = h [] refl
    exprs_fine (More e es) slots [] sc line c t rest f m a h = absurd f
    exprs_fine (More e es) slots (d ∷ ds) sc line c t rest f m a h =
        expr_fine e slots sc line c t _ f.0 m (λ p i. a p (in_left p (expr_spots sc e) _ i)) (λ v val.
        exprs_fine es slots ds sc line c t _ f.1 m (λ p i. a p (in_right p (expr_spots sc e) _ i)) (λ vs vals.
        h (v ∷ vs) (v, vs, val, vals, refl)))

  -- a statement under what is known, which it keeps
  abbrev pub Known : Type 1
  Known = Surroundings → Store → Type 0

  pub record KeptBy (x : Stmt) (P : Known) : Type 0 where
    pub stores : (c : Surroundings) (t : Store) (w : ℕ) (v : ℤ) → IsElementWord b w → P c t → P c (put t w v)
    pub sets : (c : Surroundings) (t : Store) (k : ℕ) (v : ℤ) → MaySet x k → P c t → P (with_slot c k v) t

  abbrev pub GoesOn : Work → Known → Type 0
  GoesOn runs P = (c : Surroundings) (t : Store) (rest : Surroundings → Process) → P c t → ((d : Surroundings) (t' : Store) → P d t' → Fine (rest d) t') → Fine (runs c rest) t

  branch_fine : (v : ℤ) (p q : Process) (t : Store) → Fine p t → Fine q t → Fine (branch v p q) t
  branch_fine v p q t h k = go (is_zero v)
    where
      go : (test : Bool) → Fine (if test then q else p) t
      go true = k
      go false = h

  controls_fine : (k : Control) (slots : ℕ) (sc : Scope) (c : Surroundings) (t : Store) (rest : ℤ → ℤ → ℕ → Process) → ControlFits b.objects b.shapes slots k → Moment sc c t → AreOf (control_spots sc k) → ((m1 m2 m3 : ℤ) (n : ℕ) → Value b c t k.from m1 → Value b c t k.to m2 → Value b c t k.by m3 → trips m1 m2 m3 ≡ Ok n → Fine (rest m1 m3 n) t) → Fine (controls b k c rest) t
  controls_fine k slots sc c t rest f m a h =
      expr_fine k.from slots sc k.line c t _ f.0 m (λ p i. a p (in_left p (expr_spots sc k.from) _ i)) (λ m1 v1.
      expr_fine k.to slots sc k.line c t _ f.1 m (λ p i. a p (in_right p (expr_spots sc k.from) _ (in_left p (expr_spots sc k.to) _ i))) (λ m2 v2.
      expr_fine k.by slots sc k.line c t _ f.2 m (λ p i. a p (in_right p (expr_spots sc k.from) _ (in_right p (expr_spots sc k.to) _ i))) (λ m3 v3.
      or_fail_fine k.line (trips m1 m2 m3) (λ n. rest m1 m3 n) t (λ n q. h m1 m2 m3 n v1 v2 v3 q))))

  -- the turns of a DO over slot `k`
  module _ (P : Known) (line k : ℕ) (again bump : Ref) (m1 m3 : ℤ) (body : Work) (count : ℕ) (is_again : again.var ≡ var.Slot k) (is_bump : bump.var ≡ var.Slot k)
      (sets : (c : Surroundings) (t : Store) (v : ℤ) → P c t → P (with_slot c k v) t)
      (body_fine : (j : ℕ) → j < count → GoesOn body (λ c t. P c t × (c.slots k ≡ in_turn m1 m3 j))) where
    raise_fine : (j : ℕ) (c : Surroundings) (t : Store) (rest : Surroundings → Process) → P c t → c.slots k ≡ in_turn m1 m3 j → ((d : Surroundings) → P d t → d.slots k ≡ in_turn m1 m3 (suc j) → Fine (rest d) t) → Fine (raise b line again bump m3 c rest) t
    raise_fine j c t rest p q h =
        subst (λ u. Fine (fetch (scalar_of b again.site u) c (λ x. or_fail line (binary Add x m3) (λ y. keep (scalar b bump) y c rest))) t) (sym is_again)
        (subst (λ u. Fine (or_fail line (binary Add (c.slots k) m3) (λ y. keep (scalar_of b bump.site u) y c rest)) t) (sym is_bump)
        (or_fail_fine line (binary Add (c.slots k) m3) (λ y. rest (with_slot c k y)) t (λ y e.
        let value : y ≡ in_turn m1 m3 (suc j) =
        (let s : y ≡ c.slots k +ℤ m3 = exact_of (c.slots k +ℤ m3) y e in
        let n = mul-pos-suc j m3 in
        omega (arith, ints)) in
        h (with_slot c k y) (sets c t y p) (put_same c.slots k y ∙ value))))

    turns_fine : (n j : ℕ) → n + j ≡ count → (c : Surroundings) (t : Store) (rest : Surroundings → Process) → P c t → c.slots k ≡ in_turn m1 m3 j → ((d : Surroundings) (t' : Store) → P d t' → Fine (rest d) t') → Fine (turns n body (raise b line again bump m3) c rest) t
    turns_fine zero j e c t rest p q h = h c t p
    turns_fine (suc n) j e c t rest p q h =
        body_fine j (omega (arith, e)) c t _ (p, q) (λ d t' p'.
        raise_fine j d t' _ p'.0 p'.1 (λ d' p'' q'.
        turns_fine n (suc j) (omega (arith, e)) d' t' rest p'' q' h))

  module _ (slots : ℕ) where
    assign_fine : (line : ℕ) (at : Ref) (subs : Exprs) (value : Expr) (sc : Scope) (P : Known) → ((c : Surroundings) (t : Store) → P c t → Moment sc c t)
        → ((c : Surroundings) (t : Store) (w : ℕ) (v : ℤ) → IsElementWord b w → P c t → P c (put t w v))
        → ((c : Surroundings) (t : Store) (k : ℕ) (v : ℤ) → at.var ≡ var.Slot k → P c t → P (with_slot c k v) t)
        → SpotFits b.objects b.shapes slots at.var subs → StoresOnlySlots slots at.var subs → ExprFits b.objects b.shapes slots value
        → AreOf (exprs_spots sc subs ++ (expr_spots sc value ++ target_spots sc at subs))
        → GoesOn (λ c rest. located b line at subs c (λ cell. expr b line value c (λ v. keep cell v c rest))) P
    assign_fine line at Empty value sc P m stores sets f private g a c t rest p h =
        expr_fine value slots sc line c t (λ v. keep (scalar b at) v c rest) g (m c t p) (λ p i. a p (in_left p (expr_spots sc value) [] i)) (λ v val.
        subst (λ u. Fine (keep (scalar_of b at.site u) v c rest) t) (sym private.1) (h (with_slot c private.0 v) t (sets c t private.0 v private.1 p)))
    assign_fine line at (More e es) value sc P m stores sets f private g a c t rest p h =
        let own : Spot = spot sc true at (More e es) in
        let before : List Spot = exprs_spots sc (More e es) in
        exprs_fine (More e es) slots (dims_at b.objects b.shapes at.var) sc line c t
        (λ vs. or_fail line (element (dims_of b at.var) vs) (λ n. expr b line value c (λ v. Save b.path at.site (base_of b at.var + n) v (rest c))))
        f.1 (m c t p) (λ p i. a p (in_left p before (expr_spots sc value ++ (own ∷ [])) i)) (λ vs vals.
        or_fail_fine line (element (dims_of b at.var) vs) (λ n. expr b line value c (λ v. Save b.path at.site (base_of b at.var + n) v (rest c))) t (λ n q.
        expr_fine value slots sc line c t (λ v. Save b.path at.site (base_of b at.var + n) v (rest c)) g (m c t p) (λ p i. a p (in_right p before _ (in_left p (expr_spots sc value) (own ∷ []) i))) (λ v val. (
          (own, a own (in_right own before _ (in_right own (expr_spots sc value) (own ∷ []) (inl refl))), refl, refl, record { surroundings = c; store = t; there = there_of slots at.var e es f.0 f.1; fits = m c t p; first = vals.0; others = vals.1; values = (vals.0, vals.1, vals.2, vals.3, refl); number = n; element = subst (λ us. element (dims_of b at.var) us ≡ Ok n) vals.4 q; word = refl }),
          h c (put t (base_of b at.var + n) v) (stores c t (base_of b at.var + n) v
              (record { var = at.var; there = there_of slots at.var e es f.0 f.1; first = vals.0; others = vals.1; number = n; element = subst (λ us. element (dims_of b at.var) us ≡ Ok n) vals.4 q; word = refl }) p),
        ))))

  module _ (calls : Calls) (own_slots : ℕ) where
    turn_fits : (sc : Scope) (k : Control) (first : Ref) (j : ℕ) (x : ℤ) (c : Surroundings) (t : Store) → first.var ≡ var.Slot j → Lies (range_of k) x → c.slots j ≡ x → Moment sc c t → Moment (inside sc (index_of k first)) c t
    turn_fits sc k first j x c t is lies q m = record {
      own = m.own;
      ranges = λ i. go i;
      told = m.told;
      fixed = m.fixed;
    }
      where
        go : (i : Index) → IsIn i (index_of k first ∷ sc.indexes) → Lies i.range (held b c t i.var)
        go i (inl e) = subst (λ i. Lies i.range (held b c t i.var)) (sym e) (subst (λ u. Lies (range_of k) (held b c t u)) (sym is) (subst (λ y. Lies (range_of k) y) (sym q) lies))
        go i (inr h) = m.ranges i h

    pub stmt_fine : (x : Stmt) (sc : Scope) (P : Known) → ((c : Surroundings) (t : Store) → P c t → Moment sc c t) → KeptBy x P → BodyFits b own_slots x → AreOf (spots sc x) → GoesOn (stmt calls b x) P
    stmt_fine Skip sc P m k f a c t rest p h = h c t p
    stmt_fine (Seq x y) sc P m k f a c t rest p h =
        stmt_fine x sc P m (record { stores = k.stores; sets = λ c t j v s. k.sets c t j v (inl s) }) f.0 (λ p i. a p (in_left p (spots sc x) (spots sc y) i)) c t (λ d. stmt calls b y d rest) p (λ d t' p'.
        stmt_fine y sc P m (record { stores = k.stores; sets = λ c t j v s. k.sets c t j v (inr s) }) f.1 (λ p i. a p (in_right p (spots sc x) (spots sc y) i)) d t' rest p' h)
    stmt_fine (Assign line to value) sc P m k f a c t rest p h =
        assign_fine own_slots line to.at to.subs value sc P m k.stores k.sets f.0 f.1 f.2 a c t rest p h
    stmt_fine (If arms) sc P m k f a c t rest p h = stmt_fine arms sc P m (record { stores = k.stores; sets = k.sets }) f a c t rest p h
    stmt_fine (Arm line cond body other) sc P m k f a c t rest p h =
        expr_fine cond own_slots sc line c t (λ v. branch v (stmt calls b body c rest) (stmt calls b other c rest)) f.0 (m c t p) (λ p i. a p (in_left p (expr_spots sc cond) (spots sc body ++ spots sc other) i)) (λ v val.
        branch_fine v (stmt calls b body c rest) (stmt calls b other c rest) t
        (stmt_fine body sc P m (record { stores = k.stores; sets = λ c t j v s. k.sets c t j v (inl s) }) f.1 (λ p i. a p (in_right p (expr_spots sc cond) (spots sc body ++ spots sc other) (in_left p (spots sc body) (spots sc other) i))) c t rest p h)
        (stmt_fine other sc P m (record { stores = k.stores; sets = λ c t j v s. k.sets c t j v (inr s) }) f.2 (λ p i. a p (in_right p (expr_spots sc cond) (spots sc body ++ spots sc other) (in_right p (spots sc body) (spots sc other) i))) c t rest p h))
    stmt_fine (Do control first body again bump) sc P m k f a c t rest p h =
        let j : ℕ = f.1.0 in
        let is : first.var ≡ var.Slot j = f.1.1 in
        controls_fine control own_slots sc c t (λ m1 m3 n. keep (scalar b first) m1 c (λ d. turns n (stmt calls b body) (raise b control.line again bump m3) d rest)) f.0 (m c t p) (λ p i. a p (in_left p (control_spots sc control) (spots (inside sc (index_of control first)) body) i)) (λ m1 m2 m3 n v1 v2 v3 e.
        subst (λ u. Fine (keep (scalar_of b first.site u) m1 c (λ d. turns n (stmt calls b body) (raise b control.line again bump m3) d rest)) t) (sym is)
        (turns_fine P control.line j again bump m1 m3 (stmt calls b body) n (f.2 ∙ is) (f.3 ∙ is) (λ c t v. k.sets c t j v (inl is))
        (λ i lt. stmt_fine body (inside sc (index_of control first)) (λ c t. P c t × (c.slots j ≡ in_turn m1 m3 i))
        (λ c' t' p'. turn_fits sc control first j (in_turn m1 m3 i) c' t' is (range_lies b c t control m1 m2 m3 n i v1 v2 v3 e lt) p'.1 (m c' t' p'.0))
        (record {
          stores = λ c t w v s p'. (k.stores c t w v s p'.0, p'.1);
          sets = λ c t i' v s p'. (k.sets c t i' v (inr s) p'.0, put_other c.slots i' v j (λ same. f.4 i' (is ∙ ap var.Slot same) s) ∙ p'.1);
        })
        f.5 (λ p i. a p (in_right p (control_spots sc control) (spots (inside sc (index_of control first)) body) i)))
        n 0 (omega arith) (with_slot c j m1) t rest (k.sets c t j m1 (inl is) p) (put_same c.slots j m1 ∙ (omega (arith, ints))) h))
    stmt_fine (Doall control number slots body) sc P m k f a c t rest p h = absurd f
    stmt_fine (Call line number u actuals) sc P m k f a c t rest p h = absurd f
    stmt_fine (Print line items) sc P m k f a c t rest p h = absurd f
    stmt_fine (Read line targets) sc P m k f a c t rest p h = absurd f
