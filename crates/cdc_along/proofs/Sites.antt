-- How often a site stands in statements.
use Rattle.std.proofs.Common.{◌≡◌, ℕ, zero, suc, ◌+◌, ◌≤◌, ◌==◌, Bool, true, false, if◌then◌else◌, List, [], ◌∷◌, ◌++◌, inl, inr, refl, sym, ap, ap₂, ◌∙◌, subst, arith}
use Rattle.std.specs.Prelude.{slice_get}
use Rattle.std.proofs.lemmas.Bool.{eq-eqb}
use Rattle.cdc_prog.specs.declared.expr.Ref.{Ref}
use Rattle.cdc_prog.specs.declared.affine.Scope.{Scope}
use Rattle.cdc_prog.specs.Plain.{Expr, Number, Scalar, Element, Un, Bin, Exprs, Empty, More, Target, Item, Text, Value, Actual, Whole, Copy, Control, Stmt, Skip, Seq, Assign, If, Arm, Do, Doall, Call, Print, Read, ProgramUnit, Program}
use Rattle.cdc_prog.specs.Units.{body_in, body_of}
use Rattle.cdc_prog.specs.Dependence.{Spot, spot, index_of, inside}
use Rattle.cdc_prog.specs.Iterations.{IsIn}
use Rattle.cdc_path.specs.References.{expr_refs, exprs_refs, store_ref, controls_refs, items_refs, reads_refs, actuals_refs, inside_doall, refs, outside}
use Rattle.cdc_path.specs.Covers.{Covers, straight, HasRun}
use Rattle.cdc_along.specs.Sites.{times_at, times_in, SitesStandOnce}

one_more : (b : Bool) (m n k : ℕ) → m ≡ n + k → (if b then suc m else m) ≡ (if b then suc n else n) + k
one_more true m n k e = omega (arith, e)
one_more false m n k e = e

pub times_append : (site : ℕ) (xs ys : List Spot) → times_at site (xs ++ ys) ≡ times_at site xs + times_at site ys
times_append site [] ys = omega arith
times_append site (x ∷ xs) ys = one_more (x.at.site == site) (times_at site (xs ++ ys)) (times_at site xs) (times_at site ys) (times_append site xs ys)

pub stands_at : (site : ℕ) (q : Spot) (qs : List Spot) → q.at.site ≡ site → times_at site (q ∷ qs) ≡ suc (times_at site qs)
stands_at site q qs e = ap (λ b. if b then suc (times_at site qs) else times_at site qs) (eq-eqb q.at.site site e)

at_least : (site : ℕ) (q : Spot) (qs : List Spot) → times_at site qs ≤ times_at site (q ∷ qs)
at_least site q qs = go (q.at.site == site)
  where
    go : (b : Bool) → times_at site qs ≤ (if b then suc (times_at site qs) else times_at site qs)
    go true = omega arith
    go false = omega arith

pub member_stands : (q : Spot) (qs : List Spot) → IsIn q qs → 1 ≤ times_at q.at.site qs
member_stands q [] h = absurd h
member_stands q (x ∷ xs) (inl e) = omega (arith, stands_at q.at.site x xs (ap (λ (y : Spot). y.at.site) (sym e)))
member_stands q (x ∷ xs) (inr h) = omega (arith, at_least q.at.site x xs, member_stands q xs h)

-- ---- scopes do not count
module _ (site : ℕ) (sc sd : Scope) where
  both : (xs ys xs' ys' : List Spot) → times_at site xs ≡ times_at site xs' → times_at site ys ≡ times_at site ys' → times_at site (xs ++ ys) ≡ times_at site (xs' ++ ys')
  both xs ys xs' ys' e f = times_append site xs ys ∙ ap₂ (λ a b. a + b) e f ∙ sym (times_append site xs' ys')

  mutual
    expr_times : (e : Expr) → times_at site (expr_refs sc e) ≡ times_at site (expr_refs sd e)
    expr_times (Number n) = refl
    expr_times (Scalar at) = refl
    expr_times (Element at subs) = both (exprs_refs sc subs) (spot sc false at subs ∷ []) (exprs_refs sd subs) (spot sd false at subs ∷ []) (exprs_times subs) refl
    expr_times (Un op a) = expr_times a
    expr_times (Bin op a b) = both (expr_refs sc a) (expr_refs sc b) (expr_refs sd a) (expr_refs sd b) (expr_times a) (expr_times b)

    exprs_times : (es : Exprs) → times_at site (exprs_refs sc es) ≡ times_at site (exprs_refs sd es)
    exprs_times Empty = refl
    exprs_times (More e es) = both (expr_refs sc e) (exprs_refs sc es) (expr_refs sd e) (exprs_refs sd es) (expr_times e) (exprs_times es)

  controls_times : (k : Control) → times_at site (controls_refs sc k) ≡ times_at site (controls_refs sd k)
  controls_times k = both (expr_refs sc k.from) _ (expr_refs sd k.from) _ (expr_times k.from) (both (expr_refs sc k.to) (expr_refs sc k.by) (expr_refs sd k.to) (expr_refs sd k.by) (expr_times k.to) (expr_times k.by))

  items_times : (shown : List Item) → times_at site (items_refs sc shown) ≡ times_at site (items_refs sd shown)
  items_times [] = refl
  items_times (Text number ∷ more) = items_times more
  items_times (Value value ∷ more) = both (expr_refs sc value) (items_refs sc more) (expr_refs sd value) (items_refs sd more) (expr_times value) (items_times more)

  reads_times : (ts : List Target) → times_at site (reads_refs sc ts) ≡ times_at site (reads_refs sd ts)
  reads_times [] = refl
  reads_times (t ∷ more) =
      both (exprs_refs sc t.subs) (store_ref sc t.at t.subs ++ reads_refs sc more) (exprs_refs sd t.subs) (store_ref sd t.at t.subs ++ reads_refs sd more) (exprs_times t.subs)
      (both (store_ref sc t.at t.subs) (reads_refs sc more) (store_ref sd t.at t.subs) (reads_refs sd more) refl (reads_times more))

  actuals_times : (xs : List Actual) → times_at site (actuals_refs sc xs) ≡ times_at site (actuals_refs sd xs)
  actuals_times [] = refl
  actuals_times (Whole v ∷ more) = actuals_times more
  actuals_times (Copy r value ∷ more) =
      both (expr_refs sc value) (store_ref sc r Empty ++ actuals_refs sc more) (expr_refs sd value) (store_ref sd r Empty ++ actuals_refs sd more) (expr_times value)
      (both (store_ref sc r Empty) (actuals_refs sc more) (store_ref sd r Empty) (actuals_refs sd more) refl (actuals_times more))

pub refs_times : (site : ℕ) (sc sd : Scope) (x : Stmt) → times_at site (refs sc x) ≡ times_at site (refs sd x)
refs_times site sc sd Skip = refl
refs_times site sc sd (Seq a b) = both site sc sd (refs sc a) (refs sc b) (refs sd a) (refs sd b) (refs_times site sc sd a) (refs_times site sc sd b)
refs_times site sc sd (Assign line t value) =
    both site sc sd (exprs_refs sc t.subs) (expr_refs sc value ++ store_ref sc t.at t.subs) (exprs_refs sd t.subs) (expr_refs sd value ++ store_ref sd t.at t.subs) (exprs_times site sc sd t.subs)
    (both site sc sd (expr_refs sc value) (store_ref sc t.at t.subs) (expr_refs sd value) (store_ref sd t.at t.subs) (expr_times site sc sd value) refl)
refs_times site sc sd (If arms) = refs_times site sc sd arms
refs_times site sc sd (Arm line cond body other) =
    both site sc sd (expr_refs sc cond) (refs sc body ++ refs sc other) (expr_refs sd cond) (refs sd body ++ refs sd other) (expr_times site sc sd cond)
    (both site sc sd (refs sc body) (refs sc other) (refs sd body) (refs sd other) (refs_times site sc sd body) (refs_times site sc sd other))
refs_times site sc sd (Do k first body again bump) =
    let raised = λ (s : Scope). spot s false again Empty ∷ spot s true bump Empty ∷ [] in
    let inner = λ (s : Scope). refs (inside s (index_of k first)) body in
    both site sc sd (controls_refs sc k) (store_ref sc first Empty ++ (inner sc ++ raised sc)) (controls_refs sd k) (store_ref sd first Empty ++ (inner sd ++ raised sd)) (controls_times site sc sd k)
    (both site sc sd (store_ref sc first Empty) (inner sc ++ raised sc) (store_ref sd first Empty) (inner sd ++ raised sd) refl
    (both site sc sd (inner sc) (raised sc) (inner sd) (raised sd) (refs_times site (inside sc (index_of k first)) (inside sd (index_of k first)) body) refl))
refs_times site sc sd (Doall k number slots body) =
    both site sc sd (controls_refs sc k) (refs (inside_doall sc k) body) (controls_refs sd k) (refs (inside_doall sd k) body) (controls_times site sc sd k) (refs_times site (inside_doall sc k) (inside_doall sd k) body)
refs_times site sc sd (Call line number unit actuals) = actuals_times site sc sd actuals
refs_times site sc sd (Print line items) = items_times site sc sd items
refs_times site sc sd (Read line targets) = reads_times site sc sd targets

pub do_times : (site : ℕ) (k : Control) (first : Ref) (body : Stmt) (again bump : Ref)
    → times_at site (controls_refs outside k) + (times_at site (refs outside body) + times_at site (spot outside false again Empty ∷ [])) ≤ times_at site (refs outside (Do k first body again bump))
do_times site k first body again bump =
    let inner = refs (inside outside (index_of k first)) body in
    let raised = spot outside false again Empty ∷ spot outside true bump Empty ∷ [] in
    let a = times_append site (controls_refs outside k) (store_ref outside first Empty ++ (inner ++ raised)) in
    let b = at_least site (spot outside true first Empty) (inner ++ raised) in
    let c = times_append site inner raised in
    let d = times_append site (spot outside false again Empty ∷ []) (spot outside true bump Empty ∷ []) in
    omega (arith, a, b, c, d, refs_times site (inside outside (index_of k first)) outside body)

pub doall_times : (site : ℕ) (k : Control) (number slots : ℕ) (body : Stmt) → times_at site (refs outside (Doall k number slots body)) ≡ times_at site (controls_refs outside k) + times_at site (refs outside body)
doall_times site k number slots body = times_append site (controls_refs outside k) (refs (inside_doall outside k) body) ∙ ap (λ n. times_at site (controls_refs outside k) + n) (refs_times site (inside_doall outside k) outside body)

-- ---- where a covered read stands
pub covered_stands : (site : ℕ) (rs : List Spot) → Covers site rs → 1 ≤ times_at site rs
covered_stands site rs h =
    let read = stands_at site h.read h.after h.site_is in
    let a = times_append site h.before (h.cover ∷ (h.between ++ (h.read ∷ h.after))) in
    let b = at_least site h.cover (h.between ++ (h.read ∷ h.after)) in
    let c = times_append site h.between (h.read ∷ h.after) in
    subst (λ l. 1 ≤ times_at site l) (sym h.in_order) (omega (arith, a, b, c, read))

pub straight_within : (site : ℕ) (x : Stmt) → times_at site (straight x) ≤ times_at site (refs outside x)
straight_within site Skip = omega arith
straight_within site (Assign line t value) = omega arith
straight_within site (If arms) = omega arith
straight_within site (Arm line cond body other) = omega arith
straight_within site (Do k first body again bump) = omega arith
straight_within site (Doall k number slots body) = omega arith
straight_within site (Call line number unit actuals) = omega arith
straight_within site (Print line items) = omega arith
straight_within site (Read line targets) = omega arith
straight_within site (Seq (Assign line t value) b) =
    omega (arith, times_append site (refs outside (Assign line t value)) (straight b), times_append site (refs outside (Assign line t value)) (refs outside b), straight_within site b)
straight_within site (Seq (Print line items) b) =
    omega (arith, times_append site (refs outside (Print line items)) (straight b), times_append site (refs outside (Print line items)) (refs outside b), straight_within site b)
straight_within site (Seq (Read line targets) b) =
    omega (arith, times_append site (refs outside (Read line targets)) (straight b), times_append site (refs outside (Read line targets)) (refs outside b), straight_within site b)
straight_within site (Seq Skip b) = omega arith
straight_within site (Seq (Seq x y) b) = omega arith
straight_within site (Seq (If arms) b) = omega arith
straight_within site (Seq (Arm line cond body other) b) = omega arith
straight_within site (Seq (Do k first body again bump) b) = omega arith
straight_within site (Seq (Doall k number slots body) b) = omega arith
straight_within site (Seq (Call line number unit actuals) b) = omega arith

pub run_stands : (site : ℕ) (x : Stmt) → HasRun (Covers site) x → 1 ≤ times_at site (refs outside x)
run_stands site (Seq a b) (inl h) = omega (arith, covered_stands site (straight (Seq a b)) h, straight_within site (Seq a b))
run_stands site (Seq a b) (inr (inl h)) = omega (arith, run_stands site a h, times_append site (refs outside a) (refs outside b))
run_stands site (Seq a b) (inr (inr h)) = omega (arith, run_stands site b h, times_append site (refs outside a) (refs outside b))
run_stands site (If arms) h = run_stands site arms h
run_stands site (Arm line cond body other) (inl h) =
    omega (arith, run_stands site body h, times_append site (expr_refs outside cond) (refs outside body ++ refs outside other), times_append site (refs outside body) (refs outside other))
run_stands site (Arm line cond body other) (inr h) =
    omega (arith, run_stands site other h, times_append site (expr_refs outside cond) (refs outside body ++ refs outside other), times_append site (refs outside body) (refs outside other))
run_stands site (Do k first body again bump) h = omega (arith, run_stands site body h, do_times site k first body again bump)
run_stands site (Doall k number slots body) h = omega (arith, run_stands site body h, doall_times site k number slots body)
run_stands site Skip h = absurd h
run_stands site (Assign line t value) h = absurd h
run_stands site (Call line number unit actuals) h = absurd h
run_stands site (Print line items) h = absurd h
run_stands site (Read line targets) h = absurd h

-- ---- the one place of a site
-- a reference whose site stands once in a list stands in one place
pub one_place : (site : ℕ) (xs zs : List Spot) (a z : Spot) (ys ws : List Spot) → xs ++ (a ∷ ys) ≡ zs ++ (z ∷ ws) → a.at.site ≡ site → z.at.site ≡ site → times_at site (xs ++ (a ∷ ys)) ≤ 1 → (xs ≡ zs) × (a ≡ z)
one_place site [] [] a z ys ws e f g once = (refl, (let same : a ∷ ys ≡ z ∷ ws = e in cc))
one_place site [] (y ∷ zs) a z ys ws e f g once =
    let rest : ys ≡ zs ++ (z ∷ ws) = (let same : a ∷ ys ≡ y ∷ (zs ++ (z ∷ ws)) = e in cc) in
    absurd (omega (arith, once, stands_at site a ys f, ap (times_at site) rest, times_append site zs (z ∷ ws), stands_at site z ws g))
one_place site (x ∷ xs) [] a z ys ws e f g once =
    let first : x ≡ z = (let same : x ∷ (xs ++ (a ∷ ys)) ≡ z ∷ ws = e in cc) in
    absurd (omega (arith, once, stands_at site x (xs ++ (a ∷ ys)) (ap (λ (q : Spot). q.at.site) first ∙ g), times_append site xs (a ∷ ys), stands_at site a ys f))
one_place site (x ∷ xs) (y ∷ zs) a z ys ws e f g once =
    let first : x ≡ y = (let same : x ∷ (xs ++ (a ∷ ys)) ≡ y ∷ (zs ++ (z ∷ ws)) = e in cc) in
    let rest : xs ++ (a ∷ ys) ≡ zs ++ (z ∷ ws) = (let same : x ∷ (xs ++ (a ∷ ys)) ≡ y ∷ (zs ++ (z ∷ ws)) = e in cc) in
    let (front, same) = one_place site xs zs a z ys ws rest f g (omega (arith, once, at_least site x (xs ++ (a ∷ ys)))) in
    (ap₂ (λ (q : Spot) (qs : List Spot). q ∷ qs) first front, same)

unit_times : (site : ℕ) (us : List ProgramUnit) (u : ℕ) → times_at site (refs outside (body_in (slice_get us u))) ≤ times_in site us
unit_times site [] u = omega arith
unit_times site (x ∷ us) zero = omega arith
unit_times site (x ∷ us) (suc u) = omega (arith, unit_times site us u)

-- a site stands in one unit
pub one_unit : (site : ℕ) (us : List ProgramUnit) (u v : ℕ) → times_in site us ≤ 1 → 1 ≤ times_at site (refs outside (body_in (slice_get us u))) → 1 ≤ times_at site (refs outside (body_in (slice_get us v))) → u ≡ v
one_unit site [] u v once a b = absurd (omega (arith, a))
one_unit site (x ∷ us) zero zero once a b = refl
one_unit site (x ∷ us) zero (suc v) once a b = absurd (omega (arith, once, a, b, unit_times site us v))
one_unit site (x ∷ us) (suc u) zero once a b = absurd (omega (arith, once, a, b, unit_times site us u))
one_unit site (x ∷ us) (suc u) (suc v) once a b = ap suc (one_unit site us u v (omega (arith, once)) a b)

pub unit_once : (p : Program) (site u : ℕ) → SitesStandOnce p → 1 ≤ site → times_at site (refs outside (body_of p u)) ≤ 1
unit_once p site u once some = omega (arith, unit_times site p.units u, once site some)
