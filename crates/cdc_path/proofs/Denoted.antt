-- The objects that references of a resolved program stand for are its objects.
use Rattle.std.proofs.Common.{◌≡◌, inl, inr, ℕ, true, false, ◌<◌, List, [], ◌∷◌, ◌++◌, map, length, slice_get, refl, sym, ap, ◌∙◌, subst, arith}
use Rattle.std.specs.List.{All}
use Rattle.cdc_prog.specs.declared.affine.Scope.{Scope}
use Rattle.cdc_prog.specs.declared.expr.Var.{Var}
use Rattle.cdc_prog.specs.declared.expr.Var.TheVariants as var
use Rattle.cdc_prog.specs.declared.program.Dim.{Dim}
use Rattle.cdc_prog.specs.declared.program.Object.{Object}
use Rattle.cdc_prog.specs.declared.program.Marks.{Marks}
use Rattle.cdc_prog.specs.Plain.{Expr, Number, Scalar, Element, Un, Bin, Exprs, Empty, More, Target, Item, Text, Value, Actual, Whole, Copy, Control, Stmt, Skip, Seq, Assign, If, Arm, Do, Doall, Call, Print, Read, Program}
use Rattle.cdc_prog.specs.Data.{Binding, object_of, dims_of, dims_in}
use Rattle.cdc_prog.specs.Dependence.{Spot, spot, index_of, inside}
use Rattle.cdc_prog.specs.Iterations.{IsIn}
use Rattle.cdc_prog.specs.Paths.{passed_var, IsUnder, Denotes}
use Rattle.cdc_prog.specs.Resolved.{AreBound, extents, IsVar, ExprFits, SubsFit, SpotFits, TargetFits, ControlFits, ItemFits, ActualsFit, StmtFits, IsResolved}
use Rattle.cdc_prog.specs.Units.{shapes_in, body_of, binding_of}
use Rattle.cdc_prog.specs.Uses.{HasCall}
use Rattle.cdc_prog.proofs.Lists.{all_first, all_rest}
use Rattle.cdc_prog.proofs.Words.{bound_to}
use Rattle.cdc_path.specs.declared.point.Point.{Point}
use Rattle.cdc_path.specs.declared.point.Point.TheVariants.{Entry, Exit}
use Rattle.cdc_path.specs.References.{expr_refs, exprs_refs, controls_refs, items_refs, reads_refs, actuals_refs, store_ref, inside_doall, refs, outside, Touches}
use Rattle.cdc_path.specs.Marks.{IsWrittenList, AreMarks}
use Rattle.cdc_path.proofs.OneMarks.{member_at, each_list}

-- P holds of each member
abbrev Each : {X : Type 0} → (X → Type 0) → List X → Type 0
Each {X} P xs = (x : X) → IsIn x xs → P x

each_none : {X : Type 0} (P : X → Type 0) → Each P []
each_none P x m = absurd m

each_one : {X : Type 0} (P : X → Type 0) (a : X) → P a → Each P (a ∷ [])
each_one P a h x (inl e) = subst P (sym e) h
each_one P a h x (inr m) = absurd m

each_both : {X : Type 0} (P : X → Type 0) (xs ys : List X) → Each P xs → Each P ys → Each P (xs ++ ys)
each_both P [] ys f g x m = g x m
each_both P (a ∷ xs) ys f g x (inl e) = f x (inl e)
each_both P (a ∷ xs) ys f g x (inr m) = each_both P xs ys (λ y n. f y (inr n)) g x m

-- ---- references
module _ (os : List Object) (shapes : List (List Dim)) where
  -- a variable that is none of these objects and dummies is a slot
  abbrev IsKnown : Var → Type 0
  IsKnown (var.Object k) = k < length os
  IsKnown (var.Dummy k) = k < length shapes
  IsKnown (var.Slot k) = Unit {0}

  abbrev AtKnown : Spot → Type 0
  AtKnown q = IsKnown q.at.var

  known : (slots : ℕ) (v : Var) → IsVar os shapes slots v → IsKnown v
  known slots (var.Object k) is = is
  known slots (var.Dummy k) is = is
  known slots (var.Slot k) is = tt

  mutual
    expr_known : (slots : ℕ) (sc : Scope) (e : Expr) → ExprFits os shapes slots e → Each AtKnown (expr_refs sc e)
    expr_known slots sc (Number n) f = each_none AtKnown
    expr_known slots sc (Scalar r) f = each_one AtKnown _ (known slots r.var f.0)
    expr_known slots sc (Element r Empty) f = absurd f
    expr_known slots sc (Element r (More e es)) f = each_both AtKnown _ _ (exprs_known slots sc _ (More e es) f.1) (each_one AtKnown _ (known slots r.var f.0))
    expr_known slots sc (Un op a) f = expr_known slots sc a f
    expr_known slots sc (Bin op a b) f = each_both AtKnown _ _ (expr_known slots sc a f.0) (expr_known slots sc b f.1)

    exprs_known : (slots : ℕ) (sc : Scope) (dims : List Dim) (es : Exprs) → SubsFit os shapes slots dims es → Each AtKnown (exprs_refs sc es)
    exprs_known slots sc [] Empty f = each_none AtKnown
    exprs_known slots sc [] (More e es) f = absurd f
    exprs_known slots sc (d ∷ ds) Empty f = absurd f
    exprs_known slots sc (d ∷ ds) (More e es) f = each_both AtKnown _ _ (expr_known slots sc e f.0) (exprs_known slots sc ds es f.1)

  -- the subscripts of what is stored into, and its variable
  subs_known : (slots : ℕ) (sc : Scope) (v : Var) (subs : Exprs) → SpotFits os shapes slots v subs → Each AtKnown (exprs_refs sc subs)
  subs_known slots sc v Empty f = each_none AtKnown
  subs_known slots sc v (More e es) f = exprs_known slots sc _ (More e es) f.1

  stored_known : (slots : ℕ) (v : Var) (subs : Exprs) → SpotFits os shapes slots v subs → IsKnown v
  stored_known slots v Empty f = known slots v f.0
  stored_known slots v (More e es) f = known slots v f.0

  controls_known : (slots : ℕ) (sc : Scope) (k : Control) → ControlFits os shapes slots k → Each AtKnown (controls_refs sc k)
  controls_known slots sc k f = each_both AtKnown _ _ (expr_known slots sc k.from f.0) (each_both AtKnown _ _ (expr_known slots sc k.to f.1) (expr_known slots sc k.by f.2))

  items_known : (slots texts : ℕ) (sc : Scope) (items : List Item) → All (ItemFits os shapes slots texts) items → Each AtKnown (items_refs sc items)
  items_known slots texts sc [] f = each_none AtKnown
  items_known slots texts sc (Text number ∷ more) f = items_known slots texts sc more (all_rest (ItemFits os shapes slots texts) (Text number) more f)
  items_known slots texts sc (Value value ∷ more) f =
      each_both AtKnown _ _ (expr_known slots sc value (all_first (ItemFits os shapes slots texts) (Value value) more f)) (items_known slots texts sc more (all_rest (ItemFits os shapes slots texts) (Value value) more f))

  reads_known : (slots : ℕ) (sc : Scope) (ts : List Target) → All (TargetFits os shapes slots) ts → Each AtKnown (reads_refs sc ts)
  reads_known slots sc [] f = each_none AtKnown
  reads_known slots sc (t ∷ ts) f =
      let here : TargetFits os shapes slots t = all_first (TargetFits os shapes slots) t ts f in
      each_both AtKnown _ _ (subs_known slots sc t.at.var t.subs here)
      (each_both AtKnown (store_ref sc t.at t.subs) _ (each_one AtKnown (spot sc true t.at t.subs) (stored_known slots t.at.var t.subs here)) (reads_known slots sc ts (all_rest (TargetFits os shapes slots) t ts f)))

  actuals_known : (sc : Scope) (wanted : List (List Dim)) (actuals : List Actual) → ActualsFit os shapes wanted actuals → Each AtKnown (actuals_refs sc actuals)
  actuals_known sc [] [] f = each_none AtKnown
  actuals_known sc [] (a ∷ more) f = absurd f
  actuals_known sc (w ∷ wanted) [] f = absurd f
  actuals_known sc (w ∷ wanted) (Whole v ∷ more) f = actuals_known sc wanted more f.1
  actuals_known sc (w ∷ wanted) (Copy r value ∷ more) f =
      each_both AtKnown _ _ (expr_known 0 sc value f.0.2) (each_both AtKnown (store_ref sc r Empty) _ (each_one AtKnown (spot sc true r Empty) (known 0 r.var f.0.1.0)) (actuals_known sc wanted more f.1))

module _ (p : Program) (ranks : ℕ → ℕ) where
  stmt_known : (rank : ℕ) (shapes : List (List Dim)) (slots : ℕ) (sc : Scope) (s : Stmt) → StmtFits p ranks rank shapes slots s → Each (AtKnown p.objects shapes) (refs sc s)
  stmt_known rank shapes slots sc Skip f = each_none (AtKnown p.objects shapes)
  stmt_known rank shapes slots sc (Seq a b) f = each_both (AtKnown p.objects shapes) _ _ (stmt_known rank shapes slots sc a f.0) (stmt_known rank shapes slots sc b f.1)
  stmt_known rank shapes slots sc (Assign line t value) f =
      let P = AtKnown p.objects shapes in
      each_both P _ _ (subs_known p.objects shapes slots sc t.at.var t.subs f.0)
      (each_both P _ _ (expr_known p.objects shapes slots sc value f.1) (each_one P (spot sc true t.at t.subs) (stored_known p.objects shapes slots t.at.var t.subs f.0)))
  stmt_known rank shapes slots sc (If arms) f = stmt_known rank shapes slots sc arms f
  stmt_known rank shapes slots sc (Arm line cond body other) f =
      let P = AtKnown p.objects shapes in
      each_both P _ _ (expr_known p.objects shapes slots sc cond f.0) (each_both P _ _ (stmt_known rank shapes slots sc body f.1) (stmt_known rank shapes slots sc other f.2))
  stmt_known rank shapes slots sc (Do k first body again bump) f =
      let P = AtKnown p.objects shapes in
      let K = IsKnown p.objects shapes in
      let own : K first.var = known p.objects shapes slots first.var f.1.0 in
      each_both P _ _ (controls_known p.objects shapes slots sc k f.0)
      (each_both P (store_ref sc first Empty) _ (each_one P (spot sc true first Empty) own)
      (each_both P _ _ (stmt_known rank shapes slots (inside sc (index_of k first)) body f.4)
      (each_both P (spot sc false again Empty ∷ []) (spot sc true bump Empty ∷ []) (each_one P (spot sc false again Empty) (subst K (sym f.2) own)) (each_one P (spot sc true bump Empty) (subst K (sym f.3) own)))))
  stmt_known rank shapes slots sc (Doall k number own body) f =
      each_both (AtKnown p.objects shapes) _ _ (controls_known p.objects shapes 0 sc k f.1) (stmt_known rank shapes own (inside_doall sc k) body f.4)
  stmt_known rank shapes slots sc (Call line number u actuals) f = actuals_known p.objects shapes sc _ actuals f.3
  stmt_known rank shapes slots sc (Print line items) f = items_known p.objects shapes slots (length p.texts) sc items f
  stmt_known rank shapes slots sc (Read line targets) f = reads_known p.objects shapes slots sc targets f

  -- ---- CALLs
  abbrev CallFits : (shapes : List (List Dim)) (u : ℕ) → List Actual → Type 0
  CallFits shapes u actuals = (u < length p.units) × ActualsFit p.objects shapes (shapes_in (slice_get p.units u)) actuals

  call_fits : (rank : ℕ) (shapes : List (List Dim)) (slots : ℕ) (s : Stmt) → StmtFits p ranks rank shapes slots s → (number u : ℕ) (actuals : List Actual) → HasCall number u actuals s → CallFits shapes u actuals
  call_fits rank shapes slots Skip f number u actuals h = absurd h
  call_fits rank shapes slots (Seq a b) f number u actuals (inl h) = call_fits rank shapes slots a f.0 number u actuals h
  call_fits rank shapes slots (Seq a b) f number u actuals (inr h) = call_fits rank shapes slots b f.1 number u actuals h
  call_fits rank shapes slots (Assign line t value) f number u actuals h = absurd h
  call_fits rank shapes slots (If arms) f number u actuals h = call_fits rank shapes slots arms f number u actuals h
  call_fits rank shapes slots (Arm line cond body other) f number u actuals (inl h) = call_fits rank shapes slots body f.1 number u actuals h
  call_fits rank shapes slots (Arm line cond body other) f number u actuals (inr h) = call_fits rank shapes slots other f.2 number u actuals h
  call_fits rank shapes slots (Do k first body again bump) f number u actuals h = call_fits rank shapes slots body f.4 number u actuals h
  call_fits rank shapes slots (Doall k n own body) f number u actuals h = call_fits rank shapes own body f.4 number u actuals h
  call_fits rank shapes slots (Call line n v others) f number u actuals h =
      subst (CallFits shapes u) h.2 (subst (λ w. CallFits shapes w others) h.1 (f.1, f.3))
  call_fits rank shapes slots (Print line items) f number u actuals h = absurd h
  call_fits rank shapes slots (Read line targets) f number u actuals h = absurd h

-- ---- objects
-- the object of a variable in serial code, with its extents
record IsObject (b : Binding) (v : Var) : Type 0 where
  there : object_of b v < length b.objects
  alike : extents (dims_of b v) ≡ extents (dims_in (slice_get b.objects (object_of b v)))

is_object : (b : Binding) (v : Var) → AreBound b.objects b.shapes b.bound → IsVar b.objects b.shapes 0 v → IsObject b v
is_object b (var.Object k) bound is = record { there = is; alike = refl }
is_object b (var.Dummy k) bound is = let at = bound_to b.objects b.shapes b.bound k bound is in record { there = at.there; alike = at.extents }
is_object b (var.Slot k) bound is = absurd (omega (arith, is))

-- the objects that are passed fit the dummies
passed_bound : (b : Binding) → AreBound b.objects b.shapes b.bound → (wanted : List (List Dim)) (actuals : List Actual) → ActualsFit b.objects b.shapes wanted actuals → AreBound b.objects wanted (map (λ a. object_of b (passed_var a)) actuals)
passed_bound b bound [] [] f = tt
passed_bound b bound [] (a ∷ more) f = absurd f
passed_bound b bound (w ∷ wanted) [] f = absurd f
passed_bound b bound (w ∷ wanted) (Whole v ∷ more) f =
    let o = is_object b v bound f.0.0 in (o.there, f.0.1 ∙ o.alike, passed_bound b bound wanted more f.1)
passed_bound b bound (w ∷ wanted) (Copy r value ∷ more) f =
    let o = is_object b r.var bound f.0.1.0 in
    let same : extents w ≡ extents (dims_of b r.var) = ap extents (f.0.0 ∙ sym f.0.1.1) in
    (o.there, same ∙ o.alike, passed_bound b bound wanted more f.1)

-- a unit that is carried out is one of the program, and its dummies stand for objects
abbrev IsBound : Program → (u : ℕ) (bound : List ℕ) → Type 0
IsBound p u bound = (u < length p.units) × AreBound p.objects (shapes_in (slice_get p.units u)) bound

bound_under : (p : Program) → IsResolved p → (path : List ℕ) (u : ℕ) (bound : List ℕ) → IsUnder p path u bound → IsBound p u bound
bound_under p r [] u bound h =
    subst (λ v. IsBound p v bound) (sym h.0) (subst (IsBound p p.main) (sym h.1) (r.main, subst (λ shapes. AreBound p.objects shapes []) (sym r.main_alone) tt))
bound_under p r (number ∷ path) u bound (caller, outer, actuals, under, has, is) =
    let before = bound_under p r path caller outer under in
    let shapes = shapes_in (slice_get p.units caller) in
    let fits = call_fits p r.ranks (r.ranks caller) shapes 0 (body_of p caller) (r.fits caller before.0) number u actuals has in
    (fits.0, subst (AreBound p.objects (shapes_in (slice_get p.units u))) (sym is) (passed_bound (binding_of p path caller outer) before.1 (shapes_in (slice_get p.units u)) actuals fits.1))

denoted_below : (b : Binding) (v : Var) (object : ℕ) → AreBound b.objects b.shapes b.bound → IsKnown b.objects b.shapes v → Denotes b v object → object < length b.objects
denoted_below b (var.Object k) object bound is h = subst (λ n. n < length b.objects) h is
denoted_below b (var.Dummy k) object bound is h = subst (λ n. n < length b.objects) h (bound_to b.objects b.shapes b.bound k bound is).there
denoted_below b (var.Slot k) object bound is h = absurd h

pub touched_below : (p : Program) → IsResolved p → (writes : _) (path : List ℕ) (site object : ℕ) (ts : _) → Touches p writes path site object ts → object < length p.objects
touched_below p r writes path site object ts t =
    let bound = bound_under p r path t.unit t.bound t.under in
    let shapes = shapes_in (slice_get p.units t.unit) in
    denoted_below (binding_of p path t.unit t.bound) t.at.at.var object bound.1
    (stmt_known p r.ranks (r.ranks t.unit) shapes 0 outside (body_of p t.unit) (r.fits t.unit bound.0) t.at t.stands) t.object_is

pub lists_of_objects : (p : Program) (m : Marks) → IsResolved p → AreMarks p m → All (All (λ object. object < length p.objects)) m.entries × All (All (λ object. object < length p.objects)) m.exits
lists_of_objects p m r h =
    let P : List ℕ → Type 0 = All (λ object. object < length p.objects) in
    let one = λ (b : Point) (l : List ℕ) (w : IsWrittenList p b l) (k d : ℕ) (lt : k < length l).
    let found = (w.written _).0 (member_at l k d lt) in touched_below p r _ found.write_path found.write_site _ _ found.writes in
    (each_list p Entry m.entries P one h.entries, each_list p Exit m.exits P one h.exits)
