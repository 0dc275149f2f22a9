-- What the body of a DOALL of an orderly program keeps.
use Rattle.std.proofs.Common.{◌≡◌, ℕ, zero, suc, ◌+◌, ◌-◌, ◌<◌, Bool, true, false, not, if◌then◌else◌, List, [], ◌∷◌, ◌++◌, length, get_or, ◌⊎◌, inl, inr, refl, sym, ap, ◌∙◌, subst, arith}
use Rattle.std.specs.Prelude.{slice_get, ◌&&◌, ◌||◌}
use Rattle.std.proofs.lemmas.Bool.{eq-eqb}
use Rattle.cdc_prog.specs.declared.expr.Var.{Var}
use Rattle.cdc_prog.specs.declared.expr.Var.TheVariants as var
use Rattle.cdc_prog.specs.declared.expr.Ref.{Ref}
use Rattle.cdc_prog.specs.declared.program.Dim.{Dim}
use Rattle.cdc_prog.specs.declared.program.Object.{Object}
use Rattle.cdc_prog.specs.Plain.{Exprs, Empty, More, Control, Stmt, Skip, Seq, Assign, If, Arm, Do, Doall, Call, Print, Read, Program}
use Rattle.cdc_prog.specs.Data.{Binding, dims_in}
use Rattle.cdc_prog.specs.Bodies.{HasOnly}
use Rattle.cdc_prog.specs.Uses.{Stores}
use Rattle.cdc_prog.specs.Resolved.{SpotFits, IsScalar, StmtFits}
use Rattle.cdc_prog.specs.Premises.{IsOwn, StoresInOwn, DoallsStoreAlone, DosKeepVariables}
use Rattle.cdc_prog.specs.Affine.{same_var, is_in}
use Rattle.cdc_prog.specs.Dependence.{scalar_in, stored_scalars, is_scalar, fixed_from, private_from, object_shapes, fixed_scalars}
use Rattle.cdc_prog.specs.Iterations.{MaySet, IsSlotBelow, StoresOnlySlots, BodyFits, IsFixed, AreFixed, IsDoallIn}
use Rattle.cdc_num.proofs.Intervals.{or_true}
use Rattle.cdc_affine.proofs.Worth.{and_true}
use Rattle.cdc_subtest.proofs.Apart.{same_var_of}

-- ---- the body of a DOALL
module _ (p : Program) (ranks : ℕ → ℕ) (rank : ℕ) (shapes : List (List Dim)) where
  pub record IsDoall (slots : ℕ) (body : Stmt) : Type 0 where
    pub some : 0 < slots
    pub only : HasOnly ⊥ ⊥ ⊥ body
    pub fits : StmtFits p ranks rank shapes slots body
    pub alone : StoresInOwn body
    pub loops : DosKeepVariables p body

  pub doall_is : (number : ℕ) (k : Control) (own : ℕ) (body : Stmt) (slots : ℕ) (s : Stmt) → StmtFits p ranks rank shapes slots s → DoallsStoreAlone s → DosKeepVariables p s → IsDoallIn number k own body s → IsDoall own body
  doall_is number k own body slots Skip f a d h = absurd h
  doall_is number k own body slots (Seq x y) f a d (inl h) = doall_is number k own body slots x f.0 a.0 d.0 h
  doall_is number k own body slots (Seq x y) f a d (inr h) = doall_is number k own body slots y f.1 a.1 d.1 h
  doall_is number k own body slots (Assign line t value) f a d h = absurd h
  doall_is number k own body slots (If arms) f a d h = doall_is number k own body slots arms f a d h
  doall_is number k own body slots (Arm line cond x other) f a d (inl h) = doall_is number k own body slots x f.1 a.0 d.0 h
  doall_is number k own body slots (Arm line cond x other) f a d (inr h) = doall_is number k own body slots other f.2 a.1 d.1 h
  doall_is number k own body slots (Do control first x again bump) f a d h = doall_is number k own body slots x f.4 a d.1 h
  doall_is number k own body slots (Doall control n m x) f a d h =
      subst (λ y. IsDoall own y) h.3 (subst (λ i. IsDoall i x) h.2 (record { some = f.2; only = f.3; fits = f.4; alone = a; loops = d }))
  doall_is number k own body slots (Call line n u actuals) f a d h = absurd h
  doall_is number k own body slots (Print line items) f a d h = absurd h
  doall_is number k own body slots (Read line targets) f a d h = absurd h

  pub set_stores : (s : Stmt) (k : ℕ) → MaySet s k → Stores p (var.Slot k) s
  set_stores Skip k h = absurd h
  set_stores (Seq x y) k (inl h) = inl (set_stores x k h)
  set_stores (Seq x y) k (inr h) = inr (set_stores y k h)
  set_stores (Assign line t value) k h = h
  set_stores (If arms) k h = set_stores arms k h
  set_stores (Arm line cond body other) k (inl h) = inl (set_stores body k h)
  set_stores (Arm line cond body other) k (inr h) = inr (set_stores other k h)
  set_stores (Do control first body again bump) k (inl h) = inl h
  set_stores (Do control first body again bump) k (inr h) = inr (set_stores body k h)
  set_stores (Doall control n slots body) k h = absurd h
  set_stores (Call line n u actuals) k h = absurd h
  set_stores (Print line items) k h = absurd h
  set_stores (Read line targets) k h = absurd h

  own_slot : (slots : ℕ) (v : Var) → IsScalar p.objects shapes slots v → IsOwn v Empty → IsSlotBelow slots v
  own_slot slots (var.Object k) f o = absurd o
  own_slot slots (var.Dummy k) f o = absurd o
  own_slot slots (var.Slot k) f o = (k, refl, f.0)

  own_slots : (slots : ℕ) (v : Var) (es : Exprs) → SpotFits p.objects shapes slots v es → IsOwn v es → StoresOnlySlots slots v es
  own_slots slots v Empty f o = own_slot slots v f o
  own_slots slots v (More e es) f o = tt

  pub body_fits : (path bound : List ℕ) (slots : ℕ) (s : Stmt) → StmtFits p ranks rank shapes slots s → HasOnly ⊥ ⊥ ⊥ s → StoresInOwn s → DosKeepVariables p s → BodyFits (record { path = path; objects = p.objects; shapes = shapes; bound = bound }) slots s
  body_fits path bound slots Skip f o a d = tt
  body_fits path bound slots (Seq x y) f o a d = (body_fits path bound slots x f.0 o.0 a.0 d.0, body_fits path bound slots y f.1 o.1 a.1 d.1)
  body_fits path bound slots (Assign line t value) f o a d = (f.0, own_slots slots t.at.var t.subs f.0 a, f.1)
  body_fits path bound slots (If arms) f o a d = body_fits path bound slots arms f o a d
  body_fits path bound slots (Arm line cond body other) f o a d = (f.0, body_fits path bound slots body f.1 o.0 a.0 d.0, body_fits path bound slots other f.2 o.1 a.1 d.1)
  body_fits path bound slots (Do k first body again bump) f o a d =
      (f.0, own_slot slots first.var f.1 a.0, f.2, f.3, λ j e m. d.0 (inl (subst (λ v. Stores p v body) (sym e) (set_stores body j m))), body_fits path bound slots body f.4 o a.1 d.1)
  body_fits path bound slots (Doall k n own body) f o a d = absurd o
  body_fits path bound slots (Call line n u actuals) f o a d = absurd o
  body_fits path bound slots (Print line items) f o a d = absurd o
  body_fits path bound slots (Read line targets) f o a d = absurd o

or_either : (p q : Bool) → (p ≡ true) ⊎ (q ≡ true) → (p || q) ≡ true
or_either true q h = refl
or_either false q (inl e) = cc
or_either false q (inr e) = e

pub same_self : (v : Var) → same_var v v ≡ true
same_self (var.Object n) = eq-eqb n n refl
same_self (var.Dummy n) = eq-eqb n n refl
same_self (var.Slot n) = eq-eqb n n refl

-- ---- fixed scalars
in_either : (us vs : List Var) (v : Var) → is_in (us ++ vs) v ≡ true → (is_in us v ≡ true) ⊎ (is_in vs v ≡ true)
in_either [] vs v e = inr e
in_either (u ∷ us) vs v e =
    elim (or_true (same_var u v) (is_in (us ++ vs) v) e) [
      | inl h ↦ inl (or_either (same_var u v) (is_in us v) (inl h))
      | inr h ↦ elim (in_either us vs v h) [ inl g ↦ inl (or_either (same_var u v) (is_in us v) (inr g)) | inr g ↦ inr g ]
    ]

-- the variable is one of these scalars
record IsOneOf (variable : ℕ → Var) (k : ℕ) (shapes : List (List Dim)) (v : Var) : Type 0 where
  pub at : ℕ
  pub is : v ≡ variable (k + at)
  pub there : at < length shapes
  pub scalar : get_or shapes at [] ≡ []

scalar_of : (dims : List Dim) → is_scalar dims ≡ true → dims ≡ []
scalar_of [] e = refl
scalar_of (d ∷ ds) e = cc

one_later : (variable : ℕ → Var) (k : ℕ) (dims : List Dim) (shapes : List (List Dim)) (v : Var) → IsOneOf variable (suc k) shapes v → IsOneOf variable k (dims ∷ shapes) v
one_later variable k dims shapes v h = record { at = suc h.at; is = h.is ∙ ap variable (omega arith); there = omega (arith, h.there); scalar = h.scalar }

fixed_at : (stored : List Var) (variable : ℕ → Var) (k : ℕ) (shapes : List (List Dim)) (v : Var) → is_in (fixed_from stored variable k shapes) v ≡ true → IsOneOf variable k shapes v
fixed_at stored variable k [] v e = cc
fixed_at stored variable k (dims ∷ shapes) v e = go (is_scalar dims && not (is_in stored (variable k))) refl e (λ h. fixed_at stored variable (suc k) shapes v h)
  where
    here : is_scalar dims ≡ true → same_var (variable k) v ≡ true → IsOneOf variable k (dims ∷ shapes) v
    here d h = record { at = 0; is = sym (same_var_of (variable k) v h) ∙ ap variable (omega arith); there = omega arith; scalar = scalar_of dims d }

    go : (test : Bool) → (is_scalar dims && not (is_in stored (variable k))) ≡ test → is_in (if test then variable k ∷ fixed_from stored variable (suc k) shapes else fixed_from stored variable (suc k) shapes) v ≡ true
        → (is_in (fixed_from stored variable (suc k) shapes) v ≡ true → IsOneOf variable (suc k) shapes v) → IsOneOf variable k (dims ∷ shapes) v
    go false q e h = one_later variable k dims shapes v (h e)
    go true q e h =
        elim (or_true (same_var (variable k) v) (is_in (fixed_from stored variable (suc k) shapes) v) e) [
          | inl s ↦ here (and_true (is_scalar dims) (not (is_in stored (variable k))) q).0 s
          | inr r ↦ one_later variable k dims shapes v (h r)
        ]

record IsPrivate (stored : List Var) (k : ℕ) (v : Var) : Type 0 where
  pub at : ℕ
  pub is : v ≡ var.Slot (k + at)
  pub unstored : is_in stored (var.Slot (k + at)) ≡ false

private_later : (stored : List Var) (k : ℕ) (v : Var) → IsPrivate stored (suc k) v → IsPrivate stored k v
private_later stored k v h =
    let e : suc k + h.at ≡ k + suc h.at = omega arith in
    record { at = suc h.at; is = h.is ∙ ap var.Slot e; unstored = subst (λ i. is_in stored (var.Slot i) ≡ false) e h.unstored }

private_at : (stored : List Var) (k n : ℕ) (v : Var) → is_in (private_from stored k n) v ≡ true → IsPrivate stored k v
private_at stored k zero v e = cc
private_at stored k (suc n) v e = go (is_in stored (var.Slot k)) refl e (λ h. private_at stored (suc k) n v h)
  where
    same : k ≡ k + 0
    same = omega arith

    here : is_in stored (var.Slot k) ≡ false → same_var (var.Slot k) v ≡ true → IsPrivate stored k v
    here q h = record { at = 0; is = sym (same_var_of (var.Slot k) v h) ∙ ap var.Slot same; unstored = subst (λ i. is_in stored (var.Slot i) ≡ false) same q }

    go : (test : Bool) → is_in stored (var.Slot k) ≡ test → is_in (if test then private_from stored (suc k) n else var.Slot k ∷ private_from stored (suc k) n) v ≡ true
        → (is_in (private_from stored (suc k) n) v ≡ true → IsPrivate stored (suc k) v) → IsPrivate stored k v
    go true q e h = private_later stored k v (h e)
    go false q e h =
        elim (or_true (same_var (var.Slot k) v) (is_in (private_from stored (suc k) n) v) e) [
          | inl s ↦ here q s
          | inr r ↦ private_later stored k v (h r)
        ]

-- what a body may set is among its stored scalars
in_left : (us vs : List Var) (v : Var) → is_in us v ≡ true → is_in (us ++ vs) v ≡ true
in_left [] vs v e = cc
in_left (u ∷ us) vs v e =
    elim (or_true (same_var u v) (is_in us v) e) [ inl h ↦ or_either (same_var u v) (is_in (us ++ vs) v) (inl h) | inr h ↦ or_either (same_var u v) (is_in (us ++ vs) v) (inr (in_left us vs v h)) ]

in_right : (us vs : List Var) (v : Var) → is_in vs v ≡ true → is_in (us ++ vs) v ≡ true
in_right [] vs v e = e
in_right (u ∷ us) vs v e = or_either (same_var u v) (is_in (us ++ vs) v) (inr (in_right us vs v e))

module _ (b : Binding) (slots : ℕ) where
  target_stored : (at : Ref) (es : Exprs) (k : ℕ) → SpotFits b.objects b.shapes slots at.var es → at.var ≡ var.Slot k → is_in (scalar_in at es) (var.Slot k) ≡ true
  target_stored at Empty k f e = or_either (same_var at.var (var.Slot k)) false (inl (subst (λ v. same_var at.var v ≡ true) e (same_self at.var)))
  target_stored at (More x es) k f e = absurd (subst (λ v. SpotFits b.objects b.shapes slots v (More x es)) e f).1

  set_stored : (s : Stmt) (k : ℕ) → BodyFits b slots s → MaySet s k → is_in (stored_scalars s) (var.Slot k) ≡ true
  set_stored Skip k f h = absurd h
  set_stored (Seq x y) k f (inl h) = in_left (stored_scalars x) (stored_scalars y) (var.Slot k) (set_stored x k f.0 h)
  set_stored (Seq x y) k f (inr h) = in_right (stored_scalars x) (stored_scalars y) (var.Slot k) (set_stored y k f.1 h)
  set_stored (Assign line t value) k f h = target_stored t.at t.subs k f.0 h
  set_stored (If arms) k f h = set_stored arms k f h
  set_stored (Arm line cond body other) k f (inl h) = in_left (stored_scalars body) (stored_scalars other) (var.Slot k) (set_stored body k f.1 h)
  set_stored (Arm line cond body other) k f (inr h) = in_right (stored_scalars body) (stored_scalars other) (var.Slot k) (set_stored other k f.2 h)
  set_stored (Do control first body again bump) k f (inl h) = or_either (same_var first.var (var.Slot k)) (is_in (stored_scalars body) (var.Slot k)) (inl (subst (λ v. same_var first.var v ≡ true) h (same_self first.var)))
  set_stored (Do control first body again bump) k f (inr h) = or_either (same_var first.var (var.Slot k)) (is_in (stored_scalars body) (var.Slot k)) (inr (set_stored body k f.5 h))
  set_stored (Doall control n own body) k f h = absurd h
  set_stored (Call line n u actuals) k f h = absurd h
  set_stored (Print line items) k f h = absurd h
  set_stored (Read line targets) k f h = absurd h

object_dims : (os : List Object) (k : ℕ) → k < length (object_shapes os) → (k < length os) × (dims_in (slice_get os k) ≡ get_or (object_shapes os) k [])
object_dims [] k h = absurd (omega (arith, h))
object_dims (o ∷ os) zero h = (omega arith, refl)
object_dims (o ∷ os) (suc k) h = let r = object_dims os k (omega (arith, h)) in (omega (arith, r.0), r.1)

pub are_fixed : (b : Binding) (slots : ℕ) (body : Stmt) → BodyFits b slots body → AreFixed b body (fixed_scalars b.objects b.shapes slots body)
are_fixed b slots body f v e =
    elim (in_either (fixed_from (stored_scalars body) var.Object 0 (object_shapes b.objects)) (fixed_from (stored_scalars body) var.Dummy 0 b.shapes ++ private_from (stored_scalars body) 1 (slots - 1)) v e) [
      | inl h ↦ object (fixed_at (stored_scalars body) var.Object 0 (object_shapes b.objects) v h)
      | inr h ↦ elim (in_either (fixed_from (stored_scalars body) var.Dummy 0 b.shapes) (private_from (stored_scalars body) 1 (slots - 1)) v h) [
        | inl g ↦ dummy (fixed_at (stored_scalars body) var.Dummy 0 b.shapes v g)
        | inr g ↦ slot (private_at (stored_scalars body) 1 (slots - 1) v g)
      ]
    ]
  where
    object : IsOneOf var.Object 0 (object_shapes b.objects) v → IsFixed b body v
    object h =
        let r = object_dims b.objects h.at h.there in
        subst (λ u. IsFixed b body u) (sym (h.is ∙ ap var.Object (omega arith))) (r.0, r.1 ∙ h.scalar)

    dummy : IsOneOf var.Dummy 0 b.shapes v → IsFixed b body v
    dummy h = subst (λ u. IsFixed b body u) (sym (h.is ∙ ap var.Dummy (omega arith))) (h.there, h.scalar)

    slot : IsPrivate (stored_scalars body) 1 v → IsFixed b body v
    slot h =
        let e : 1 + h.at ≡ suc h.at = omega arith in
        let no : is_in (stored_scalars body) (var.Slot (suc h.at)) ≡ false = subst (λ i. is_in (stored_scalars body) (var.Slot i) ≡ false) e h.unstored in
        subst (λ u. IsFixed b body u) (sym (h.is ∙ ap var.Slot e)) (λ m. let yes = set_stored b slots body (suc h.at) f m in cc)
