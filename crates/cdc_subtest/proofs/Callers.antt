-- Under every call path the dummies of a unit stand for objects of their extents.
use Rattle.std.proofs.Common.{◌≡◌, ℕ, ◌<◌, List, [], ◌∷◌, length, map, inl, inr, refl, sym, ap, ◌∙◌, subst, arith}
use Rattle.std.specs.Prelude.{slice_get}
use Rattle.cdc_prog.specs.declared.expr.Var.{Var}
use Rattle.cdc_prog.specs.declared.expr.Var.TheVariants as var
use Rattle.cdc_prog.specs.declared.program.Dim.{Dim}
use Rattle.cdc_prog.specs.Plain.{Actual, Whole, Copy, Stmt, Skip, Seq, Assign, If, Arm, Do, Doall, Call, Print, Read, Program}
use Rattle.cdc_prog.specs.Data.{Binding, object_of, dims_in, dims_of}
use Rattle.cdc_prog.specs.Units.{shapes_in, body_of, binding_of}
use Rattle.cdc_prog.specs.Uses.{HasCall}
use Rattle.cdc_prog.specs.Resolved.{AreBound, extents, IsVar, ActualsFit, StmtFits, IsResolved}
use Rattle.cdc_prog.specs.Paths.{passed_var, IsUnder}
use Rattle.cdc_prog.proofs.Words.{bound_to}

-- an actual stands for an object of the extents of its dummy
record IsObject (b : Binding) (v : Var) : Type 0 where
  pub there : object_of b v < length b.objects
  pub extents : extents (dims_of b v) ≡ extents (dims_in (slice_get b.objects (object_of b v)))

is_object : (b : Binding) → AreBound b.objects b.shapes b.bound → (v : Var) → IsVar b.objects b.shapes 0 v → IsObject b v
is_object b bound (var.Object k) is = record { there = is; extents = refl }
is_object b bound (var.Dummy k) is = let at = bound_to b.objects b.shapes b.bound k bound is in record { there = at.there; extents = at.extents }
is_object b bound (var.Slot k) is = absurd (omega (arith, is))

actuals_bound : (b : Binding) → AreBound b.objects b.shapes b.bound → (shapes : List (List Dim)) (actuals : List Actual) → ActualsFit b.objects b.shapes shapes actuals → AreBound b.objects shapes (map (λ a. object_of b (passed_var a)) actuals)
actuals_bound b bound [] [] f = tt
actuals_bound b bound [] (a ∷ actuals) f = absurd f
actuals_bound b bound (shape ∷ shapes) [] f = absurd f
actuals_bound b bound (shape ∷ shapes) (Whole v ∷ actuals) f =
    let o = is_object b bound v f.0.0 in
    (o.there, f.0.1 ∙ o.extents, actuals_bound b bound shapes actuals f.1)
actuals_bound b bound (shape ∷ shapes) (Copy at value ∷ actuals) f =
    let o = is_object b bound at.var f.0.1.0 in
    (o.there, ap extents (f.0.0 ∙ sym f.0.1.1) ∙ o.extents, actuals_bound b bound shapes actuals f.1)

module _ (p : Program) (ranks : ℕ → ℕ) (rank : ℕ) (shapes : List (List Dim)) where
  -- a CALL stands in serial code, and its actuals fit
  pub record IsCall (slots u : ℕ) (actuals : List Actual) : Type 0 where
    pub serial : slots ≡ 0
    pub there : u < length p.units
    pub fits : ActualsFit p.objects shapes (shapes_in (slice_get p.units u)) actuals

  call_fits : (number u : ℕ) (actuals : List Actual) (slots : ℕ) (s : Stmt) → StmtFits p ranks rank shapes slots s → HasCall number u actuals s → IsCall slots u actuals
  call_fits number u actuals slots Skip f h = absurd h
  call_fits number u actuals slots (Seq a b) f (inl h) = call_fits number u actuals slots a f.0 h
  call_fits number u actuals slots (Seq a b) f (inr h) = call_fits number u actuals slots b f.1 h
  call_fits number u actuals slots (Assign line t value) f h = absurd h
  call_fits number u actuals slots (If arms) f h = call_fits number u actuals slots arms f h
  call_fits number u actuals slots (Arm line cond body other) f (inl h) = call_fits number u actuals slots body f.1 h
  call_fits number u actuals slots (Arm line cond body other) f (inr h) = call_fits number u actuals slots other f.2 h
  call_fits number u actuals slots (Do k first body again bump) f h = call_fits number u actuals slots body f.4 h
  call_fits number u actuals slots (Doall k n own body) f h =
      let c = call_fits number u actuals own body f.4 h in absurd (omega (arith, c.serial, f.2))
  call_fits number u actuals slots (Call line n v others) f h =
      subst (λ a. IsCall slots u a) h.2 (subst (λ w. IsCall slots w others) h.1 (record { serial = f.0; there = f.1; fits = f.3 }))
  call_fits number u actuals slots (Print line items) f h = absurd h
  call_fits number u actuals slots (Read line targets) f h = absurd h

module _ (p : Program) (is : IsResolved p) where
  pub record IsUnit (u : ℕ) (bound : List ℕ) : Type 0 where
    pub there : u < length p.units
    pub fits : AreBound p.objects (shapes_in (slice_get p.units u)) bound

  pub unit_under : (path : List ℕ) (u : ℕ) (bound : List ℕ) → IsUnder p path u bound → IsUnit u bound
  unit_under [] u bound h =
      subst (λ v. IsUnit v bound) (sym h.0) (subst (λ ks. IsUnit p.main ks) (sym h.1) (record { there = is.main; fits = subst (λ shapes. AreBound p.objects shapes []) (sym is.main_alone) tt }))
  unit_under (number ∷ path) u bound h =
      let caller = unit_under path h.0 h.1 h.3 in
      let c = call_fits p is.ranks (is.ranks h.0) (shapes_in (slice_get p.units h.0)) number u h.2 0 (body_of p h.0) (is.fits h.0 caller.there) h.4 in
      subst (λ ks. IsUnit u ks) (sym h.5) (record { there = c.there; fits = actuals_bound (binding_of p path h.0 h.1) caller.fits (shapes_in (slice_get p.units u)) h.2 c.fits })
