-- A DOALL of a program that passes the test iterates apart.
use Rattle.std.proofs.Common.{◌≡◌, ℕ, zero, suc, Bool, true, false, if◌then◌else◌, List, [], ◌∷◌, Option, Some, None, inl, inr, refl, sym, ap, ◌∙◌, subst}
use Rattle.std.specs.Prelude.{slice_get, ◌==◌}
use Rattle.std.proofs.lemmas.Bool.{eq-eqb}
use Rattle.cdc_prog.specs.declared.program.Object.{Object}
use Rattle.cdc_prog.specs.Plain.{Control, Stmt, Skip, Seq, Assign, If, Arm, Do, Doall, Call, Print, Read, ProgramUnit, Program}
use Rattle.cdc_prog.specs.Numbered.{units_numbered}
use Rattle.cdc_prog.specs.Units.{shapes_in, body_in, body_of, binding_of}
use Rattle.cdc_prog.specs.Dependence.{Spot, or_first, first_in, fixed_scalars, scope_of, tested_in, shapes_of, failing_units, failing}
use Rattle.cdc_prog.specs.Iterations.{IsDoallIn, KeepsPremises, IteratesApart}
use Rattle.cdc_subtest.specs.declared.verdict.Verdict.{Verdict}
use Rattle.cdc_subtest.specs.declared.verdict.Verdict.TheVariants.{Apart}
use Rattle.cdc_subtest.specs.Seen.{places_of_units}
use Rattle.cdc_subtest.specs.Verdicts.{places, verdict_of}
use Rattle.cdc_subtest.proofs.Callers.{unit_under}
use Rattle.cdc_subtest.proofs.Bodies.{doall_is, body_fits, set_stores, are_fixed}
use Rattle.cdc_subtest.proofs.Unaliased.{are_unaliased}
use Rattle.cdc_subtest.proofs.Tested.{is_parallel}
use Rattle.cdc_subtest.proofs.Same.{same_units}
use Rattle.cdc_subtest.proofs.Numbering.{numbered_units}

first_none : {A : Type 0} (o p : Option A) → or_first o p ≡ None → (o ≡ None) × (p ≡ None)
first_none None p e = (refl, e)
first_none (Some a) p e = cc

module _ {A : Type 0} (number : ℕ) (at : Control → ℕ → Stmt → Option A) (k : Control) (slots : ℕ) (body : Stmt) where
  first_passes : (s : Stmt) → first_in number at s ≡ None → IsDoallIn number k slots body s → at k slots body ≡ None
  first_passes Skip e h = absurd h
  first_passes (Seq a b) e (inl h) = first_passes a (first_none (first_in number at a) (first_in number at b) e).0 h
  first_passes (Seq a b) e (inr h) = first_passes b (first_none (first_in number at a) (first_in number at b) e).1 h
  first_passes (Assign line t value) e h = absurd h
  first_passes (If arms) e h = first_passes arms e h
  first_passes (Arm line cond x other) e (inl h) = first_passes x (first_none (first_in number at x) (first_in number at other) e).0 h
  first_passes (Arm line cond x other) e (inr h) = first_passes other (first_none (first_in number at x) (first_in number at other) e).1 h
  first_passes (Do control first x again bump) e h = first_passes x e h
  first_passes (Doall control n m x) e h = subst (λ y. at k slots y ≡ None) h.3 (subst (λ i. at k i x ≡ None) h.2 (subst (λ c. at c m x ≡ None) h.1 (go (n == number) (eq-eqb n number h.0) e)))
    where
      go : (test : Bool) → test ≡ true → (if test then at control m x else None) ≡ None → at control m x ≡ None
      go true q e = e
      go false q e = cc
  first_passes (Call line n u actuals) e h = absurd h
  first_passes (Print line items) e h = absurd h
  first_passes (Read line targets) e h = absurd h

unit_passes : (number : ℕ) (os : List Object) (k : Control) (slots : ℕ) (body : Stmt) (us : List ProgramUnit) (u : ℕ) → failing_units number os us ≡ None → IsDoallIn number k slots body (body_in (slice_get us u)) → tested_in os (shapes_in (slice_get us u)) k slots body ≡ None
unit_passes number os k slots body [] u e h = absurd h
unit_passes number os k slots body (x ∷ us) zero e h =
    first_passes number (tested_in os (shapes_of x.dummies)) k slots body x.body (first_none (first_in number (tested_in os (shapes_of x.dummies)) x.body) (failing_units number os us) e).0 h
unit_passes number os k slots body (x ∷ us) (suc u) e h =
    unit_passes number os k slots body us u (first_none (first_in number (tested_in os (shapes_of x.dummies)) x.body) (failing_units number os us) e).1 h

pub orderly_apart : (p : Program) (number : ℕ) → failing p number ≡ None → KeepsPremises p → IteratesApart p number
orderly_apart p number none is path u bound k slots body calls under has =
    let unit = unit_under p is.resolved path u bound under in
    let doall = doall_is p is.resolved.ranks (is.resolved.ranks u) (shapes_in (slice_get p.units u)) number k slots body 0 (body_of p u) (is.resolved.fits u unit.there) (is.alone u) (is.loops u) has in
    let fits = body_fits p is.resolved.ranks (is.resolved.ranks u) (shapes_in (slice_get p.units u)) path bound slots body doall.fits doall.only doall.alone doall.loops in
    is_parallel calls (binding_of p path u bound) slots k body (fixed_scalars p.objects (shapes_in (slice_get p.units u)) slots body) p.words
    (record {
      laid_out = is.resolved.laid_out;
      bound = unit.fits;
      fits = fits;
      unset = λ m. is.indexes u number slots k body has (set_stores p is.resolved.ranks (is.resolved.ranks u) (shapes_in (slice_get p.units u)) body 0 m);
      fixed = are_fixed (binding_of p path u bound) slots body fits;
      unaliased = are_unaliased p is.unaliased path u bound under number k slots body has (scope_of k (fixed_scalars p.objects (shapes_in (slice_get p.units u)) slots body));
    })
    (unit_passes number p.objects k slots body p.units u none has)

pub places_are : (number : ℕ) (os : List Object) (us : List ProgramUnit) → places_of_units number os us ≡ places (failing_units number os (units_numbered 0 us))
places_are number os us = same_units number os us ∙ ap places (sym (numbered_units number os 0 us))

no_places : (o : Option (Spot × Spot)) → verdict_of o ≡ Apart → o ≡ None
no_places None e = refl
no_places (Some pair) e = cc

pub apart_is : (p : Program) (number : ℕ) (v : Verdict) → v ≡ verdict_of (failing p number) → v ≡ Apart → KeepsPremises p → IteratesApart p number
apart_is p number v e same = orderly_apart p number (no_places (failing p number) (sym e ∙ same))
