-- Sketches tell apart what forms do, and the places are those of the first failing pair.
use Rattle.std.proofs.Common.{◌≡◌, ℕ, Bool, true, false, not, if◌then◌else◌, List, [], ◌∷◌, map, ℤ, Option, Some, None, refl, sym, ap, ap₂, ◌∙◌}
use Rattle.std.specs.Prelude.{◌==◌, ◌&&◌, ◌||◌}
use Rattle.cdc_prog.specs.declared.affine.Scope.{Scope}
use Rattle.cdc_prog.specs.declared.affine.Affine.{Affine}
use Rattle.cdc_prog.specs.declared.program.Dim.{Dim}
use Rattle.cdc_prog.specs.declared.program.Object.{Object}
use Rattle.cdc_prog.specs.Plain.{Exprs, Empty, More, Stmt, Skip, Seq, Assign, If, Arm, Do, Doall, Call, Print, Read, ProgramUnit}
use Rattle.cdc_prog.specs.Affine.{same_var, with_some, form, constant}
use Rattle.cdc_prog.specs.Dependence.{Spot, spots, fixed_scalars, holds, tells_apart, are_told_apart, fails, failing_with, or_first, first_failing, scope_of, first_in, tested_in, shapes_of, failing_units}
use Rattle.cdc_subtest.specs.Sketches.{glance, glimpses, one_apart, some_apart}
use Rattle.cdc_subtest.specs.Seen.{Seen, seen, pair_fails, places_of, places_in, places_of_units}
use Rattle.cdc_subtest.specs.Verdicts.{places}

same_one : (step : Option ℤ) (sf sg : Scope) (o p : Option Affine) → one_apart step (with_some o (λ f. Some (glance sf f))) (with_some p (λ g. Some (glance sg g))) ≡ holds o (λ x. holds p (λ y. tells_apart step sf sg x y))
same_one step sf sg None p = refl
same_one step sf sg (Some f) None = refl
same_one step sf sg (Some f) (Some g) = refl

same_some : (step : Option ℤ) (sf sg : Scope) (es fs : Exprs) → some_apart step (glimpses sf es) (glimpses sg fs) ≡ are_told_apart step sf sg es fs
same_some step sf sg Empty fs = refl
same_some step sf sg (More e es) Empty = refl
same_some step sf sg (More e es) (More f fs) = ap₂ (λ a b. a || b) (same_one step sf sg (form sf e) (form sg f)) (same_some step sf sg es fs)

same_fails : (step : Option ℤ) (p q : Spot) → pair_fails step (seen p) (seen q) ≡ fails step p q
same_fails step p q = ap (λ b. same_var p.at.var q.at.var && (p.writes || q.writes) && not b) (same_some step p.scope q.scope p.subs q.subs)

same_with : (step : Option ℤ) (p : Spot) (qs : List Spot) → places_of (failing_with (pair_fails step) (seen p) (map seen qs)) ≡ places (failing_with (fails step) p qs)
same_with step p [] = refl
same_with step p (q ∷ qs) = go (pair_fails step (seen p) (seen q)) (fails step p q) (same_fails step p q) (same_with step p qs)
  where
    go : (a b : Bool) → a ≡ b → places_of (failing_with (pair_fails step) (seen p) (map seen qs)) ≡ places (failing_with (fails step) p qs) → places_of (if a then Some (seen p, seen q) else failing_with (pair_fails step) (seen p) (map seen qs)) ≡ places (if b then Some (p, q) else failing_with (fails step) p qs)
    go true true e h = refl
    go true false e h = cc
    go false true e h = cc
    go false false e h = h

or_places : (o p : Option (Spot × Spot)) → places (or_first o p) ≡ or_first (places o) (places p)
or_places None p = refl
or_places (Some a) p = refl

or_seen : (o p : Option (Seen × Seen)) → places_of (or_first o p) ≡ or_first (places_of o) (places_of p)
or_seen None p = refl
or_seen (Some a) p = refl

pub same_first : (step : Option ℤ) (ps : List Spot) → places_of (first_failing (pair_fails step) (map seen ps)) ≡ places (first_failing (fails step) ps)
same_first step [] = refl
same_first step (p ∷ ps) =
    or_seen (failing_with (pair_fails step) (seen p) (map seen (p ∷ ps))) (first_failing (pair_fails step) (map seen ps))
    ∙ ap₂ or_first (same_with step p (p ∷ ps)) (same_first step ps)
    ∙ sym (or_places (failing_with (fails step) p (p ∷ ps)) (first_failing (fails step) ps))

module _ (number : ℕ) (objects : List Object) where
  same_in : (shapes : List (List Dim)) (s : Stmt) → first_in number (places_in objects shapes) s ≡ places (first_in number (tested_in objects shapes) s)
  same_in shapes Skip = refl
  same_in shapes (Seq a b) = ap₂ or_first (same_in shapes a) (same_in shapes b) ∙ sym (or_places (first_in number (tested_in objects shapes) a) (first_in number (tested_in objects shapes) b))
  same_in shapes (Assign line t value) = refl
  same_in shapes (If arms) = same_in shapes arms
  same_in shapes (Arm line cond body other) = ap₂ or_first (same_in shapes body) (same_in shapes other) ∙ sym (or_places (first_in number (tested_in objects shapes) body) (first_in number (tested_in objects shapes) other))
  same_in shapes (Do k first body again bump) = same_in shapes body
  same_in shapes (Doall k n slots body) = go (n == number)
    where
      go : (b : Bool) → (if b then places_in objects shapes k slots body else None) ≡ places (if b then tested_in objects shapes k slots body else None)
      go true = same_first (constant k.by) (spots (scope_of k (fixed_scalars objects shapes slots body)) body)
      go false = refl
  same_in shapes (Call line n u actuals) = refl
  same_in shapes (Print line items) = refl
  same_in shapes (Read line targets) = refl

  pub same_units : (us : List ProgramUnit) → places_of_units number objects us ≡ places (failing_units number objects us)
  same_units [] = refl
  same_units (u ∷ us) =
      ap₂ or_first (same_in (shapes_of u.dummies) u.body) (same_units us)
      ∙ sym (or_places (first_in number (tested_in objects (shapes_of u.dummies)) u.body) (failing_units number objects us))
