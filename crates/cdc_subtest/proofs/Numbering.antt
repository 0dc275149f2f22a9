-- The numbers of CALLs do not matter to the test.
use Rattle.std.proofs.Common.{◌≡◌, ℕ, ◌+◌, ◌-◌, if◌then◌else◌, List, [], ◌∷◌, ◌++◌, None, refl, ap, ap₂, ◌∙◌}
use Rattle.std.specs.Prelude.{◌==◌}
use Rattle.cdc_prog.specs.declared.expr.Var.{Var}
use Rattle.cdc_prog.specs.declared.expr.Var.TheVariants as var
use Rattle.cdc_prog.specs.declared.affine.Scope.{Scope}
use Rattle.cdc_prog.specs.declared.program.Dim.{Dim}
use Rattle.cdc_prog.specs.declared.program.Object.{Object}
use Rattle.cdc_prog.specs.Plain.{Control, Stmt, Skip, Seq, Assign, If, Arm, Do, Doall, Call, Print, Read, ProgramUnit}
use Rattle.cdc_prog.specs.Affine.{constant}
use Rattle.cdc_prog.specs.Numbered.{calls_in, calls_numbered, units_numbered}
use Rattle.cdc_prog.specs.Dependence.{expr_spots, control_spots, inside, index_of, spots, stored_scalars, object_shapes, fixed_from, private_from, scope_of, fails, first_failing, or_first, first_in, tested_in, shapes_of, failing_units}

numbered_spots : (sc : Scope) (n : ℕ) (s : Stmt) → spots sc (calls_numbered n s) ≡ spots sc s
numbered_spots sc n Skip = refl
numbered_spots sc n (Seq a b) = ap₂ (λ x y. x ++ y) (numbered_spots sc n a) (numbered_spots sc (n + calls_in a) b)
numbered_spots sc n (Assign line t value) = refl
numbered_spots sc n (If arms) = numbered_spots sc n arms
numbered_spots sc n (Arm line cond body other) = ap₂ (λ x y. expr_spots sc cond ++ (x ++ y)) (numbered_spots sc n body) (numbered_spots sc (n + calls_in body) other)
numbered_spots sc n (Do k first body again bump) = ap (λ x. control_spots sc k ++ x) (numbered_spots (inside sc (index_of k first)) n body)
numbered_spots sc n (Doall k number slots body) = refl
numbered_spots sc n (Call line number u actuals) = refl
numbered_spots sc n (Print line items) = refl
numbered_spots sc n (Read line targets) = refl

numbered_stored : (n : ℕ) (s : Stmt) → stored_scalars (calls_numbered n s) ≡ stored_scalars s
numbered_stored n Skip = refl
numbered_stored n (Seq a b) = ap₂ (λ x y. x ++ y) (numbered_stored n a) (numbered_stored (n + calls_in a) b)
numbered_stored n (Assign line t value) = refl
numbered_stored n (If arms) = numbered_stored n arms
numbered_stored n (Arm line cond body other) = ap₂ (λ x y. x ++ y) (numbered_stored n body) (numbered_stored (n + calls_in body) other)
numbered_stored n (Do k first body again bump) = ap (λ x. first.var ∷ x) (numbered_stored n body)
numbered_stored n (Doall k number slots body) = refl
numbered_stored n (Call line number u actuals) = refl
numbered_stored n (Print line items) = refl
numbered_stored n (Read line targets) = refl

module _ (number : ℕ) (objects : List Object) where
  abbrev given : (shapes : List (List Dim)) → (slots : ℕ) → List Var → List Var
  given shapes slots stored = fixed_from stored var.Object 0 (object_shapes objects) ++ (fixed_from stored var.Dummy 0 shapes ++ private_from stored 1 (slots - 1))

  numbered_tested : (n : ℕ) (shapes : List (List Dim)) (k : Control) (slots : ℕ) (body : Stmt) → tested_in objects shapes k slots (calls_numbered n body) ≡ tested_in objects shapes k slots body
  numbered_tested n shapes k slots body =
      ap (λ st. first_failing (fails (constant k.by)) (spots (scope_of k (given shapes slots st)) (calls_numbered n body))) (numbered_stored n body)
      ∙ ap (first_failing (fails (constant k.by))) (numbered_spots (scope_of k (given shapes slots (stored_scalars body))) n body)

  numbered_in : (n : ℕ) (shapes : List (List Dim)) (s : Stmt) → first_in number (tested_in objects shapes) (calls_numbered n s) ≡ first_in number (tested_in objects shapes) s
  numbered_in n shapes Skip = refl
  numbered_in n shapes (Seq a b) = ap₂ or_first (numbered_in n shapes a) (numbered_in (n + calls_in a) shapes b)
  numbered_in n shapes (Assign line t value) = refl
  numbered_in n shapes (If arms) = numbered_in n shapes arms
  numbered_in n shapes (Arm line cond body other) = ap₂ or_first (numbered_in n shapes body) (numbered_in (n + calls_in body) shapes other)
  numbered_in n shapes (Do k first body again bump) = numbered_in n shapes body
  numbered_in n shapes (Doall k m slots body) = ap (λ o. if m == number then o else None) (numbered_tested n shapes k slots body)
  numbered_in n shapes (Call line m u actuals) = refl
  numbered_in n shapes (Print line items) = refl
  numbered_in n shapes (Read line targets) = refl

  pub numbered_units : (n : ℕ) (us : List ProgramUnit) → failing_units number objects (units_numbered n us) ≡ failing_units number objects us
  numbered_units n [] = refl
  numbered_units n (u ∷ us) = ap₂ or_first (numbered_in n (shapes_of u.dummies) u.body) (numbered_units (n + calls_in u.body) us)
