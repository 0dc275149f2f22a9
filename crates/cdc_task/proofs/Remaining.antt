-- How much of a run is left.
use Rattle.std.proofs.Common.{◌≡◌, ℕ, zero, suc, ◌≤◌, Option, Some, None, refl, sym, ap, subst, arith}
use Rattle.cdc_code.specs.declared.code.Code.{Code}
use Rattle.cdc_task.specs.Course.{Place, next_place, EndsIn, Lasts, remaining_of, remaining}

module _ (code : Code) where
  remains_of : (n most : ℕ) (o : Option Place) → EndsIn code n o → n ≤ most → remaining_of code most o ≡ n
  remains_of zero zero o e le = refl
  remains_of zero (suc most) None e le = refl
  remains_of zero (suc most) (Some p) e le = absurd e
  remains_of (suc n) zero o e le = absurd (omega (arith, le))
  remains_of (suc n) (suc most) None e le = absurd e
  remains_of (suc n) (suc most) (Some p) e le = ap suc (remains_of n most (next_place code p) e (omega (arith, le)))

  pub remains : (n most : ℕ) (p : Place) → Lasts code n p → n ≤ most → remaining code most p ≡ n
  remains n most p e le = remains_of n most (next_place code p) e le

  -- one further
  pub further : (n : ℕ) (p q : Place) → next_place code p ≡ Some q → Lasts code n p → (m : ℕ) × (n ≡ suc m) × Lasts code m q
  further zero p q e h = absurd (subst (EndsIn code zero) e h)
  further (suc m) p q e h = (m, refl, subst (EndsIn code (suc m)) e h)

  -- one before
  pub before : (n : ℕ) (p q : Place) → next_place code p ≡ Some q → Lasts code n q → Lasts code (suc n) p
  before n p q e h = subst (EndsIn code (suc n)) (sym e) h

  pub last : (p : Place) → next_place code p ≡ None → Lasts code 0 p
  last p e = subst (EndsIn code 0) (sym e) tt
