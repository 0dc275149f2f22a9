-- A program without a conflict is apart at every fork that is reached.
use Rattle.std.proofs.Common.{◌≡◌, ℕ, zero, suc, ◌<◌, ◌≤◌, ◌⊎◌, inl, inr, Option, Some, None, refl, subst, arith}
use Rattle.cdc_base.specs.declared.place.Place.{Place}
use Rattle.cdc_prog.specs.Plain.{Program}
use Rattle.cdc_prog.specs.Input.{Input}
use Rattle.cdc_prog.specs.InOrder.{or_else, first_of}
use Rattle.cdc_prog.specs.Units.{process_of}
use Rattle.cdc_prog.specs.Apart.{IsApart}
use Rattle.cdc_prog.specs.Dependence.{Spot, failing}
use Rattle.cdc_prog.specs.Iterations.{KeepsPremises, HasDoallNumbers}
use Rattle.cdc_prog.proofs.Parallel.{parallel_is_apart, apart_by_number}
use Rattle.cdc_subtest.specs.Verdicts.{places}
use Rattle.cdc_subtest.specs.Conflicts.{conflict_in}
use Rattle.cdc_subtest.proofs.Programs.{orderly_apart}

both_none : {A : Type 0} (a b : Option A) → or_else a b ≡ None → (a ≡ None) × (b ≡ None)
both_none None b e = (refl, e)
both_none (Some x) b e = cc

no_places : (o : Option (Spot × Spot)) → places o ≡ None → o ≡ None
no_places None e = refl
no_places (Some pair) e = cc

none_below : (f : ℕ → Option (Place × Place)) (n k : ℕ) → first_of f n ≡ None → k < n → f k ≡ None
none_below f zero k none less = absurd (omega (arith, less))
none_below f (suc n) k none less =
    let both = both_none (first_of f n) (f n) none in
    let before_or_here : (k < n) ⊎ (n ≡ k) = grind arith in
    elim before_or_here [
      | inl before ↦ none_below f n k both.0 before
      | inr here ↦ subst (λ i. f i ≡ None) here both.1
    ]

none_fails : (p : Program) (number : ℕ) → conflict_in p ≡ None → 1 ≤ number → number ≤ p.doalls → failing p number ≡ None
none_fails p zero none low high = absurd (omega (arith, low))
none_fails p (suc before) none low high = no_places (failing p (suc before)) (none_below (λ k. places (failing p (suc k))) p.doalls before none (omega (arith, high)))

pub no_conflict_apart : (p : Program) → KeepsPremises p → HasDoallNumbers p → conflict_in p ≡ None → (records : Input) → IsApart (process_of p records)
no_conflict_apart p premises numbers none =
    parallel_is_apart p (apart_by_number p numbers (λ number low high. orderly_apart p number (none_fails p number none low high) premises))
