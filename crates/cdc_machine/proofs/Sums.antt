-- Sums over the tasks of an epoch.
use Rattle.std.proofs.Common.{◌≡◌, ℕ, zero, suc, ◌+◌, ◌*◌, ◌<◌, ◌≤◌, ◌⊎◌, inl, inr, Option, Some, None, refl, sym, ap, ap₂, ◌∙◌, arith}
use Rattle.cdc_prog.specs.declared.fault.Fault.{Fault}
use Rattle.cdc_prog.specs.Data.{Store}
use Rattle.cdc_prog.specs.Process.{Process}
use Rattle.cdc_prog.specs.Alone.{ticks}
use Rattle.cdc_prog.specs.Apart.{AreApart}
use Rattle.cdc_prog.specs.InOrder.{after, first_fault, choose}
use Rattle.cdc_prog.specs.Cost.{spent_in_full}
use Rattle.cdc_prog.proofs.Order.{apart_in_order}
use Rattle.cdc_machine.specs.Machine.{with_at}
use Rattle.cdc_machine.specs.Standing.{sum_below}
use Rattle.cdc_machine.proofs.Updates.{at_place, elsewhere}

pub sum_alike : (n : ℕ) (f g : ℕ → ℕ) → ((k : ℕ) → k < n → f k ≡ g k) → sum_below n f ≡ sum_below n g
sum_alike zero f g same = refl
sum_alike (suc n) f g same = ap₂ (λ (a b : ℕ). a + b) (sum_alike n f g (λ k lt. same k (omega arith))) (same n (omega arith))

pub sum_at_most : (n : ℕ) (f g : ℕ → ℕ) → ((k : ℕ) → k < n → f k ≤ g k) → sum_below n f ≤ sum_below n g
sum_at_most zero f g le = omega arith
sum_at_most (suc n) f g le = omega (arith, sum_at_most n f g (λ k lt. le k (omega arith)), le n (omega arith))

-- where one of them changes
pub sum_with : {A : Type 0} (g : A → ℕ) (n : ℕ) (f : ℕ → A) (i : ℕ) (a : A) → i < n → sum_below n (λ j. g (with_at f i a j)) + g (f i) ≡ sum_below n (λ j. g (f j)) + g a
sum_with g zero f i a lt = absurd (omega (arith, lt))
sum_with g (suc n) f i a lt =
    let last_or_earlier : (i ≡ n) ⊎ (i < n) = grind arith in
    elim last_or_earlier [
      | inl e ↦
          let below = sum_alike n (λ j. g (with_at f i a j)) (λ j. g (f j)) (λ j l. ap g (elsewhere f i a j (λ q. omega (arith, l, e, q)))) in
          let here = ap g (ap (with_at f i a) (sym e) ∙ at_place f i a) in
          let old = ap (λ j. g (f j)) e in
          omega (arith, below, here, old)
      | inr l ↦
          let below = sum_with g n f i a l in
          let here = ap g (elsewhere f i a n (λ q. omega (arith, l, q))) in
          omega (arith, below, here)
    ]

-- iterations that are apart cost in order what they cost alone on the store on which they begin
module _ (n : ℕ) (body : ℕ → Process) (s : Store) (apart : AreApart n body s) where
  either : (o : Option Fault) (x y : ℕ) → y ≡ x → choose o (λ f. x) y ≡ x
  either None x y e = e
  either (Some f) x y e = refl

  pub cost_alone : (k : ℕ) → k ≤ n → sum_below k (λ i. 8 * ticks (body i) s) ≡ 8 * spent_in_full k body s
  cost_alone zero le = refl
  cost_alone (suc k) le =
      let last = either (first_fault k body s) (ticks (body k) s) (ticks (body k) (after k body s)) (apart_in_order n body s apart k (omega arith)).ticks in
      omega (arith, cost_alone k (omega arith), last)
