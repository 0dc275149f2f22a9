-- The store that iterations leave in order, where they are apart.
use Rattle.std.proofs.Common.{◌≡◌, ℕ, zero, suc, ◌<◌, ◌≤◌, ◌⊎◌, inl, inr, List, [], ◌++◌, Option, Some, None, refl, sym, ap, ap₂, ◌∙◌, subst, arith}
use Rattle.std.proofs.Math.Path.{fun_ext}
use Rattle.cdc_prog.specs.declared.fault.Fault.{Fault}
use Rattle.cdc_prog.specs.Data.{Store}
use Rattle.cdc_prog.specs.declared.piece.Piece.{Piece}
use Rattle.cdc_prog.specs.Process.{Process}
use Rattle.cdc_prog.specs.Alone.{accesses, left, said, ending}
use Rattle.cdc_prog.specs.Apart.{Touches, Writes, AreApart}
use Rattle.cdc_prog.specs.Bodies.{ComesOnlyTo}
use Rattle.cdc_prog.specs.InOrder.{fault_of, first_of, or_else, after, first_fault, choose, printed_below}
use Rattle.cdc_prog.proofs.Alone.{writes_touches, is_written, unwritten}
use Rattle.cdc_prog.proofs.Bodies.{silent}
use Rattle.cdc_prog.proofs.Order.{apart_in_order}

pub first_alike : {A : Type 0} (n : ℕ) (f g : ℕ → Option A) → ((k : ℕ) → k < n → f k ≡ g k) → first_of f n ≡ first_of g n
first_alike zero f g same = refl
first_alike (suc n) f g same = ap₂ or_else (first_alike n f g (λ k lt. same k (omega arith))) (same n (omega arith))

-- nothing is printed by those that print nothing
pub none_printed : (n : ℕ) (body : ℕ → Process) (s : Store) → ((k : ℕ) → ComesOnlyTo ⊥ ⊥ ⊥ (body k)) → printed_below n body s ≡ []
none_printed zero body s only = refl
none_printed (suc n) body s only =
    ap₂ (λ (a b : List Piece). a ++ b) (none_printed n body s only) (nothing (first_fault n body s) (said (body n) (after n body s)) (silent (body n) (after n body s) (only n)).0)
  where
    nothing : (o : Option Fault) (l : List Piece) → l ≡ [] → choose o (λ f. []) l ≡ []
    nothing None l e = e
    nothing (Some f) l e = refl

module _ (n : ℕ) (body : ℕ → Process) (s : Store) (apart : AreApart n body s) where
  record Left (k : ℕ) : Type 0 where
    others : (w : ℕ) → ((i : ℕ) → i < k → Writes (accesses (body i) s) w → ⊥) → after k body s w ≡ s w
    touched : (i w : ℕ) → i < k → Touches (accesses (body i) s) w → after k body s w ≡ left (body i) s w

  left_by : (k : ℕ) → k ≤ n → Left k
  left_by zero le = record { others = λ w h. refl; touched = λ i w li h. absurd (omega arith) }
  left_by (suc k) le =
      let lt : k < n = omega arith in
      let o = left_by k (omega arith) in
      let a = apart_in_order n body s apart k lt in
      let kept = λ (w : ℕ) (h : Writes (accesses (body k) s) w → ⊥). unwritten (body k) (after k body s) w (λ g. h (subst (λ l. Writes l w) a.accesses g)) in
      record {
        others = λ w h. kept w (h k (omega arith)) ∙ o.others w (λ i li. h i (omega arith));
        touched = λ i w li h.
            let earlier_or_last : (i ≡ k) ⊎ (i < k) = grind arith in
            elim earlier_or_last [
              | inl e ↦ subst (λ j. after (suc k) body s w ≡ left (body j) s w) (sym e)
                  (a.left w (o.others w (λ j lj g. apart j k w (omega arith) lt (omega arith) g (subst (λ j. Touches (accesses (body j) s) w) e h))))
              | inr l ↦ kept w (λ g. apart k i w lt (omega arith) (omega arith) g h) ∙ o.touched i w l h
            ];
      }

  -- the first fault in order is that of the least iteration that faults alone
  pub least_in_order : (f : ℕ → Option Fault) → ((k : ℕ) → k < n → f k ≡ fault_of (ending (body k) s)) → first_of f n ≡ first_fault n body s
  least_in_order f same = first_alike n f _ (λ k lt. same k lt ∙ ap fault_of (sym (apart_in_order n body s apart k lt).ending))

  some_written : (k w : ℕ) → ((i : ℕ) × (i < k) × Writes (accesses (body i) s) w) ⊎ ((i : ℕ) → i < k → Writes (accesses (body i) s) w → ⊥)
  some_written zero w = inr (λ i lt h. absurd (omega arith))
  some_written (suc k) w = go (some_written k w) (is_written (accesses (body k) s) w)
    where
      go : ((i : ℕ) × (i < k) × Writes (accesses (body i) s) w) ⊎ ((i : ℕ) → i < k → Writes (accesses (body i) s) w → ⊥) → Writes (accesses (body k) s) w ⊎ (Writes (accesses (body k) s) w → ⊥)
          → ((i : ℕ) × (i < suc k) × Writes (accesses (body i) s) w) ⊎ ((i : ℕ) → i < suc k → Writes (accesses (body i) s) w → ⊥)
      go (inl e) o = inl (e.0, omega (arith, e.1), e.2)
      go (inr f) (inl h) = inl (k, omega arith, h)
      go (inr f) (inr g) = inr (λ i lt h.
          let earlier_or_last : (i ≡ k) ⊎ (i < k) = grind arith in
          elim earlier_or_last [ inl e ↦ g (subst (λ j. Writes (accesses (body j) s) w) e h) | inr l ↦ f i l h ])

  -- a store with what each iteration leaves alone, and the opening value elsewhere, is the one that they leave in order
  pub store_in_order : (m : Store) → ((i w : ℕ) → i < n → Touches (accesses (body i) s) w → m w ≡ left (body i) s w) → ((w : ℕ) → ((i : ℕ) → i < n → Writes (accesses (body i) s) w → ⊥) → m w ≡ s w) → m ≡ after n body s
  store_in_order m touched others = fun_ext (λ w. by_word w (some_written n w))
    where
      by_word : (w : ℕ) → ((i : ℕ) × (i < n) × Writes (accesses (body i) s) w) ⊎ ((i : ℕ) → i < n → Writes (accesses (body i) s) w → ⊥) → m w ≡ after n body s w
      by_word w (inl e) =
          let h = writes_touches (accesses (body e.0) s) w e.2 in
          touched e.0 w e.1 h ∙ sym ((left_by n (omega arith)).touched e.0 w e.1 h)
      by_word w (inr f) = others w f ∙ sym ((left_by n (omega arith)).others w f)
