-- The events that a run applies in all, from where it has come.
use Rattle.std.proofs.Common.{◌≡◌, ◌⊎◌, ℕ, zero, suc, ◌-◌, ◌≤◌, List, [], ◌∷◌, ◌++◌, refl, sym, ap, ◌∙◌, arith, Bool, true, false, if◌then◌else◌, append_assoc, inl, inr}
use Rattle.std.specs.Prelude.{Option, Some, None, replicate}
use Rattle.cdc_prog.specs.InOrder.{choose}
use Rattle.cdc_sched.specs.declared.event.Event.{Event}
use Rattle.cdc_replay.specs.Applied.{with_tail, with_listed, behind_listed}

module _ (ended : List Event → Bool) where
  abbrev all : List Event → Option ℕ → (ℕ → Option Event) → ℕ → List Event → List Event
  all listed bad tail left applied = with_listed ended listed (behind_listed ended bad tail) left applied

  -- ---- where it stops
  tail_at_none : (tail : ℕ → Option Event) (left k : ℕ) (applied : List Event) → left ≡ 0 → with_tail ended tail left k applied ≡ applied
  tail_at_none tail zero k applied is = refl
  tail_at_none tail (suc left) k applied is = absurd (omega (arith, is))

  pub tail_stops : (tail : ℕ → Option Event) (left k : ℕ) (applied : List Event) → (left ≡ 0) ⊎ (ended applied ≡ true) → with_tail ended tail left k applied ≡ applied
  tail_stops tail left k applied (inl is) = tail_at_none tail left k applied is
  tail_stops tail zero k applied (inr is) = refl
  tail_stops tail (suc left) k applied (inr is) = ap (λ b. if b then applied else choose (tail k) (λ e. with_tail ended tail left (suc k) (e ∷ applied)) applied) is

  pub stops : (listed : List Event) (bad : Option ℕ) (tail : ℕ → Option Event) (left : ℕ) (applied : List Event) → (left ≡ 0) ⊎ (ended applied ≡ true) → all listed bad tail left applied ≡ applied
  stops [] None tail left applied h = tail_stops tail left 0 applied h
  stops [] (Some line) tail left applied h = refl
  stops (e ∷ listed) bad tail zero applied h = refl
  stops (e ∷ listed) bad tail (suc left) applied (inl is) = absurd (omega (arith, is))
  stops (e ∷ listed) bad tail (suc left) applied (inr is) = ap (λ b. if b then applied else all listed bad tail left (e ∷ applied)) is

  -- ---- where it goes on
  pub one : (e : Event) (listed : List Event) (bad : Option ℕ) (tail : ℕ → Option Event) (left : ℕ) (applied : List Event) → 1 ≤ left → ended applied ≡ false → all (e ∷ listed) bad tail left applied ≡ all listed bad tail (left - 1) (e ∷ applied)
  one e listed bad tail zero applied some is = absurd (omega (arith, some))
  one e listed bad tail (suc left) applied some is =
      let z : left ≡ suc left - 1 = omega arith in
      ap (λ b. if b then applied else all listed bad tail left (e ∷ applied)) is ∙ ap (λ (l : ℕ). all listed bad tail l (e ∷ applied)) z

  pub tail_one : (tail : ℕ → Option Event) (left k : ℕ) (applied : List Event) (e : Event) → 1 ≤ left → ended applied ≡ false → tail k ≡ Some e → with_tail ended tail left k applied ≡ with_tail ended tail (left - 1) (suc k) (e ∷ applied)
  tail_one tail zero k applied e some is there = absurd (omega (arith, some))
  tail_one tail (suc left) k applied e some is there =
      let z : left ≡ suc left - 1 = omega arith in
      ap (λ b. if b then applied else choose (tail k) (λ e. with_tail ended tail left (suc k) (e ∷ applied)) applied) is
      ∙ (ap (λ (x : Option Event). choose x (λ e. with_tail ended tail left (suc k) (e ∷ applied)) applied) there
      ∙ ap (λ (l : ℕ). with_tail ended tail l (suc k) (e ∷ applied)) z)

  pub tail_none : (tail : ℕ → Option Event) (left k : ℕ) (applied : List Event) → tail k ≡ None → with_tail ended tail left k applied ≡ applied
  tail_none tail zero k applied there = refl
  tail_none tail (suc left) k applied there = by_end (ended applied)
    where
      by_end : (b : Bool) → (if b then applied else choose (tail k) (λ e. with_tail ended tail left (suc k) (e ∷ applied)) applied) ≡ applied
      by_end true = refl
      by_end false = ap (λ (x : Option Event). choose x (λ e. with_tail ended tail left (suc k) (e ∷ applied)) applied) there

  pub again : (n : ℕ) (e : Event) (applied : List Event) → replicate n e ++ e ∷ applied ≡ e ∷ (replicate n e ++ applied)
  again zero e applied = refl
  again (suc n) e applied = ap (λ l. e ∷ l) (again n e applied)

  -- the same event again and again
  pub many : (n : ℕ) (e : Event) (listed : List Event) (bad : Option ℕ) (tail : ℕ → Option Event) (left : ℕ) (applied : List Event) → n ≤ left → ((k : ℕ) → ended (replicate k e ++ applied) ≡ false)
      → all (replicate n e ++ listed) bad tail left applied ≡ all listed bad tail (left - n) (replicate n e ++ applied)
  many zero e listed bad tail left applied within is = let z : left ≡ left - 0 = omega arith in ap (λ (l : ℕ). all listed bad tail l applied) z
  many (suc n) e listed bad tail left applied within is =
      let z : left - 1 - n ≡ left - suc n = omega arith in
      one e (replicate n e ++ listed) bad tail left applied (omega (arith, within)) (is 0)
      ∙ (many n e listed bad tail (left - 1) (e ∷ applied) (omega (arith, within)) (λ k. ap ended (again k e applied) ∙ is (suc k))
      ∙ (ap (λ (l : ℕ). all listed bad tail l (replicate n e ++ e ∷ applied)) z ∙ ap (λ (l : List Event). all listed bad tail (left - suc n) l) (again n e applied)))

  -- ---- more and more of them
  abbrev Grows : List Event → List Event → Type 0
  Grows applied events = (more : List Event) × (events ≡ more ++ applied)

  grows_on : (e : Event) (applied events : List Event) → Grows (e ∷ applied) events → Grows applied events
  grows_on e applied events h = (h.0 ++ e ∷ [], h.1 ∙ sym (append_assoc h.0 (e ∷ []) applied))

  pub tail_grows : (tail : ℕ → Option Event) (left k : ℕ) (applied : List Event) → Grows applied (with_tail ended tail left k applied)
  tail_grows tail zero k applied = ([], refl)
  tail_grows tail (suc left) k applied = by_end (λ e. tail_grows tail left (suc k) (e ∷ applied)) (ended applied)
    where
      by_next : ((e : Event) → Grows (e ∷ applied) (with_tail ended tail left (suc k) (e ∷ applied))) → (x : Option Event) → Grows applied (choose x (λ e. with_tail ended tail left (suc k) (e ∷ applied)) applied)
      by_next later None = ([], refl)
      by_next later (Some e) = grows_on e applied (with_tail ended tail left (suc k) (e ∷ applied)) (later e)

      by_end : ((e : Event) → Grows (e ∷ applied) (with_tail ended tail left (suc k) (e ∷ applied))) → (b : Bool) → Grows applied (if b then applied else choose (tail k) (λ e. with_tail ended tail left (suc k) (e ∷ applied)) applied)
      by_end later true = ([], refl)
      by_end later false = by_next later (tail k)

  pub grows : (listed : List Event) (bad : Option ℕ) (tail : ℕ → Option Event) (left : ℕ) (applied : List Event) → Grows applied (all listed bad tail left applied)
  grows [] None tail left applied = tail_grows tail left 0 applied
  grows [] (Some line) tail left applied = ([], refl)
  grows (e ∷ listed) bad tail zero applied = ([], refl)
  grows (e ∷ listed) bad tail (suc left) applied = by_end (grows listed bad tail left (e ∷ applied)) (ended applied)
    where
      by_end : Grows (e ∷ applied) (all listed bad tail left (e ∷ applied)) → (b : Bool) → Grows applied (if b then applied else all listed bad tail left (e ∷ applied))
      by_end later true = ([], refl)
      by_end later false = grows_on e applied (all listed bad tail left (e ∷ applied)) later
