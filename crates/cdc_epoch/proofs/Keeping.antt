-- The tasks of an epoch by their numbers, as events change them.
use Rattle.std.proofs.Common.{◌≡◌, ℕ, ◌<◌, get_or, Bool, true, Option, Some, None, refl, sym, ap, ap₂, ◌∙◌, if◌then◌else◌}
use Rattle.std.proofs.lemmas.Bool.{eq-eqb}
use Rattle.cdc_code.specs.Frames.{Frame}
use Rattle.cdc_machine.specs.Machine.{TaskOf, Waiting, Running, Ended, with_at, held, hand}
use Rattle.cdc_machine.specs.Code.{State}
use Rattle.cdc_machine.proofs.Updates.{everywhere}
use Rattle.cdc_machine.proofs.Enabled.{found, nowhere, held_means}
use Rattle.cdc_epoch.specs.declared.roster.Roster.{Roster}
use Rattle.cdc_epoch.specs.Ties.{was_taken, holder, Keeps, IsHeld}

-- the state with another task, phase and output
abbrev pub with_task : State → (i : ℕ) → TaskOf Frame → State
with_task m i t = record m { tasks = with_at m.tasks i t }

-- a task goes on in the same hands
pub keeps_task : (r : Roster) (m : State) (i : ℕ) (t : TaskOf Frame) → Keeps r m → was_taken t ≡ was_taken (m.tasks i) → holder t ≡ holder (m.tasks i) → Keeps r (with_task m i t)
keeps_task r m i t k taken hands = record {
  count = k.count;
  taken = everywhere (λ j u. j < m.count → get_or r.taken j true ≡ was_taken u) m.tasks i t (λ lt. k.taken i lt ∙ sym taken) (λ j ne. k.taken j);
  holds = λ p j e. let h = k.holds p j e in (h.0, everywhere (λ j u. holder (m.tasks j) ≡ Some p → holder u ≡ Some p) m.tasks i t (λ x. hands ∙ x) (λ j ne x. x) j h.1);
  is_held = λ p j lt e. k.is_held p j lt (everywhere (λ j u. holder u ≡ Some p → holder (m.tasks j) ≡ Some p) m.tasks i t (λ x. sym hands ∙ x) (λ j ne x. x) j e);
}

holder_means : (t : TaskOf Frame) (p : ℕ) → holder t ≡ Some p → (at : Frame) × (t ≡ Running p at)
holder_means (Waiting at) p e = absurd (cc)
holder_means (Running q at) p e = (at, ap (λ x. Running x at) (let same : q ≡ p = cc in same))
holder_means (Ended q at) p e = absurd (cc)

held_here : (p i : ℕ) (at : Frame) → held p i (Running p at) ≡ Some (i, at)
held_here p i at = ap (λ (b : Bool). if b then Some (i, at) else None) (eq-eqb p p refl)

by_parts : (a b : ℕ) (f g : Frame) → a ≡ b → f ≡ g → ◌≡◌ {A = Option (ℕ × Frame)} (Some (a, f)) (Some (b, g))
by_parts a b f g number place = ap₂ (λ (x : ℕ) (y : Frame). Some (x, y)) number place

module _ (r : Roster) (m : State) (k : Keeps r m) (p : ℕ) where
  -- the task at which p was found, in the hand of p
  same_task : (h : ℕ × Frame) (j i : ℕ) (at : Frame) → j < m.count → h.0 ≡ j → m.tasks j ≡ Running p h.1 → get_or r.held p None ≡ Some i → m.tasks i ≡ Running p at → Some h ≡ Some (i, at)
  same_task h j i at lt number task e runs =
      let there : get_or r.held p None ≡ Some j = (k.is_held p j lt (ap holder task)).1 in
      let same : j ≡ i = (let both : Some j ≡ Some i = sym there ∙ e in cc) in
      let both : Running p h.1 ≡ Running p at = sym task ∙ ap m.tasks same ∙ runs in
      let place : h.1 ≡ at = cc in
      by_parts h.0 i h.1 at (number ∙ same) place

  -- the task that the roster says p holds is what p holds
  pub hand_some : (i : ℕ) → get_or r.held p None ≡ Some i → (at : Frame) × IsHeld m p i at × (hand p m ≡ Some (i, at))
  hand_some i e =
      let h = k.holds p i e in
      let t = holder_means (m.tasks i) p h.1 in
      (t.0, record { there = h.0; runs = t.1 }, by_search (hand p m) refl h.0 t.0 t.1)
    where
      by_search : (o : Option (ℕ × Frame)) → hand p m ≡ o → i < m.count → (at : Frame) → m.tasks i ≡ Running p at → o ≡ Some (i, at)
      by_search None q lt at runs =
          let none : held p i (m.tasks i) ≡ None = nowhere (λ j. held p j (m.tasks j)) m.count q i lt in
          let some : held p i (m.tasks i) ≡ Some (i, at) = ap (held p i) runs ∙ held_here p i at in
          absurd (cc)
      by_search (Some h) q lt at runs =
          let f = found (λ j. held p j (m.tasks j)) m.count h q in
          let w = held_means p f.0 (m.tasks f.0) h f.2 in
          same_task h f.0 i at f.1 w.0 w.1 e runs

  -- where the roster says that p holds none, it holds none
  pub hand_none : get_or r.held p None ≡ None → hand p m ≡ None
  hand_none e = by_search (hand p m) refl
    where
      by_search : (o : Option (ℕ × Frame)) → hand p m ≡ o → o ≡ None
      by_search None q = refl
      by_search (Some h) q =
          let f = found (λ j. held p j (m.tasks j)) m.count h q in
          let w = held_means p f.0 (m.tasks f.0) h f.2 in
          let there : get_or r.held p None ≡ Some f.0 = (k.is_held p f.0 f.1 (ap holder w.1)).1 in
          absurd (cc)
