-- Where an epoch is complete, and where an event finds nothing to do.
use Rattle.std.proofs.Common.{◌≡◌, ℕ, suc, ◌<◌, List, [], ◌∷◌, get_or, true, false, Option, Some, None, refl, sym, ap, ◌∙◌, arith}
use Rattle.std.specs.Prelude.{All, is_some}
use Rattle.std.proofs.lemmas.List.Elements.{All-cons}
use Rattle.cdc_prog.specs.InOrder.{first_of, choose}
use Rattle.cdc_code.specs.Frames.{Frame}
use Rattle.cdc_machine.specs.Machine.{TaskOf, Waiting, Running, Ended, DeedOf, Rests, Closes, unended, closing}
use Rattle.cdc_machine.specs.Code.{State}
use Rattle.cdc_machine.proofs.Enabled.{nowhere}
use Rattle.cdc_epoch.specs.declared.roster.Roster.{Roster}
use Rattle.cdc_epoch.specs.Taken.{AreTaken, IsLeast}
use Rattle.cdc_epoch.specs.Ties.{was_taken, holder, Keeps, AllEnded}
use Rattle.cdc_epoch.proofs.Applies.{no_first}

-- a task that has not ended keeps the epoch open
pub rests : (m : State) (i : ℕ) → i < m.count → unended (m.tasks i) ≡ Some tt → closing m ≡ Rests
rests m i lt e = by_search (first_of (λ k. unended (m.tasks k)) m.count) refl
  where
    by_search : (o : Option (Unit {0})) → first_of (λ k. unended (m.tasks k)) m.count ≡ o → choose {B = DeedOf Frame} o (λ u. Rests) Closes ≡ Rests
    by_search None none = let both : None ≡ Some tt = sym (nowhere (λ k. unended (m.tasks k)) m.count none i lt) ∙ e in absurd (cc)
    by_search (Some u) some = refl

pub closes : (m : State) → AllEnded m → closing m ≡ Closes
closes m ended = ap (λ (o : Option (Unit {0})). choose {B = DeedOf Frame} o (λ u. Rests) Closes) (no_first (λ k. unended (m.tasks k)) m.count (λ k lt. ap unended (ended k lt).2))

-- a hand that is not empty
some_hand : (hs : List (Option ℕ)) → (All (λ h. h ≡ None) hs → ⊥) → (p i : ℕ) × (get_or hs p None ≡ Some i)
some_hand [] all = absurd (all (λ k d lt. absurd (omega arith)))
some_hand (Some i ∷ hs) all = (0, i, refl)
some_hand (None ∷ hs) all = let r = some_hand hs (λ a. all (All-cons (λ h. h ≡ None) None hs refl a)) in (suc r.0, r.1, r.2)

module _ (r : Roster) (m : State) (k : Keeps r m) where
  -- a task is free
  pub free_rests : (i : ℕ) → IsLeast r.taken r.count (Some i) → closing m ≡ Rests
  free_rests i least = let lt : i < m.count = omega (arith, least.0, k.count) in rests m i lt (by_task (m.tasks i) (sym (k.taken i lt) ∙ least.1))
    where
      by_task : (t : TaskOf Frame) → was_taken t ≡ false → unended t ≡ Some tt
      by_task (Waiting at) e = refl
      by_task (Running p at) e = refl
      by_task (Ended p at) e = cc

  pub some_rests : (o : Option ℕ) → is_some o ≡ true → IsLeast r.taken r.count o → closing m ≡ Rests
  some_rests None e least = cc
  some_rests (Some i) e least = free_rests i least

  -- a task is held
  pub busy_rests : (All (λ h. h ≡ None) r.held → ⊥) → closing m ≡ Rests
  busy_rests busy = let h = some_hand r.held busy in let at = k.holds h.0 h.1 h.2 in rests m h.1 at.0 (by_task (m.tasks h.1) h.0 at.1)
    where
      by_task : (t : TaskOf Frame) (p : ℕ) → holder t ≡ Some p → unended t ≡ Some tt
      by_task (Waiting at) p e = cc
      by_task (Running q at) p e = refl
      by_task (Ended q at) p e = cc

  -- no task is free or held
  pub all_ended : AreTaken r.taken r.count → All (λ h. h ≡ None) r.held → AllEnded m
  all_ended taken rest i lt = by_task (m.tasks i) refl (sym (k.taken i lt) ∙ taken i (omega (arith, k.count)))
    where
      by_task : (t : TaskOf Frame) → m.tasks i ≡ t → was_taken t ≡ true → (p : ℕ) × (at : Frame) × (m.tasks i ≡ Ended p at)
      by_task (Waiting at) is e = cc
      by_task (Ended p at) is e = (p, at, is)
      by_task (Running p at) is e =
          let held = k.is_held p i lt (ap holder is) in
          let both : None ≡ Some i = sym (rest p None held.0) ∙ held.1 in
          absurd (cc)

  pub none_ended : (o : Option ℕ) → is_some o ≡ false → IsLeast r.taken r.count o → All (λ h. h ≡ None) r.held → AllEnded m
  none_ended None e least rest = all_ended least rest
  none_ended (Some i) e least rest = absurd (cc)
