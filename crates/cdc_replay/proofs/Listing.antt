-- Listed events that are applied or passed over.
use Rattle.std.proofs.Common.{◌≡◌, ◌⊎◌, ℕ, zero, suc, ◌+◌, ◌-◌, ◌<◌, ◌≤◌, List, ◌∷◌, ◌++◌, length, refl, sym, ap, ◌∙◌, subst, arith, Bool, true, false, inl, inr}
use Rattle.std.specs.Prelude.{Option, Some, None, is_some, is_none, nat_lt, ◌&&◌, replicate}
use Rattle.std.specs.Option.{option_map}
use Rattle.std.proofs.lemmas.Bool.Decides.{nat_tests}
use Rattle.cdc_prog.specs.InOrder.{End}
use Rattle.cdc_fabric.specs.declared.fabric.Fabric.{Ghosts}
use Rattle.cdc_sched.specs.declared.event.Event.{Event}
use Rattle.cdc_sched.specs.Told.{Told}
use Rattle.cdc_machine.specs.declared.effect.Effect.{Effect}
use Rattle.cdc_machine.specs.Machine.{Rests, deed}
use Rattle.cdc_machine.specs.Code.{run, ended_with}
use Rattle.cdc_code.specs.Frames.{Frame}
use Rattle.cdc_machine.specs.History.{HistoryOf}
use Rattle.cdc_epoch.specs.declared.engine.Engine.{Engine}
use Rattle.cdc_replay.specs.declared.progress.Progress.{Progress}
use Rattle.cdc_epoch.specs.declared.outcome.Outcome.{Outcome}
use Rattle.cdc_replay.specs.Refused.{end_of}
use Rattle.cdc_replay.specs.Effects.{passed, can_go_on, IsIdleAgain}
use Rattle.cdc_replay.specs.Applied.{has_ended}
use Rattle.cdc_replay.specs.Replays.{Opening, Playing, TakesOn, Begins, Skipped, whole, effect_of}
use Rattle.cdc_replay.proofs.Leads.{stops, one, many, grows}
use Rattle.cdc_replay.proofs.Idle.{rests, stays_long, plays_long, ended_long}

-- ---- whether a run goes on
end_some : (o : Option End) → is_none (option_map end_of o) ≡ false → is_some o ≡ true
end_some None is = absurd (cc is)
end_some (Some end) is = refl

end_none : (o : Option End) → option_map end_of o ≡ None → is_some o ≡ false
end_none None is = refl
end_none (Some end) is = absurd (cc is)

by_left : (left : ℕ) (none : Bool) → (nat_lt 0 left && none) ≡ false → (left ≡ 0) ⊎ (none ≡ false)
by_left zero none is = inl refl
by_left (suc left) none is = let more : nat_lt 0 (suc left) ≡ true = grind (arith, nat_tests) in inr (ap (λ b. b && none) (sym more) ∙ is)

none_of : (o : Option Outcome) → is_none o ≡ true → o ≡ None
none_of None is = refl
none_of (Some e) is = absurd (cc is)

both : (left : ℕ) (none : Bool) → (nat_lt 0 left && none) ≡ true → (1 ≤ left) × (none ≡ true)
both zero none is = let less : nat_lt 0 0 ≡ false = grind (arith, nat_tests) in let no_more : false ≡ true = ap (λ b. b && none) (sym less) ∙ is in absurd (cc no_more)
both (suc left) none is = let more : nat_lt 0 (suc left) ≡ true = grind (arith, nat_tests) in (omega arith, ap (λ b. b && none) (sym more) ∙ is)

pub can_left : (p : Progress) → can_go_on p ≡ true → 1 ≤ p.left
can_left p is = (both p.left (is_none p.end) is).0

pub can_run : (p : Progress) → can_go_on p ≡ true → p.end ≡ None
can_run p is = none_of p.end (both p.left (is_none p.end) is).1

module _ {F : Type 0} (side : Ghosts F) (o : Opening F) where
  abbrev ended : List Event → Bool
  ended = has_ended o.code o.records

  -- no event is applied any more
  pub stopped : (applied : List Event) (engine : Engine F side) (p : Progress) (waits : List ℕ) (now : Option (List ℕ)) → Playing side o applied engine p waits now → can_go_on p ≡ false → (p.left ≡ 0) ⊎ (ended applied ≡ true)
  stopped applied engine p waits now h is = by_case (by_left p.left (is_none p.end) is)
    where
      by_case : (p.left ≡ 0) ⊎ (is_none p.end ≡ false) → (p.left ≡ 0) ⊎ (ended applied ≡ true)
      by_case (inl none) = inl none
      by_case (inr some) = inr (end_some (ended_with (run o.code o.records applied).machine.phase) (ap is_none (sym h.ended) ∙ some))

  -- one may be
  pub running : (applied : List Event) (engine : Engine F side) (p : Progress) (waits : List ℕ) (now : Option (List ℕ)) → Playing side o applied engine p waits now → can_go_on p ≡ true → ended applied ≡ false
  running applied engine p waits now h is = end_none (ended_with (run o.code o.records applied).machine.phase) (sym h.ended ∙ can_run p is)

  -- ---- a listed event that is passed over
  pub passes : (e : Event) (told now : Option Told) (n left : ℕ) (applied : List Event) → (left ≡ 0) ⊎ (ended applied ≡ true) → Skipped e told now n → TakesOn o e told now left applied left applied
  passes e None now n left applied h skip = skip
  passes e (Some t) now n left applied h skip =
      (skip.0, skip.2, λ tail. stops ended (e ∷ t.events) t.bad tail left applied h ∙ sym (stops ended skip.0 t.bad tail left applied h))

  -- ---- one that is applied, and those that are the same and idle
  zero_passed : (p : Progress) → passed 0 p ≡ p
  zero_passed p =
      let left : p.left - 0 ≡ p.left = omega arith in
      let idle : p.idle + 0 ≡ p.idle = omega arith in
      ap (λ (l : ℕ). record { left = l; idle = p.idle + 0; is_open = p.is_open; end = p.end }) left ∙ ap (λ (i : ℕ). record { left = p.left; idle = i; is_open = p.is_open; end = p.end }) idle

  rest_again : (e : Event) (applied : List Event) (f : F) (x : Effect) → x ≡ effect_of side o applied f e → IsIdleAgain e x → deed e (run o.code o.records (e ∷ applied)).machine ≡ Rests
  rest_again e applied f x is idle =
      let rest = rests side o e applied f x is idle in
      ap (λ (h : HistoryOf Frame). deed e h.machine) (stays_long side o 1 e applied rest) ∙ rest

  pub many_play : (n : ℕ) (e : Event) (applied : List Event) (f : F) (x : Effect) (engine : Engine F side) (p : Progress) (waits : List ℕ) (now : Option (List ℕ)) → (0 < n → IsIdleAgain e x) → x ≡ effect_of side o applied f e → n ≤ p.left
      → Playing side o (e ∷ applied) engine p waits now → Playing side o (replicate n e ++ e ∷ applied) engine (passed n p) waits now
  many_play zero e applied f x engine p waits now idle is within h = subst (λ (q : Progress). Playing side o (e ∷ applied) engine q waits now) (sym (zero_passed p)) h
  many_play (suc n) e applied f x engine p waits now idle is within h = plays_long side o (suc n) e (e ∷ applied) engine p waits now (rest_again e applied f x is (idle (omega arith))) within h

  many_lead : (n : ℕ) (e : Event) (applied : List Event) (f : F) (x : Effect) (listed : List Event) (bad : Option ℕ) (tail : ℕ → Option Event) (left : ℕ) → (0 < n → IsIdleAgain e x) → x ≡ effect_of side o applied f e → n ≤ left → ended applied ≡ false
      → whole o (replicate n e ++ listed) bad tail left (e ∷ applied) ≡ whole o listed bad tail (left - n) (replicate n e ++ e ∷ applied)
  many_lead zero e applied f x listed bad tail left idle is within runs = let z : left ≡ left - 0 = omega arith in ap (λ (l : ℕ). whole o listed bad tail l (e ∷ applied)) z
  many_lead (suc n) e applied f x listed bad tail left idle is within runs =
      let again = idle (omega arith) in
      let here : ended (e ∷ applied) ≡ false = ended_long side o 1 e applied (rests side o e applied f x is again) ∙ runs in
      many ended (suc n) e listed bad tail left (e ∷ applied) within (λ k. ended_long side o k e (e ∷ applied) (rest_again e applied f x is again) ∙ here)

  pub takes : (e : Event) (told now : Option Told) (n left later : ℕ) (applied : List Event) (f : F) (x : Effect) → 1 ≤ left → n ≤ left - 1 → later ≡ left - 1 - n → (0 < n → IsIdleAgain e x) → x ≡ effect_of side o applied f e → ended applied ≡ false
      → Skipped e told now n → TakesOn o e told now left applied later (replicate n e ++ e ∷ applied)
  takes e None now n left later applied f x some within is_later idle is runs skip = skip
  takes e (Some t) now n left later applied f x some within is_later idle is runs skip = (
    skip.0,
    skip.2,
    λ tail.
        one ended e t.events t.bad tail left applied some runs
        ∙ (ap (λ (l : List Event). whole o l t.bad tail (left - 1) (e ∷ applied)) skip.1
        ∙ (many_lead n e applied f x skip.0 t.bad tail (left - 1) idle is within runs
        ∙ ap (λ (l : ℕ). whole o skip.0 t.bad tail l (replicate n e ++ e ∷ applied)) (sym is_later))),
  )

  -- or the sink failed in it
  pub begins : (e : Event) (t : Told) (left : ℕ) (applied : List Event) → 1 ≤ left → ended applied ≡ false → Begins o (e ∷ t.events) t.bad left applied (e ∷ applied)
  begins e t left applied some runs = λ tail.
      let more = grows ended t.events t.bad tail (left - 1) (e ∷ applied) in
      (more.0, one ended e t.events t.bad tail left applied some runs ∙ more.1)

  -- what is left after one event and n more
  pub left_after : (e : Event) (applied : List Event) (before after : Engine F side) (p q : Progress) (waits waits_now : List ℕ) (mid now : Option (List ℕ)) → Playing side o applied before p waits mid → Playing side o (e ∷ applied) after q waits_now now → q.left ≡ p.left - 1
  left_after e applied before after p q waits waits_now mid now h k = count p.left q.left (length applied) o.bound h.has.left k.has.left
    where
      count : (a b n m : ℕ) → a + n ≡ m → b + suc n ≡ m → b ≡ a - 1
      count a b n m x y = omega (arith, x, y)
