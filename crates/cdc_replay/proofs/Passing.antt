-- Events that are passed over.
use Rattle.std.proofs.Common.{◌≡◌, ℕ, ◌++◌, inl, inr, refl, sym, ap, ◌∙◌}
use Rattle.std.specs.Prelude.{Option, Some, None, Ok, replicate}
use Rattle.cdc_sched.specs.declared.event.Event.{Event}
use Rattle.cdc_sched.specs.declared.event.Event.TheVariants as event
use Rattle.cdc_sched.specs.Told.{Told, Answer, PassedOver}
use Rattle.cdc_machine.specs.declared.effect.Effect.{Effect}
use Rattle.cdc_machine.specs.declared.effect.Effect.TheVariants as effect
use Rattle.cdc_replay.specs.Effects.{IsIdleAgain}
use Rattle.cdc_replay.specs.Replays.{Skipped}

abbrev given_in : Event → Option Answer → Event
given_in e (Some (Ok (Some event))) = event
given_in e answer = e

pub skipped : (e : Event) (told now : Option Told) (last : Option Answer) (n : ℕ) → last ≡ Some (Ok (Some e)) → PassedOver last told now n → Skipped e told now n
skipped e None now last n is h = h
skipped e (Some t) now last n is (inl h) = (t.events, ap (λ k. replicate k e ++ t.events) (sym h.0), h.1)
skipped e (Some t) now last n is (inr h) =
    let same : h.0 ≡ e = ap (given_in e) (sym h.2 ∙ is) in
    (h.1, h.3 ∙ ap (λ (x : Event). replicate n x ++ h.1) same, h.4)

pub no_skip : (e : Event) (told : Option Told) → Skipped e told told 0
no_skip e None = refl
no_skip e (Some t) = (t.events, refl, refl)

pub idle_is : (e : Event) (f : Effect) → f ≡ effect.Idle → ((p line : ℕ) → e ≡ event.Evict p line → ⊥) → IsIdleAgain e f
idle_is (event.Take p i) f is other = is
idle_is (event.Step p) f is other = is
idle_is (event.Next p) f is other = is
idle_is (event.Evict p line) f is other = other p line refl
