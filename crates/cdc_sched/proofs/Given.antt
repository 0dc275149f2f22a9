-- What a call of a list of events gives and passes over.
use Rattle.std.proofs.Common.{◌≡◌, ℕ, zero, suc, ◌+◌, ◌-◌, ◌≤◌, List, [], ◌∷◌, ◌++◌, Option, Some, None, Ok, Err, refl, sym, ◌∙◌, ap, subst, inr, arith, append_assoc}
use Rattle.std.specs.Prelude.{replicate}
use Rattle.std.proofs.lemmas.List.{replicate-append-replicate}
use Rattle.cdc_sched.specs.declared.event.Event.{Event}
use Rattle.cdc_sched.specs.declared.events.EventRefusal.TheVariants.{BadEvent}
use Rattle.cdc_sched.specs.Told.{Told, Answer, told_of, Gives, GivesNext, PassedOver}

one_less : (n : ℕ) (event : Event) → 1 ≤ n → replicate n event ≡ event ∷ replicate (n - 1) event
one_less zero event some = absurd (omega (arith, some))
one_less (suc n) event some = let same : n ≡ suc n - 1 = omega arith in ap (λ k. event ∷ replicate k event) same

next_given : (events more : List Event) (event : Event) (bad : Option ℕ) → events ≡ event ∷ more → GivesNext events bad (told_of more bad) (Ok (Some event))
next_given events more event bad e = subst (λ es. GivesNext es bad (told_of more bad) (Ok (Some event))) (sym e) (refl, refl)

pub given : (n : ℕ) (event : Event) (more : List Event) (bad : Option ℕ) → 1 ≤ n → Gives (told_of (replicate n event ++ more) bad) (told_of (replicate (n - 1) event ++ more) bad) (Ok (Some event))
given n event more bad some = inr (next_given (replicate n event ++ more) (replicate (n - 1) event ++ more) event bad (ap (λ es. es ++ more) (one_less n event some)))

pub given_same : (old mid now : Option Told) (answer : Answer) → mid ≡ old → Gives mid now answer → Gives old now answer
given_same old mid now answer e g = subst (λ t. Gives t now answer) e g

pub given_none : (old now : Option Told) → old ≡ told_of [] None → now ≡ old → Gives old now (Ok None)
given_none old now e f = subst (λ t. Gives t now (Ok None)) (sym e) (inr (refl, f ∙ e))

pub given_bad : (old now : Option Told) (line : ℕ) → old ≡ told_of [] (Some line) → now ≡ old → Gives old now (Err (BadEvent line))
given_bad old now line e f = subst (λ t. Gives t now (Err (BadEvent line))) (sym e) (inr (refl, f ∙ e))

split : (n count : ℕ) (event : Event) (more : List Event) → n ≤ count → replicate count event ++ more ≡ replicate n event ++ (replicate (count - n) event ++ more)
split n count event more le =
    let whole : n + (count - n) ≡ count = omega (arith, le) in
    ap (λ es. es ++ more) (ap (λ k. replicate k event) (sym whole) ∙ sym (replicate-append-replicate n (count - n) event)) ∙ append_assoc (replicate n event) (replicate (count - n) event) more

pub passed : (n count : ℕ) (event : Event) (more : List Event) (bad : Option ℕ) → n ≤ count → PassedOver (Some (Ok (Some event))) (told_of (replicate count event ++ more) bad) (told_of (replicate (count - n) event ++ more) bad) n
passed n count event more bad le = inr (event, replicate (count - n) event ++ more, refl, split n count event more le, refl)
