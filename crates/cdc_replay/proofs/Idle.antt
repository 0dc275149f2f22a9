-- Idle events that come again.
use Rattle.std.proofs.Common.{◌≡◌, ℕ, zero, suc, ◌+◌, ◌-◌, ◌≤◌, pos, List, ◌∷◌, ◌++◌, length, refl, sym, ap, ◌∙◌, subst, arith, Bool, true, false}
use Rattle.std.specs.Prelude.{Option, Some, None, is_some, replicate}
use Rattle.std.specs.Option.{option_map}
use Rattle.cdc_prog.specs.declared.fault.Fault.{Fault}
use Rattle.cdc_prog.specs.Input.{Input}
use Rattle.cdc_prog.specs.InOrder.{choose, first_of}
use Rattle.cdc_prog.specs.Meaning.{bytes_of}
use Rattle.cdc_prog.specs.Lines.{is_open}
use Rattle.cdc_code.specs.declared.code.Code.{Code}
use Rattle.cdc_code.specs.Act.{Act, Goes, Reads, Writes, Prints, Forks, Joins, Halts, Faults, Stuck}
use Rattle.cdc_code.specs.Frames.{Frame}
use Rattle.cdc_code.specs.Rows.{act}
use Rattle.cdc_fabric.specs.declared.fabric.Fabric.{Ghosts}
use Rattle.cdc_sched.specs.declared.event.Event.{Event}
use Rattle.cdc_sched.specs.declared.event.Event.TheVariants as event
use Rattle.cdc_machine.specs.declared.effect.Effect.{Effect}
use Rattle.cdc_machine.specs.declared.effect.Effect.TheVariants as effect
use Rattle.cdc_machine.specs.Machine.{PhaseOf, Serial, Doall, Over, DeedOf, Rests, Takes, Acts, Closes, Drops, deed, enabled, closing, unended, hand, free, least_free, taking, acting, unless_over, call, told, act_effect, closing_effect, least_fault}
use Rattle.cdc_machine.specs.History.{HistoryOf, given, went}
use Rattle.cdc_machine.specs.Code.{State, entry_of, exit_of, run, ended_with}
use Rattle.cdc_epoch.specs.declared.engine.Engine.{Engine}
use Rattle.cdc_replay.specs.declared.progress.Progress.{Progress}
use Rattle.cdc_epoch.specs.Side.{Made}
use Rattle.cdc_epoch.specs.Ties.{Ties, is_there}
use Rattle.cdc_replay.specs.Refused.{end_of}
use Rattle.cdc_replay.specs.Effects.{idles, passed, IsIdleAgain}
use Rattle.cdc_replay.specs.Applied.{output_after, has_ended}
use Rattle.cdc_replay.specs.Replays.{Opening, HasApplied, Playing, Led, effect_of}

-- ---- what is idle, but for evictions, rests
abbrev NoDrop : DeedOf Frame → Type 0
NoDrop (Drops p line) = ⊥
NoDrop d = Unit {0}

abbrev is_idle : Effect → Bool
is_idle effect.Idle = true
is_idle e = false

act_no_idle : (look : Frame → Act Frame) (entry exit : ℕ → List ℕ) (phase : PhaseOf Frame) (a : Act Frame) → is_idle (act_effect look entry exit phase a) ≡ false
act_no_idle look entry exit phase (Goes g) = refl
act_no_idle look entry exit phase (Reads path site mark word next) = refl
act_no_idle look entry exit phase (Writes path site word v g) = refl
act_no_idle look entry exit phase (Prints piece g) = refl
act_no_idle look entry exit phase (Forks path number n from by e g) = refl
act_no_idle look entry exit Serial Joins = refl
act_no_idle look entry exit (Doall number next) Joins = refl
act_no_idle look entry exit (Over end) Joins = refl
act_no_idle look entry exit Serial Halts = refl
act_no_idle look entry exit (Doall number next) Halts = refl
act_no_idle look entry exit (Over end) Halts = refl
act_no_idle look entry exit Serial (Faults kind line) = refl
act_no_idle look entry exit (Doall number next) (Faults kind line) = refl
act_no_idle look entry exit (Over end) (Faults kind line) = refl
act_no_idle look entry exit phase Stuck = refl

fault_no_idle : (o : Option Fault) → is_idle (choose o (λ f. effect.Faulted f.kind f.line) effect.Boundary) ≡ false
fault_no_idle None = refl
fault_no_idle (Some f) = refl

closing_no_idle : (look : Frame → Act Frame) (entry exit : ℕ → List ℕ) (phase : PhaseOf Frame) (m : State) → is_idle (closing_effect look entry exit phase m) ≡ false
closing_no_idle look entry exit Serial m = refl
closing_no_idle look entry exit (Doall number next) m = fault_no_idle (least_fault look entry exit m)
closing_no_idle look entry exit (Over end) m = refl

idle_rests : (look : Frame → Act Frame) (entry exit : ℕ → List ℕ) (d : DeedOf Frame) (m : State) (there : Bool) → told look entry exit d m there ≡ effect.Idle → NoDrop d → d ≡ Rests
idle_rests look entry exit Rests m there is clear = refl
idle_rests look entry exit (Takes p i at) m there is clear = absurd (cc (ap is_idle is))
idle_rests look entry exit (Acts p i at) m there is clear = absurd (cc (ap is_idle is, act_no_idle look entry exit m.phase (look at)))
idle_rests look entry exit Closes m there is clear = absurd (cc (ap is_idle is, closing_no_idle look entry exit m.phase m))
idle_rests look entry exit (Drops p line) m there is clear = absurd clear

-- ---- an event that is no eviction drops nothing
closing_drops : {A : Type 0} (o : Option A) → NoDrop (choose o (λ u. Rests) Closes)
closing_drops None = tt
closing_drops (Some u) = tt

hand_drops : (p : ℕ) (o : Option (ℕ × Frame)) (d : DeedOf Frame) → NoDrop d → NoDrop (choose o (acting p) d)
hand_drops p None d clear = clear
hand_drops p (Some h) d clear = tt

take_drops : (p : ℕ) (o : Option (ℕ × Frame)) (d : DeedOf Frame) → NoDrop d → NoDrop (choose o (taking p) d)
take_drops p None d clear = clear
take_drops p (Some h) d clear = tt

rest_drops : (o : Option (ℕ × Frame)) (d : DeedOf Frame) → NoDrop d → NoDrop (choose o (λ h. Rests) d)
rest_drops None d clear = clear
rest_drops (Some h) d clear = tt

no_drop : (e : Event) (m : State) (f : Effect) → IsIdleAgain e f → NoDrop (enabled e m)
no_drop (event.Take p i) m f h = rest_drops (hand p m) (choose (free i m) (taking p) Rests) (take_drops p (free i m) Rests tt)
no_drop (event.Step p) m f h = hand_drops p (hand p m) (closing m) (closing_drops (first_of (λ k. unended (m.tasks k)) m.count))
no_drop (event.Next p) m f h = hand_drops p (hand p m) (choose (least_free m) (taking p) (closing m)) (take_drops p (least_free m) (closing m) (closing_drops (first_of (λ k. unended (m.tasks k)) m.count)))
no_drop (event.Evict p line) m f h = absurd h

over_drops : (phase : PhaseOf Frame) (d : DeedOf Frame) → NoDrop d → NoDrop (unless_over phase d)
over_drops Serial d clear = clear
over_drops (Doall number next) d clear = clear
over_drops (Over end) d clear = tt

idle_again : (e : Event) (f : Effect) → IsIdleAgain e f → f ≡ effect.Idle
idle_again (event.Take p i) f h = h
idle_again (event.Step p) f h = h
idle_again (event.Next p) f h = h
idle_again (event.Evict p line) f h = absurd h

module _ {F : Type 0} (side : Ghosts F) (o : Opening F) where
  abbrev after : List Event → HistoryOf Frame
  after events = run o.code o.records events

  pub rests : (e : Event) (applied : List Event) (f : F) (x : Effect) → x ≡ effect_of side o applied f e → IsIdleAgain e x → deed e (after applied).machine ≡ Rests
  rests e applied f x is h =
      let m = (after applied).machine in
      idle_rests (act o.code) (entry_of o.code) (exit_of o.code) (deed e m) m (is_there side f (deed e m)) (sym is ∙ idle_again e x h) (over_drops m.phase (enabled e m) (no_drop e m x h))

  stays : (e : Event) (events : List Event) → deed e (after events).machine ≡ Rests → after (e ∷ events) ≡ after events
  stays e events is =
      let look = act o.code in
      let h = after events in
      ap (λ (d : DeedOf Frame). went look (entry_of o.code) (exit_of o.code) (given (call look (entry_of o.code) (exit_of o.code) d h.machine) h.calls) d h) is

  pub stays_long : (n : ℕ) (e : Event) (events : List Event) → deed e (after events).machine ≡ Rests → after (replicate n e ++ events) ≡ after events
  stays_long zero e events is = refl
  stays_long (suc n) e events is =
      let before = stays_long n e events is in
      stays e (replicate n e ++ events) (ap (λ (h : HistoryOf Frame). deed e h.machine) before ∙ is) ∙ before

  led_long : (n : ℕ) (e : Event) (events : List Event) (start now : F) (idle : ℕ) → deed e (after events).machine ≡ Rests → Led side o.code o.records events start now idle
      → Led side o.code o.records (replicate n e ++ events) start now (idle + n)
  led_long zero e events start now idle is led = let z : idle ≡ idle + 0 = omega arith in subst (Led side o.code o.records events start now) z led
  led_long (suc n) e events start now idle is led =
      let m = (after (replicate n e ++ events)).machine in
      let d = deed e m in
      let look = act o.code in
      let rest : d ≡ Rests = ap (λ (h : HistoryOf Frame). deed e h.machine) (stays_long n e events is) ∙ is in
      let z : idle + suc n ≡ idle + n + 1 = omega arith in (
        now,
        idle + n,
        pos 0,
        led_long n e events start now idle is led,
        subst (λ (d : DeedOf Frame). Made side (call look (entry_of o.code) (exit_of o.code) d m) now (pos 0) now) (sym rest) refl,
        z ∙ ap (λ (d : DeedOf Frame). idle + n + idles (told look (entry_of o.code) (exit_of o.code) d m (is_there side now d))) (sym rest),
      )

  has_long : (n : ℕ) (e : Event) (events : List Event) (engine : Engine F side) (p : Progress) → deed e (after events).machine ≡ Rests → n ≤ p.left → HasApplied side o events engine p
      → HasApplied side o (replicate n e ++ events) engine (passed n p)
  has_long n e events engine p is within h =
      let same : run engine.code engine.records.records (replicate n e ++ events) ≡ run engine.code engine.records.records events =
      subst (λ (c : Code). run c engine.records.records (replicate n e ++ events) ≡ run c engine.records.records events) (sym h.code_is)
      (subst (λ (r : Input). run o.code r (replicate n e ++ events) ≡ run o.code r events) (sym h.records_are) (stays_long n e events is)) in
      let long : length (replicate n e ++ events) ≡ n + length events = long_length n e events in
      let left : p.left - n + length (replicate n e ++ events) ≡ p.left + length events = count (p.left) (length (replicate n e ++ events)) (length events) long within in
      let idle : p.idle + n ≤ length (replicate n e ++ events) = idle_within p.idle (length (replicate n e ++ events)) (length events) long h.idle in
      record {
        code_is = h.code_is;
        records_are = h.records_are;
        stands = record {
          ties = subst (λ (x : HistoryOf Frame). Ties side engine x.machine) (sym same) h.stands.ties;
          calls = subst (λ (x : HistoryOf Frame). side.stands engine.side x.calls) (sym same) h.stands.calls;
        };
        led = led_long n e events o.side engine.side p.idle is h.led;
        left = left ∙ h.left;
        idle = idle;
        bounded = h.bounded;
      }
    where
      long_length : (n : ℕ) (e : Event) (events : List Event) → length (replicate n e ++ events) ≡ n + length events
      long_length zero e events = omega arith
      long_length (suc n) e events = omega (arith, long_length n e events)

      count : (a b c : ℕ) → b ≡ n + c → n ≤ a → a - n + b ≡ a + c
      count a b c is within = omega (arith, is, within)

      idle_within : (a b c : ℕ) → b ≡ n + c → a ≤ c → a + n ≤ b
      idle_within a b c is within = omega (arith, is, within)

  pub plays_long : (n : ℕ) (e : Event) (events : List Event) (engine : Engine F side) (p : Progress) (waits : List ℕ) (now : Option (List ℕ)) → deed e (after events).machine ≡ Rests → n ≤ p.left
      → Playing side o events engine p waits now → Playing side o (replicate n e ++ events) engine (passed n p) waits now
  plays_long n e events engine p waits now is within h =
      let same = stays_long n e events is in
      let out : output_after o.code o.records (replicate n e ++ events) ≡ output_after o.code o.records events = ap (λ (x : HistoryOf Frame). bytes_of o.code.texts x.machine.printed) same in
      record {
        has = has_long n e events engine p is within h.has;
        hands = record { front = h.hands.front; took = h.hands.took; split = h.hands.split ∙ sym out };
        line = h.line ∙ ap is_open (sym out);
        ended = h.ended ∙ ap (λ (x : HistoryOf Frame). option_map end_of (ended_with x.machine.phase)) (sym same);
      }

  pub ended_long : (k : ℕ) (e : Event) (events : List Event) → deed e (after events).machine ≡ Rests → has_ended o.code o.records (replicate k e ++ events) ≡ has_ended o.code o.records events
  ended_long k e events is = ap (λ (x : HistoryOf Frame). is_some (ended_with x.machine.phase)) (stays_long k e events is)
