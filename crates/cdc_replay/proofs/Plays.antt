-- One event of a run.
use Rattle.std.proofs.Common.{◌≡◌, ℕ, suc, ◌+◌, ◌-◌, ◌≤◌, ℤ, List, [], ◌∷◌, ◌++◌, length, refl, sym, ap, ◌∙◌, subst, arith, Bool, false, append_assoc, append-nil}
use Rattle.std.specs.Prelude.{Option}
use Rattle.std.specs.Option.{option_map}
use Rattle.cdc_base.specs.Gathered.{HandsOn}
use Rattle.cdc_base.specs.Outside.{grown, GrewInPart}
use Rattle.cdc_base.proofs.Grown.{grown-grown}
use Rattle.cdc_text.specs.Pieces.{GrewByFront}
use Rattle.cdc_text.proofs.Pieces.{front_second, front_of_part}
use Rattle.cdc_prog.specs.declared.piece.Piece.{Piece}
use Rattle.cdc_prog.specs.Input.{Input}
use Rattle.cdc_prog.specs.InOrder.{End}
use Rattle.cdc_prog.specs.Lines.{opened, is_open}
use Rattle.cdc_prog.specs.Meaning.{bytes_of, bytes_of_piece}
use Rattle.cdc_prog.proofs.Opened.{opened-opened}
use Rattle.cdc_code.specs.declared.code.Code.{Code}
use Rattle.cdc_code.specs.Rows.{act}
use Rattle.cdc_fabric.specs.declared.fabric.Fabric.{Ghosts}
use Rattle.cdc_sched.specs.declared.event.Event.{Event}
use Rattle.cdc_machine.specs.declared.effect.Effect.{Effect}
use Rattle.cdc_machine.specs.declared.effect.Effect.TheVariants as effect
use Rattle.cdc_machine.specs.Machine.{deed, call, told}
use Rattle.cdc_machine.specs.History.{given}
use Rattle.cdc_machine.specs.Code.{State, entry_of, exit_of, run, ended_with}
use Rattle.cdc_epoch.specs.declared.engine.Engine.{Engine}
use Rattle.cdc_replay.specs.declared.progress.Progress.{Progress}
use Rattle.cdc_epoch.specs.Side.{Made}
use Rattle.cdc_epoch.specs.Ties.{DoesDeed, StandsFor, is_there}
use Rattle.cdc_replay.specs.Refused.{end_of}
use Rattle.cdc_replay.specs.Effects.{piece_in, idles, end_in, run_end_in, counted}
use Rattle.cdc_replay.specs.Applied.{output_after}
use Rattle.cdc_replay.specs.Replays.{Opening, HasApplied, Playing, Broken, effect_of}
use Rattle.cdc_replay.proofs.Effects.{says, ends}

run_end_same : (e : Effect) (o : Option End) → run_end_in e (option_map end_of o) ≡ option_map end_of (end_in e o)
run_end_same effect.Idle o = refl
run_end_same effect.Took o = refl
run_end_same effect.Stepped o = refl
run_end_same (effect.Printed piece) o = refl
run_end_same effect.Boundary o = refl
run_end_same effect.Dropped o = refl
run_end_same effect.Ended o = refl
run_end_same (effect.Faulted kind line) o = refl

bytes_of_both : (texts : List (List ℕ)) (a b : List Piece) → bytes_of texts (a ++ b) ≡ bytes_of texts a ++ bytes_of texts b
bytes_of_both texts [] b = refl
bytes_of_both texts (piece ∷ a) b = ap (λ l. bytes_of_piece texts piece ++ l) (bytes_of_both texts a b) ∙ sym (append_assoc (bytes_of_piece texts piece) (bytes_of texts a) (bytes_of texts b))

abbrev machine_of : Code → Input → List Event → State
machine_of code records events = (run code records events).machine

module _ {F : Type 0} (side : Ghosts F) (o : Opening F) where
  abbrev after : List Event → State
  after events = machine_of o.code o.records events

  -- what an engine with the code and the records did
  abbrev Did : Code → Input → Event → List Event → F → ℤ → F → Effect → Type 0
  Did code records event applied old v new e =
      let m = machine_of code records applied in
      let d = deed event m in
      Made side (call (act code) (entry_of code) (exit_of code) d m) old v new × (e ≡ told (act code) (entry_of code) (exit_of code) d m (is_there side old d))

  pub did : (event : Event) (applied : List Event) (old new : Engine F side) (progress : Progress) (e : Effect) → HasApplied side o applied old progress
      → (does : DoesDeed side (deed event (machine_of old.code old.records.records applied)) (machine_of old.code old.records.records applied) old e new) → Did o.code o.records event applied old.side does.v new.side e
  did event applied old new progress e h does =
      let here : Did old.code old.records.records event applied old.side does.v new.side e = (does.made, does.effect) in
      subst (λ (r : Input). Did o.code r event applied old.side does.v new.side e) h.records_are
      (subst (λ (c : Code). Did c old.records.records event applied old.side does.v new.side e) h.code_is here)

  -- it has applied one more
  pub has_on : (event : Event) (applied : List Event) (old new : Engine F side) (progress : Progress) (e : Effect) → HasApplied side o applied old progress
      → DoesDeed side (deed event (machine_of old.code old.records.records applied)) (machine_of old.code old.records.records applied) old e new
      → StandsFor side new (event ∷ applied) → 1 ≤ progress.left → HasApplied side o (event ∷ applied) new (counted e progress)
  has_on event applied old new progress e h does stands some =
      let d = did event applied old new progress e h does in
      record {
        code_is = does.code ∙ h.code_is;
        records_are = ap (λ r. r.records) does.records ∙ h.records_are;
        stands = stands;
        led = (old.side, progress.idle, does.v, h.led, d.0, ap (λ (x : Effect). progress.idle + idles x) d.1);
        left = left progress.left (length applied) some ∙ h.left;
        idle = idle progress.idle (length applied) e h.idle;
        bounded = h.bounded;
      }
    where
      left : (a n : ℕ) → 1 ≤ a → a - 1 + suc n ≡ a + n
      left a n some = omega (arith, some)

      idle : (a n : ℕ) (x : Effect) → a ≤ n → a + idles x ≤ suc n
      idle a n effect.Idle within = omega (arith, within)
      idle a n effect.Took within = omega (arith, within)
      idle a n effect.Stepped within = omega (arith, within)
      idle a n (effect.Printed piece) within = omega (arith, within)
      idle a n effect.Boundary within = omega (arith, within)
      idle a n effect.Dropped within = omega (arith, within)
      idle a n effect.Ended within = omega (arith, within)
      idle a n (effect.Faulted kind line) within = omega (arith, within)

  -- what it prints, and whether the machine ends
  prints : (event : Event) (applied : List Event) (f : F) (e : Effect) → e ≡ effect_of side o applied f event
      → output_after o.code o.records (event ∷ applied) ≡ output_after o.code o.records applied ++ bytes_of o.code.texts (piece_in e)
  prints event applied f e is =
      let m = after applied in
      let d = deed event m in
      let look = act o.code in
      let c = call look (entry_of o.code) (exit_of o.code) d m in
      let said = says look (entry_of o.code) (exit_of o.code) (given c (run o.code o.records applied).calls) d m (is_there side f d) in
      ap (bytes_of o.code.texts) said
      ∙ (bytes_of_both o.code.texts m.printed (piece_in (effect_of side o applied f event))
      ∙ ap (λ (x : Effect). output_after o.code o.records applied ++ bytes_of o.code.texts (piece_in x)) (sym is))

  ends_in : (event : Event) (applied : List Event) (f : F) (e : Effect) → e ≡ effect_of side o applied f event
      → ended_with (after (event ∷ applied)).phase ≡ end_in e (ended_with (after applied).phase)
  ends_in event applied f e is =
      let m = after applied in
      let d = deed event m in
      let look = act o.code in
      let c = call look (entry_of o.code) (exit_of o.code) d m in
      ends look (entry_of o.code) (exit_of o.code) (given c (run o.code o.records applied).calls) d m (is_there side f d)
      ∙ ap (λ (x : Effect). end_in x (ended_with (after applied).phase)) (sym is)

  -- what it printed was gathered
  pub plays_on : (event : Event) (applied : List Event) (old new : Engine F side) (progress : Progress) (e : Effect) (waits waits_now : List ℕ) (mid now : Option (List ℕ)) (open_now : Bool)
      → Playing side o applied old progress waits mid → HasApplied side o (event ∷ applied) new (counted e progress) → e ≡ effect_of side o applied old.side event
      → HandsOn mid now (waits ++ bytes_of o.code.texts (piece_in e)) waits_now → open_now ≡ opened progress.is_open (bytes_of o.code.texts (piece_in e))
      → Playing side o (event ∷ applied) new (record (counted e progress) { is_open = open_now }) waits_now now
  plays_on event applied old new progress e waits waits_now mid now open_now h has is hands line =
      let text = bytes_of o.code.texts (piece_in e) in
      let out = prints event applied old.side e is in
      record {
        has = record { code_is = has.code_is; records_are = has.records_are; stands = has.stands; led = has.led; left = has.left; idle = has.idle; bounded = has.bounded };
        hands = record {
          front = h.hands.front ++ hands.front;
          took = hands.took ∙ (ap (λ x. grown x hands.front) h.hands.took ∙ grown-grown o.taken h.hands.front hands.front);
          split = append_assoc h.hands.front hands.front waits_now ∙ (ap (λ l. h.hands.front ++ l) hands.split ∙ (sym (append_assoc h.hands.front waits text) ∙ (ap (λ l. l ++ text) h.hands.split ∙ sym out)));
        };
        line = line ∙ (ap (λ (b : Bool). opened b text) h.line ∙ (opened-opened false (output_after o.code o.records applied) text ∙ ap is_open (sym out)));
        ended = ap (run_end_in e) h.ended ∙ (run_end_same e (ended_with (after applied).phase) ∙ ap (option_map end_of) (sym (ends_in event applied old.side e is)));
      }

  -- or the sink failed
  pub breaks : (event : Event) (applied : List Event) (old new : Engine F side) (progress : Progress) (e : Effect) (waits : List ℕ) (mid now : Option (List ℕ))
      → Playing side o applied old progress waits mid → HasApplied side o (event ∷ applied) new (counted e progress) → e ≡ effect_of side o applied old.side event
      → GrewInPart mid now (waits ++ bytes_of o.code.texts (piece_in e)) → Broken side o (event ∷ applied) new (counted e progress) now
  breaks event applied old new progress e waits mid now h has is part =
      let text = bytes_of o.code.texts (piece_in e) in
      let whole : h.hands.front ++ (waits ++ text) ≡ output_after o.code o.records (event ∷ applied) =
      sym (append_assoc h.hands.front waits text) ∙ (ap (λ l. l ++ text) h.hands.split ∙ sym (prints event applied old.side e is)) in
      record { has = has; cut = subst (GrewByFront o.taken now) whole (front_second h.hands.front h.hands.took (front_of_part part)) }

-- what some events print begins what more of them print
pub output_grows : (code : Code) (records : Input) (more events : List Event) → (rest : List ℕ) × (output_after code records (more ++ events) ≡ output_after code records events ++ rest)
output_grows code records [] events = ([], sym (append-nil (output_after code records events)))
output_grows code records (e ∷ more) events =
    let before = output_grows code records more events in
    let h = run code records (more ++ events) in
    let d = deed e h.machine in
    let look = act code in
    let c = call look (entry_of code) (exit_of code) d h.machine in
    let text = bytes_of code.texts (piece_in (told look (entry_of code) (exit_of code) d h.machine false)) in
    let said = says look (entry_of code) (exit_of code) (given c h.calls) d h.machine false in (
      before.0 ++ text,
      ap (bytes_of code.texts) said
          ∙ (bytes_of_both code.texts h.machine.printed (piece_in (told look (entry_of code) (exit_of code) d h.machine false))
          ∙ (ap (λ (l : List ℕ). l ++ text) before.1 ∙ append_assoc (output_after code records events) before.0 text)),
    )
