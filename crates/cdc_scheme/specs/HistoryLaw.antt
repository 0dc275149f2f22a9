-- The laws over all that can happen to a copy, from those of one step.
use Rattle.std.specs.Prelude.{◌≡◌, ℕ, ◌≤◌, List, [], ◌∷◌, Option, Some, None, IsTrue}
use Rattle.std.specs.Option.{option_and_then}
use Rattle.std.proofs.Common.{refl, sym, subst}
use Rattle.cdc_prog.specs.declared.program.Mark.TheVariants.{Time}
use Rattle.cdc_scheme.specs.TrueTime.{present, beside, WasDated, IsYoung, Covers}
use Rattle.cdc_scheme.specs.declared.scheme.Scheme.{Ghosts}
use Rattle.cdc_scheme.specs.History.{Happening, Targeted, Neighboured, Wrote, Evicted, WroteElsewhere, Ended, lists_of, objects_of, ListsWrites, left_of, LeadsTo, CopiesAreYoung}

-- the laws of a scheme over one step
pub record StepLaws {S W T : Type 0} (scheme : Ghosts S W T) : Type 0 where
  pub knows_start : (width count : ℕ) (state : T) → scheme.starts width count state → scheme.knows state [] []
  pub knows_write : (state : T) (lists : List (List ℕ)) (objects : List ℕ) (other : ℕ) → scheme.knows state lists objects → scheme.knows state lists (other ∷ objects)
  pub knows_boundary : (state after : T) (lists : List (List ℕ)) (objects written : List ℕ) → scheme.knows state lists objects → Covers written objects → scheme.closes state written after → scheme.knows after (written ∷ lists) []
  pub dates_write : (state : T) (lists : List (List ℕ)) (objects : List ℕ) (other object made : ℕ) (word : W) → scheme.dates state lists objects object word made → scheme.dates state lists (other ∷ objects) object word made
  pub dates_target : (state : T) (lists : List (List ℕ)) (objects : List ℕ) (object before : ℕ) (old : Option W) → scheme.knows state lists objects → WasDated (scheme.dates state lists objects object) old before
      → scheme.dates state lists objects object (scheme.target_of state object old) (present lists)
  pub dates_neighbour : (state : T) (lists : List (List ℕ)) (objects : List ℕ) (object before : ℕ) (old : Option W) → scheme.knows state lists objects → WasDated (scheme.dates state lists objects object) old before
      → scheme.dates state lists objects object (scheme.neighbour_of state object old) (beside lists before)
  pub dates_wrote : (state : T) (lists : List (List ℕ)) (objects : List ℕ) (object : ℕ) → scheme.knows state lists objects → scheme.dates state lists (object ∷ objects) object (scheme.wrote_of state object) (present lists)
  pub first : (state : T) (lists : List (List ℕ)) (objects : List ℕ) (object made d : ℕ) (word : W) → scheme.knows state lists objects → scheme.dates state lists objects object word made → 1 ≤ d → IsTrue (scheme.admits_of state object (Time d) word)
      → IsYoung d lists object made
  pub second : (state after : T) (lists : List (List ℕ)) (objects written : List ℕ) (object made : ℕ) (word kept : W) → scheme.knows state lists objects → Covers written objects → scheme.dates state lists objects object word made
      → scheme.keeps_of state written object word ≡ Some kept → scheme.closes state written after → scheme.dates after (written ∷ lists) [] object kept made

module _ {S W T : Type 0} (scheme : Ghosts S W T) (laws : StepLaws scheme) (object : ℕ) where
  record Holds (past : List Happening) (state : T) (copy : Option W) (made : ℕ) : Type 0 where
    pub known : scheme.knows state (lists_of past) (objects_of object past)
    pub dated : WasDated (scheme.dates state (lists_of past) (objects_of object past) object) copy made

  -- a copy that was filled or written
  here : (past : List Happening) (state : T) (copy : Option W) (made : ℕ) (word : W) (new : ℕ) → copy ≡ Some word → made ≡ new → scheme.dates state (lists_of past) (objects_of object past) object word new
      → WasDated (scheme.dates state (lists_of past) (objects_of object past) object) copy made
  here past state copy made word new is time dates =
      subst (λ o. WasDated (scheme.dates state (lists_of past) (objects_of object past) object) o made) (sym is)
      (subst (scheme.dates state (lists_of past) (objects_of object past) object word) (sym time) dates)

  gone : (past : List Happening) (state : T) (copy : Option W) (made : ℕ) → copy ≡ None → made ≡ 0 → WasDated (scheme.dates state (lists_of past) (objects_of object past) object) copy made
  gone past state copy made is time = subst (λ o. WasDated (scheme.dates state (lists_of past) (objects_of object past) object) o made) (sym is) time

  elsewhere : (past : List Happening) (state : T) (copy : Option W) (made other : ℕ) → WasDated (scheme.dates state (lists_of past) (objects_of object past) object) copy made
      → WasDated (scheme.dates state (lists_of past) (other ∷ objects_of object past) object) copy made
  elsewhere past state None made other dated = dated
  elsewhere past state (Some word) made other dated = laws.dates_write state (lists_of past) (objects_of object past) other object made word dated

  ended : (past : List Happening) (last state : T) (written : List ℕ) (old copy : Option W) (before : ℕ) → scheme.knows last (lists_of past) (objects_of object past) → Covers written (objects_of object past) → scheme.closes last written state
      → WasDated (scheme.dates last (lists_of past) (objects_of object past) object) old before → copy ≡ option_and_then (scheme.keeps_of last written object) old
      → WasDated (scheme.dates state (written ∷ lists_of past) [] object) copy (left_of copy before)
  ended past last state written old None before known covers closes dated is = refl
  ended past last state written None (Some word) before known covers closes dated is = absurd (cc is)
  ended past last state written (Some held) (Some word) before known covers closes dated is =
      laws.second last state (lists_of past) (objects_of object past) written object before held word known covers dated (sym is) closes

  holds : (past : List Happening) (state : T) (copy : Option W) (made : ℕ) → ListsWrites object past → LeadsTo scheme object past state copy made → Holds past state copy made
  holds [] state copy made lists leads = record {
    known = laws.knows_start leads.0.0 leads.0.1 state leads.0.2;
    dated = gone [] state copy made leads.1 leads.2;
  }
  holds (Targeted ∷ past) state copy made lists leads =
      let prior = holds past state leads.0 leads.1 lists leads.2 in
      record {
        known = prior.known;
        dated = here past state copy made (scheme.target_of state object leads.0) (present (lists_of past)) leads.3 leads.4
            (laws.dates_target state (lists_of past) (objects_of object past) object leads.1 leads.0 prior.known prior.dated);
      }
  holds (Neighboured ∷ past) state copy made lists leads =
      let prior = holds past state leads.0 leads.1 lists leads.2 in
      record {
        known = prior.known;
        dated = here past state copy made (scheme.neighbour_of state object leads.0) (beside (lists_of past) leads.1) leads.3 leads.4
            (laws.dates_neighbour state (lists_of past) (objects_of object past) object leads.1 leads.0 prior.known prior.dated);
      }
  holds (Wrote ∷ past) state copy made lists leads =
      let prior = holds past state leads.0 leads.1 lists leads.2 in
      record {
        known = laws.knows_write state (lists_of past) (objects_of object past) object prior.known;
        dated = here (Wrote ∷ past) state copy made (scheme.wrote_of state object) (present (lists_of past)) leads.3 leads.4
            (laws.dates_wrote state (lists_of past) (objects_of object past) object prior.known);
      }
  holds (Evicted ∷ past) state copy made lists leads =
      let prior = holds past state leads.0 leads.1 lists leads.2 in
      record { known = prior.known; dated = gone past state copy made leads.3 leads.4 }
  holds (WroteElsewhere other ∷ past) state copy made lists leads =
      let prior = holds past state copy made lists leads in
      record {
        known = laws.knows_write state (lists_of past) (objects_of object past) other prior.known;
        dated = elsewhere past state copy made other prior.dated;
      }
  holds (Ended written ∷ past) state copy made lists leads =
      let prior = holds past leads.0 leads.1 leads.2 lists.1 leads.3 in
      record {
        known = laws.knows_boundary leads.0 state (lists_of past) (objects_of object past) written prior.known lists.0 leads.4;
        dated = subst (WasDated (scheme.dates state (written ∷ lists_of past) [] object) copy) (sym leads.6)
            (ended past leads.0 state written leads.1 copy leads.2 prior.known lists.0 leads.4 prior.dated leads.5);
      }

pub copies_are_young : {S W T : Type 0} (scheme : Ghosts S W T) → StepLaws scheme → CopiesAreYoung scheme
copies_are_young scheme laws object past state word made d lists leads some admitted =
    let all = holds scheme laws object past state (Some word) made lists leads in
    laws.first state (lists_of past) (objects_of object past) object made d word all.known all.dated some admitted
