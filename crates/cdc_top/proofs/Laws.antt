-- What the run of accepted files owes.
use Rattle.std.proofs.Common.{◌≡◌, ℕ, ◌+◌, ◌*◌, ◌≤◌, List, [], ◌∷◌, length, refl, subst, sym, ◌∙◌, ap, Bool, true, false, if◌then◌else◌}
use Rattle.std.specs.Prelude.{Option, Some, None, unwrap_or, is_some, ◌==◌}
use Rattle.std.specs.Option.{option_map}
use Rattle.cdc_compile.specs.Laws.{IsAccepted}
use Rattle.cdc_compile.specs.Compiled.{IsCompiledTo}
use Rattle.cdc_compile.proofs.Sound.{accepted_is_sound}
use Rattle.cdc_prog.specs.declared.program.Marks.{Marks}
use Rattle.cdc_prog.specs.InOrder.{End}
use Rattle.cdc_prog.specs.Plain.{Program}
use Rattle.cdc_prog.specs.Input.{Input}
use Rattle.cdc_prog.specs.Meaning.{meaning, full_cost}
use Rattle.cdc_code.specs.declared.code.Code.{Code}
use Rattle.cdc_code.specs.Sound.{IsSound}
use Rattle.cdc_code.specs.Template.{code_of}
use Rattle.cdc_fabric.specs.Calls.{Call, Load, Store, Evict, Boundary}
use Rattle.cdc_fabric.specs.Counting.{after_read}
use Rattle.cdc_fabric.specs.declared.counts.Access.TheVariants.{Miss}
use Rattle.cdc_fabric.specs.Uncached.{line_count}
use Rattle.cdc_input.specs.Records.{records_of}
use Rattle.cdc_sched.specs.declared.event.Event.{Event}
use Rattle.cdc_sched.specs.declared.header.Header.{Header}
use Rattle.cdc_sched.specs.declared.header.TailKind.{TailKind}
use Rattle.cdc_sched.specs.Tail.{tail_event}
use Rattle.cdc_machine.specs.Code.{run, ended_with, IsMeant}
use Rattle.cdc_machine.proofs.OnCode.{every_interleaving}
use Rattle.cdc_epoch.specs.declared.outcome.Outcome.TheVariants.{Stopped}
use Rattle.cdc_replay.specs.Ample.{IsAmple}
use Rattle.cdc_replay.specs.Applied.{applied_events, has_ended}
use Rattle.cdc_replay.specs.Direct.{counted}
use Rattle.cdc_replay.specs.Refused.{end_of}
use Rattle.cdc_replay.proofs.Ample.{every_ample_run_ends}
use Rattle.cdc_top.specs.Laws.{MeansTheSource, NoReadHits, hits}
use Rattle.cdc_top.specs.Run.{told_in, events_in, end_in, IsAmpleFor}

module _ (source : List ℕ) (p : Program) (marks : Marks) (is : IsCompiledTo source p marks) where
  abbrev code : Code
  code = code_of p marks

  abbrev accepted : IsAccepted source p
  accepted = accepted_is_sound source p is.accepted

  abbrev sound : IsSound code
  sound = (accepted.sound marks).sound

  -- whatever the events are
  pub is_meant : (records : Input) (events : List Event) → IsMeant p.texts (meaning p records) (run code records events).machine
  is_meant records events =
      subst (λ (q : Program). IsMeant p.texts (meaning q records) (run code records events).machine) (accepted.sound marks).program_is
      (every_interleaving.meaning code sound records events)

  -- ---- where the schedule is ample
  by_end : (records : Input) (events : List Event) (o : Option End) → ended_with (run code records events).machine.phase ≡ o → is_some o ≡ true
      → unwrap_or (option_map end_of o) Stopped ≡ end_of (meaning p records).end
  by_end records events None phase some = absurd (cc some)
  by_end records events (Some end) phase some = ap end_of ((is_meant records events).over end phase).1

  ends_fully : (records : Input) (events : List Event) → has_ended code records events ≡ true → end_in code records None events ≡ end_of (meaning p records).end
  ends_fully records events some = by_end records events (ended_with (run code records events).machine.phase) refl some

  -- the run ends as the program does
  pub ample_end : (records : Input) (schedule : List ℕ) (h : Header) (at : ℕ) → 1 ≤ h.procs → IsAmpleFor p records (told_in schedule h at) h
      → end_in code records (told_in schedule h at).bad (events_in code records (told_in schedule h at) h) ≡ end_of (meaning p records).end
  ample_end records schedule h at some ample =
      let told = told_in schedule h at in
      let lines = line_count code.words in
      let is_ample : IsAmple code sound records told h.procs h.bound = record {
        fits = ample.fits;
        some = some;
        there = every_ample_run_ends.listed schedule at h.procs;
        room = subst (λ (q : Program). length told.events + h.procs * (8 * full_cost q records + 8) ≤ h.bound) (sym (accepted.sound marks).program_is) ample.room;
      } in
      let ended = every_ample_run_ends.ended code sound records told h.procs lines h.bound is_ample in
      let there : has_ended code records (events_in code records told h) ≡ true =
      subst (λ (kind : TailKind). has_ended code records (applied_events code records told (tail_event kind h.procs lines) h.bound) ≡ true) (sym ample.turns) ended in
      ap (λ (bad : Option ℕ). end_in code records bad (events_in code records told h)) ample.fits ∙ ends_fully records (events_in code records told h) there

pub means_the_source : MeansTheSource
means_the_source files p marks h at are = is_meant files.program p marks are.compiled (records_of files.input) (events_in (code_of p marks) (records_of files.input) (told_in files.schedule h at) h)

-- each load that is counted is a miss
no_hits : (calls : List Call) (p : ℕ) → hits (counted calls p) ≡ 0
no_hits [] p = refl
no_hits (Load q word mark ∷ calls) p = by_processor (no_hits calls p) (q == p)
  where
    by_processor : hits (counted calls p) ≡ 0 → (b : Bool) → hits (if b then after_read (Miss false) (counted calls p) else counted calls p) ≡ 0
    by_processor none true = none
    by_processor none false = none
no_hits (Store q word value ∷ calls) p = no_hits calls p
no_hits (Evict q line ∷ calls) p = no_hits calls p
no_hits (Boundary written ∷ calls) p = no_hits calls p

pub no_read_hits : NoReadHits
no_read_hits files p marks h at q are =
    no_hits (run (code_of p marks) (records_of files.input) (events_in (code_of p marks) (records_of files.input) (told_in files.schedule h at) h)).calls q
