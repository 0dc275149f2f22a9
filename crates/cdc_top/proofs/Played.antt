-- What a run printed is written, and the lines on it.
use Rattle.std.proofs.Common.{◌≡◌, ◌≢◌, ℕ, zero, suc, ◌<◌, List, [], ◌∷◌, ◌++◌, refl, sym, ◌∙◌, ap, ap₂, subst, arith, Bool, if◌then◌else◌, inr}
use Rattle.std.specs.Prelude.{Option, Some, None}
use Rattle.cdc_base.specs.Causes.{Rose}
use Rattle.cdc_base.specs.Outside.{grown}
use Rattle.cdc_code.specs.declared.code.Code.{Code}
use Rattle.cdc_fabric.specs.declared.counts.Counts.{Counts}
use Rattle.cdc_fabric.specs.declared.uncached.Uncached.{Uncached}
use Rattle.cdc_fabric.specs.contracts.uncached.UncachedFabric.TheImpl.{ghosts}
use Rattle.cdc_fabric.specs.Uncached.{line_count}
use Rattle.cdc_fabric.specs.UncachedSteps.{uncached_procs}
use Rattle.cdc_prog.specs.Input.{Input}
use Rattle.cdc_prog.specs.Lines.{is_open}
use Rattle.cdc_text.specs.Pieces.{GrewByFront}
use Rattle.cdc_text.proofs.Pieces.{front_first}
use Rattle.cdc_sched.specs.declared.event.Event.{Event}
use Rattle.cdc_sched.specs.declared.header.Header.{Header}
use Rattle.cdc_sched.specs.Tail.{tail_event}
use Rattle.cdc_sched.specs.Told.{Told}
use Rattle.cdc_machine.specs.Code.{run}
use Rattle.cdc_epoch.specs.declared.engine.Engine.{Engine}
use Rattle.cdc_epoch.specs.declared.outcome.Outcome.{Outcome}
use Rattle.cdc_epoch.specs.declared.outcome.Outcome.TheVariants.{Done, Fault, Stopped, BadEvent, ReadFault, SinkFault}
use Rattle.cdc_epoch.specs.declared.outcome.Tally.{Tally}
use Rattle.cdc_epoch.specs.Ties.{counts_of}
use Rattle.cdc_report.specs.End.{end_line, event_lines, count_line, count_lines, run_text}
use Rattle.cdc_replay.specs.Applied.{applied_events, output_after}
use Rattle.cdc_replay.specs.Direct.{direct_counts, HasNoCounts}
use Rattle.cdc_replay.specs.Replays.{Opening, Replays, EndsAs, WroteAll, WroteFront, opening_of}
use Rattle.cdc_replay.specs.declared.run.Played.{Played}
use Rattle.cdc_replay.proofs.Direct.{events_tell_counts, engines_count_directly}
use Rattle.cdc_replay.proofs.Plays.{output_grows}
use Rattle.cdc_top.specs.Answer.{Said, SaidOneOf}
use Rattle.cdc_top.specs.Report.{Answer, answer, line_end, report, status_of}
use Rattle.cdc_top.specs.Loaded.{IsBegun}
use Rattle.cdc_top.specs.Run.{events_in, end_in, tally_in, played}
use Rattle.cdc_top.specs.declared.status.TheConstants.{OUT_OF_MEMORY}
use Rattle.cdc_top.proofs.Said.{closes, said_part, said_behind}

-- ---- the lines on a run
-- they depend on the counts of the processors that are there
counts_same : (f g : ℕ → Counts) (procs : ℕ) → ((p : ℕ) → p < procs → f p ≡ g p) → count_lines f procs ≡ count_lines g procs
counts_same f g zero same = refl
counts_same f g (suc p) same = ap₂ (λ (a b : List ℕ). a ++ b) (counts_same f g p (λ q lt. same q (omega (arith, lt)))) (ap (count_line p) (same p (omega arith)))

module _ (b c : ℕ) (s t : Tally) (bound : ℕ) (f g : ℕ → Counts) (procs : ℕ) (boundaries : b ≡ c) (tallies : s ≡ t) (counts : (p : ℕ) → p < procs → f p ≡ g p) where
  text_same : (end : Outcome) → run_text end b s bound f procs ≡ run_text end c t bound g procs
  text_same end =
      ap₂ (λ (x y : List ℕ). end_line end ++ (x ++ y)) (ap₂ (λ (n : ℕ) (u : Tally). event_lines n u bound) boundaries tallies) (counts_same f g procs counts)

  report_same : (end : Outcome) → report end b s bound f procs ≡ report end c t bound g procs
  report_same Done = text_same Done
  report_same (Fault kind line) = text_same (Fault kind line)
  report_same Stopped = text_same Stopped
  report_same (BadEvent line) = refl
  report_same ReadFault = text_same ReadFault
  report_same SinkFault = text_same SinkFault

-- ---- how it ended
module _ (o : Opening Uncached) (t : Told) (tail : ℕ → Option Event) (events : List Event) where
  -- all was written, of the events that are applied
  finished : (end : Outcome) (p : Played) (now : Option (List ℕ)) → end ≢ ReadFault → end ≢ SinkFault → EndsAs o (Some t) tail events end p now
      → WroteAll o events p now × (applied_events o.code o.records t tail o.bound ≡ events) × (end ≡ end_in o.code o.records t.bad events)
  finished Done p now read written e = (e.0, e.1.1, e.2 ∙ ap (λ (b : Option ℕ). end_in o.code o.records b events) (sym e.1.0))
  finished (Fault kind line) p now read written e = (e.0, e.1.1, e.2 ∙ ap (λ (b : Option ℕ). end_in o.code o.records b events) (sym e.1.0))
  finished Stopped p now read written e = (e.0, e.1.1, e.2 ∙ ap (λ (b : Option ℕ). end_in o.code o.records b events) (sym e.1.0))
  finished (BadEvent line) p now read written e = (e.0, e.1.1, ap (λ (b : Option ℕ). end_in o.code o.records b events) (sym e.1.0))
  finished ReadFault p now read written e = absurd (read refl)
  finished SinkFault p now read written e = absurd (written refl)

-- no processor comes or goes
pub still_procs : (first machine : Engine Uncached ghosts) (told : Option Told) (tail : ℕ → Option Event) (bound : ℕ) (p : Played) (old now : Option (List ℕ)) → HasNoCounts first.side
    → Replays ghosts (opening_of first bound old) told tail p machine now → uncached_procs machine.side ≡ uncached_procs first.side
still_procs first machine told tail bound p old now none r = (events_tell_counts first.code first.records.records r.events first.side machine.side p.tally.idle none r.led).procs

-- ---- a run of an engine that was before its first event
module _ (first machine : Engine Uncached ghosts) (t : Told) (h : Header) (lines : ℕ) (p : Played) (old mid : Option (List ℕ))
    (begun : IsBegun first.code first.records.records h.procs first) (is_lines : lines ≡ line_count first.code.words)
    (r : Replays ghosts (opening_of first h.bound old) (Some t) (tail_event h.tail h.procs lines) p machine mid) where
  abbrev code : Code
  code = first.code

  abbrev records : Input
  records = first.records.records

  -- what is answered where these events are applied
  abbrev answer_at : List Event → Answer
  answer_at events =
      let output = output_after code records events in
      let end = end_in code records t.bad events in
      answer (output ++ (line_end output ++ report end (run code records events).machine.boundaries (tally_in code records events) h.bound (direct_counts code records events) h.procs)) (status_of end)

  applied_are : (events : List Event) → applied_events code records t (tail_event h.tail h.procs lines) h.bound ≡ events → events_in code records t h ≡ events
  applied_are events is = subst (λ (l : ℕ). applied_events code records t (tail_event h.tail h.procs l) h.bound ≡ events) is_lines is

  same_boundaries : machine.boundaries ≡ (run code records r.events).machine.boundaries
  same_boundaries = r.stands.ties.boundaries ∙ ap₂ (λ (c : Code) (i : Input). (run c i r.events).machine.boundaries) r.code_is r.records_are

  same_tally : p.tally ≡ tally_in code records r.events
  same_tally =
      let idle = (events_tell_counts code records r.events first.side machine.side p.tally.idle begun.counts r.led).idle_is in
      λ k. record { events = r.counted k; idle = idle k }

  same_counts : (q : ℕ) → q < h.procs → counts_of ghosts machine q ≡ direct_counts code records r.events q
  same_counts q lt =
      engines_count_directly machine code records r.events first.side p.tally.idle r.code_is r.records_are begun.counts r.stands r.led q
      (subst (λ (n : ℕ). q < n) (sym begun.procs_are) lt)

  -- what stands behind the output
  abbrev closing : List ℕ
  closing = (if◌then◌else◌ {A = List ℕ} p.is_open (10 ∷ []) []) ++ report p.end machine.boundaries p.tally h.bound (counts_of ghosts machine) h.procs

  -- the output was written, and then what stands behind it
  pub said_whole_run : (new : Option (List ℕ)) (status before between now : ℕ) → p.end ≢ ReadFault → p.end ≢ SinkFault → between ≡ before → status ≢ OUT_OF_MEMORY
      → Said (answer closing (status_of p.end)) status mid new between now → SaidOneOf (λ a. a ≡ played code records t h) status old new before now
  said_whole_run new status before between now read written same some said =
      let events = r.events in
      let output = output_after code records events in
      let f = finished (opening_of first h.bound old) t (tail_event h.tail h.procs lines) events p.end p mid read written r.ends in
      let lines_are : report p.end machine.boundaries p.tally h.bound (counts_of ghosts machine) h.procs
      ≡ report (end_in code records t.bad events) (run code records events).machine.boundaries (tally_in code records events) h.bound (direct_counts code records events) h.procs =
      report_same machine.boundaries (run code records events).machine.boundaries p.tally (tally_in code records events) h.bound (counts_of ghosts machine) (direct_counts code records events) h.procs same_boundaries same_tally same_counts p.end
      ∙ ap (λ (e : Outcome). report e (run code records events).machine.boundaries (tally_in code records events) h.bound (direct_counts code records events) h.procs) f.2 in
      let closing_is = ap₂ (λ (a b : List ℕ). a ++ b) (closes output p.is_open f.0.1) lines_are in
      let is : answer (output ++ closing) (status_of p.end) ≡ played code records t h =
      ap₂ (λ (c : List ℕ) (e : Outcome). answer (output ++ c) (status_of e)) closing_is f.2 ∙ ap answer_at (sym (applied_are events f.1)) in
      inr (played code records t h, refl, subst (λ (a : Answer). Said a status old new before now) is (said_behind output closing (status_of p.end) status old mid new before between now f.0.0 same some said))

  -- or the sink failed within the output
  pub said_cut_run : (before now : ℕ) → p.end ≡ SinkFault → Rose before now → SaidOneOf (λ a. a ≡ played code records t h) 6 old mid before now
  said_cut_run before now is rose =
      let o = opening_of first h.bound old in
      let cut : EndsAs o (Some t) (tail_event h.tail h.procs lines) r.events SinkFault p mid = subst (λ (e : Outcome). EndsAs o (Some t) (tail_event h.tail h.procs lines) r.events e p mid) is r.ends in
      let events = events_in code records t h in
      let applied : events ≡ cut.1.0 ++ r.events = applied_are (cut.1.0 ++ r.events) cut.1.1 in
      let grows = output_grows code records cut.1.0 r.events in
      let front : GrewByFront old mid (output_after code records events) =
      subst (GrewByFront old mid) (sym grows.1 ∙ ap (output_after code records) (sym applied)) (front_first grows.0 cut.0) in
      let a = played code records t h in
      let end = end_in code records t.bad events in
      let rest = line_end (output_after code records events) ++ report end (run code records events).machine.boundaries (tally_in code records events) h.bound (direct_counts code records events) h.procs in
      inr (a, refl, said_part a a.bytes old mid before now refl (front_first rest front, rose))
