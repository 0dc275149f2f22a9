use Rattle.std.proofs.Common.{◌≡◌, Some, ℕ, List, ap, sym, ◌∙◌, subst, arith, inl, inr}
use Rattle.std.specs.Prelude.{Option}
use Rattle.cdc_fabric.specs.Uncached.{line_count}
use Rattle.cdc_fabric.specs.contracts.uncached.UncachedFabric.TheImpl.{ghosts}
use Rattle.cdc_sched.specs.Listing.{listed_told}
use Rattle.cdc_sched.specs.Tail.{tail_event}
use Rattle.cdc_sched.specs.Told.{Told}
use Rattle.cdc_replay.specs.Replays.{Replays, opening_of}
use Rattle.cdc_top.proofs.Played.{still_procs, said_whole_run, said_cut_run}
use Rattle.cdc_top.proofs.play.play_out.Goals as goal

pub replay-played-requires : goal.replay-played-requires
replay-played-requires g c = record {
  procs = c.requires.listed ∙ sym c.requires.begun.procs_are;
  tail = c.new-tail.ensures.procs_are ∙ sym c.requires.begun.procs_are;
  first_of_tail = (c.args.header.tail, c.args.header.procs, c.lines.result, c.new-tail.ensures);
  first = c.requires.begun.first;
  can = c.requires.begun.can;
}

pub close-requires : goal.close-requires
close-requires g c =
    let ran = c.replay-played in
    let h = c.args.header in
    record {
      procs =
          sym (still_procs c.args.machine.now ran.new.machine (listed_told c.args.events.now) (tail_event h.tail h.procs c.lines.result) h.bound ran.result (g.K.Sink.taken c.args.out.now) (g.K.Sink.taken ran.new.out)
          c.requires.begun.counts (ran.ensures.replays h.tail h.procs c.lines.result c.new-tail.ensures)
          ∙ c.requires.begun.procs_are);
      read = c.in_default.not-ReadFault;
      written = c.in_default.not-SinkFault;
    }

pub returns-in_default : goal.returns-in_default
returns-in_default g c = λ t told.
    let ran = c.replay-played in
    let h = c.args.header in
    let first = c.args.machine.now in
    let old = g.K.Sink.taken c.args.out.now in
    let mid = g.K.Sink.taken ran.new.out in
    let r : Replays ghosts (opening_of first h.bound old) (Some t) (tail_event h.tail h.procs c.lines.result) ran.result ran.new.machine mid =
    subst (λ (o : Option Told). Replays ghosts (opening_of first h.bound old) o (tail_event h.tail h.procs c.lines.result) ran.result ran.new.machine mid) told (ran.ensures.replays h.tail h.procs c.lines.result c.new-tail.ensures) in
    said_whole_run first ran.new.machine t h c.lines.result ran.result old mid c.requires.begun (c.lines.ensures.lines ∙ ap line_count c.requires.begun.words_are) r
    (g.K.Sink.taken c.close.new.out) c.close.result (g.K.Sink.faults c.args.out.now) (g.K.Sink.faults ran.new.out) (g.K.Sink.faults c.close.new.out)
    c.in_default.not-ReadFault c.in_default.not-SinkFault (ran.ensures.cause.kept c.in_default.not-SinkFault) c.close.ensures.memory c.close.ensures.said

pub returns-in-SinkFault : goal.returns-in-SinkFault
returns-in-SinkFault g c = λ t told.
    let ran = c.replay-played in
    let h = c.args.header in
    let first = c.args.machine.now in
    let old = g.K.Sink.taken c.args.out.now in
    let mid = g.K.Sink.taken ran.new.out in
    let r : Replays ghosts (opening_of first h.bound old) (Some t) (tail_event h.tail h.procs c.lines.result) ran.result ran.new.machine mid =
    subst (λ (o : Option Told). Replays ghosts (opening_of first h.bound old) o (tail_event h.tail h.procs c.lines.result) ran.result ran.new.machine mid) told (ran.ensures.replays h.tail h.procs c.lines.result c.new-tail.ensures) in
    said_cut_run first ran.new.machine t h c.lines.result ran.result old mid c.requires.begun (c.lines.ensures.lines ∙ ap line_count c.requires.begun.words_are) r
    (g.K.Sink.faults c.args.out.now) (g.K.Sink.faults ran.new.out) c.in-SinkFault.is (ran.ensures.cause.failed c.in-SinkFault.is)

-- a list that is told has no fault of reading
pub returns-in-ReadFault : goal.returns-in-ReadFault
returns-in-ReadFault g c = λ t told. absurd (elim (c.replay-played.ensures.read.fault c.in-ReadFault.is) [
  | inl failed ↦ cc failed
  | inr rose ↦ omega (arith, rose)
])
