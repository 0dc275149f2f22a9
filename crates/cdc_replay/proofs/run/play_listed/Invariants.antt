use Rattle.std.proofs.Common.{◌≡◌, List}
use Rattle.cdc_base.specs.Gathered.{waiting}
use Rattle.cdc_sched.specs.declared.event.Event.{Event}
use Rattle.cdc_replay.specs.Replays.{CanReplay, Opening, Playing, GoesOnWith}
use Rattle.cdc_replay.proofs.run.play_listed.Given as goal

abbrev pub invariant-loop-refusal : goal.invariant-loop-refusal
invariant-loop-refusal g l = record {
  can : CanReplay g.F.Fabric l.machine;
  sides : g.F.Fabric.procs l.machine.side ≡ g.F.Fabric.procs l.fn.machine.side;
  procs : g.E.Events.procs l.events ≡ g.E.Events.procs l.fn.events;
  failed : g.E.Events.failed l.events ≡ g.E.Events.failed l.fn.events;
  faults : g.E.Events.faults l.events ≡ g.E.Events.faults l.fn.events;
  plays : (o : Opening g.row.F.Denot) (applied : List Event) → Playing g.F.Fabric o applied l.fn.machine l.fn.progress (waiting l.fn.gathered) (g.K.Sink.taken l.fn.out)
      → (more : List Event) × Playing g.F.Fabric o more l.machine l.progress (waiting l.gathered) (g.K.Sink.taken l.out)
      × GoesOnWith o (g.E.Events.told l.fn.events) (g.E.Events.told l.events) l.fn.progress.left applied l.progress.left more;
  quiet : g.K.Sink.faults l.out ≡ g.K.Sink.faults l.fn.out;
}

abbrev pub decreases-loop-refusal : goal.decreases-loop-refusal
decreases-loop-refusal g l = g.E.Events.left l.events
