use Rattle.std.proofs.Common.{◌≡◌, ℕ, List}
use Rattle.cdc_base.specs.Gathered.{waiting}
use Rattle.cdc_sched.specs.declared.event.Event.{Event}
use Rattle.cdc_sched.specs.declared.header.TailKind.{TailKind}
use Rattle.cdc_sched.specs.Tail.{tail_event}
use Rattle.cdc_sched.specs.Tails.{Stands, tail_procs}
use Rattle.cdc_replay.specs.Applied.{has_ended, with_tail}
use Rattle.cdc_replay.specs.Replays.{CanReplay, Opening, Playing}
use Rattle.cdc_replay.proofs.run.play_tail.Given as goal

abbrev pub invariant-loop-tail : goal.invariant-loop-tail
invariant-loop-tail g l = record {
  can : CanReplay g.F.Fabric l.machine;
  procs : tail_procs l.tail ≡ g.F.Fabric.procs l.machine.side;
  plays : (o : Opening g.row.F.Denot) (applied : List Event) → Playing g.F.Fabric o applied l.fn.machine l.fn.progress (waiting l.fn.gathered) (g.K.Sink.taken l.fn.out)
      → (more : List Event) × Playing g.F.Fabric o more l.machine l.progress (waiting l.gathered) (g.K.Sink.taken l.out)
      × ((kind : TailKind) (procs lines k : ℕ) → Stands kind procs lines k l.fn.tail → (j : ℕ) × Stands kind procs lines j l.tail
      × (with_tail (has_ended o.code o.records) (tail_event kind procs lines) l.fn.progress.left k applied ≡ with_tail (has_ended o.code o.records) (tail_event kind procs lines) l.progress.left j more));
  quiet : g.K.Sink.faults l.out ≡ g.K.Sink.faults l.fn.out;
}

abbrev pub decreases-loop-tail : goal.decreases-loop-tail
decreases-loop-tail g l = l.progress.left
