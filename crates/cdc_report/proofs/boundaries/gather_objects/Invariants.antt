use Rattle.std.proofs.Common.{drop}
use Rattle.cdc_base.specs.Gathered.{waiting}
use Rattle.cdc_report.specs.MarkLines.{object_text}
use Rattle.cdc_report.proofs.Reached.{Reached}
use Rattle.cdc_report.proofs.boundaries.gather_objects.Given as goal

abbrev pub invariant-loop-object : goal.invariant-loop-object
invariant-loop-object g l = Reached (object_text l.named) l.written (g.K.Sink.taken l.initial.out) (g.K.Sink.taken l.out) (waiting l.initial.gathered) (waiting l.gathered) (g.K.Sink.faults l.initial.out) (g.K.Sink.faults l.out) (drop l.object-index l.written)
