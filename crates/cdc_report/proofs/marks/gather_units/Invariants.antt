use Rattle.std.proofs.Common.{drop}
use Rattle.cdc_base.specs.Gathered.{waiting}
use Rattle.cdc_prog.specs.Translation.{unit_of, program_of}
use Rattle.cdc_report.specs.MarkLines.{unit_lines}
use Rattle.cdc_report.proofs.Reached.{Reached}
use Rattle.cdc_report.proofs.marks.gather_units.Given as goal

abbrev pub invariant-loop-unit : goal.invariant-loop-unit
invariant-loop-unit g l = Reached (λ u. unit_lines (program_of l.program) l.marks (unit_of u)) l.unit-items (g.K.Sink.taken l.initial.out) (g.K.Sink.taken l.out) (waiting l.initial.gathered) (waiting l.gathered) (g.K.Sink.faults l.initial.out) (g.K.Sink.faults l.out) (drop l.unit-index l.unit-items)
