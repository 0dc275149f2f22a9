use Rattle.std.proofs.Common.{drop}
use Rattle.cdc_base.specs.Gathered.{waiting}
use Rattle.cdc_prog.specs.Plain.{Skip}
use Rattle.cdc_prog.specs.Translation.{stmts_of, arms_of}
use Rattle.cdc_report.specs.MarkLines.{loops, loop_lines}
use Rattle.cdc_report.proofs.Reached.{Reached}
use Rattle.cdc_report.proofs.boundaries.+loops.Given as goal

abbrev pub invariant-gather_arms-loop-arm : goal.invariant-gather_arms-loop-arm
invariant-gather_arms-loop-arm g l = Reached (loop_lines l.lists) (loops (arms_of l.fn.arms Skip)) (g.K.Sink.taken l.initial.out) (g.K.Sink.taken l.out) (waiting l.initial.gathered) (waiting l.gathered) (g.K.Sink.faults l.initial.out) (g.K.Sink.faults l.out) (loops (arms_of (drop l.arm-index l.arm-items) Skip))

abbrev pub invariant-gather_loops-loop-s : goal.invariant-gather_loops-loop-s
invariant-gather_loops-loop-s g l = Reached (loop_lines l.lists) (loops (stmts_of l.fn.ss)) (g.K.Sink.taken l.initial.out) (g.K.Sink.taken l.out) (waiting l.initial.gathered) (waiting l.gathered) (g.K.Sink.faults l.initial.out) (g.K.Sink.faults l.out) (loops (stmts_of (drop l.s-index l.s-items)))
