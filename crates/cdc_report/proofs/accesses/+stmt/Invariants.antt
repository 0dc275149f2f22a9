use Rattle.std.proofs.Common.{drop}
use Rattle.cdc_base.specs.Gathered.{waiting}
use Rattle.cdc_prog.specs.declared.affine.Scope.{Scope}
use Rattle.cdc_prog.specs.Plain.{Skip}
use Rattle.cdc_prog.specs.Translation.{stmts_of, arms_of}
use Rattle.cdc_path.specs.References.{refs}
use Rattle.cdc_report.specs.MarkLines.{access_line}
use Rattle.cdc_report.proofs.Reached.{Reached}
use Rattle.cdc_report.proofs.accesses.+stmt.Given as goal

abbrev pub invariant-gather_arms-loop-arm : goal.invariant-gather_arms-loop-arm
invariant-gather_arms-loop-arm g l = (sc : Scope) → Reached (access_line l.sites) (refs sc (arms_of l.fn.arms Skip)) (g.K.Sink.taken l.initial.out) (g.K.Sink.taken l.out) (waiting l.initial.gathered) (waiting l.gathered) (g.K.Sink.faults l.initial.out) (g.K.Sink.faults l.out) (refs sc (arms_of (drop l.arm-index l.arm-items) Skip))

abbrev pub invariant-gather_stmts-loop-s : goal.invariant-gather_stmts-loop-s
invariant-gather_stmts-loop-s g l = (sc : Scope) → Reached (access_line l.sites) (refs sc (stmts_of l.fn.ss)) (g.K.Sink.taken l.initial.out) (g.K.Sink.taken l.out) (waiting l.initial.gathered) (waiting l.gathered) (g.K.Sink.faults l.initial.out) (g.K.Sink.faults l.out) (refs sc (stmts_of (drop l.s-index l.s-items)))
