use Rattle.std.proofs.Common.{drop}
use Rattle.cdc_base.specs.Gathered.{waiting}
use Rattle.cdc_prog.specs.declared.affine.Scope.{Scope}
use Rattle.cdc_prog.specs.Translation.{exprs_of}
use Rattle.cdc_path.specs.References.{exprs_refs}
use Rattle.cdc_report.specs.MarkLines.{access_line}
use Rattle.cdc_report.proofs.Reached.{Reached}
use Rattle.cdc_report.proofs.accesses.+expr.Given as goal

abbrev pub invariant-gather_exprs-loop-e : goal.invariant-gather_exprs-loop-e
invariant-gather_exprs-loop-e g l = (sc : Scope) → Reached (access_line l.sites) (exprs_refs sc (exprs_of l.fn.es)) (g.K.Sink.taken l.initial.out) (g.K.Sink.taken l.out) (waiting l.initial.gathered) (waiting l.gathered) (g.K.Sink.faults l.initial.out) (g.K.Sink.faults l.out) (exprs_refs sc (exprs_of (drop l.e-index l.e-items)))
