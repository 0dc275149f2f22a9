use Rattle.std.proofs.Common.{drop, map}
use Rattle.cdc_base.specs.Gathered.{waiting}
use Rattle.cdc_prog.specs.declared.affine.Scope.{Scope}
use Rattle.cdc_prog.specs.Translation.{actual_of}
use Rattle.cdc_path.specs.References.{actuals_refs}
use Rattle.cdc_report.specs.MarkLines.{access_line}
use Rattle.cdc_report.proofs.Reached.{Reached}
use Rattle.cdc_report.proofs.accesses.gather_actuals.Given as goal

abbrev pub invariant-loop-actual : goal.invariant-loop-actual
invariant-loop-actual g l = (sc : Scope) → Reached (access_line l.sites) (actuals_refs sc (map actual_of l.fn.actuals)) (g.K.Sink.taken l.initial.out) (g.K.Sink.taken l.out) (waiting l.initial.gathered) (waiting l.gathered) (g.K.Sink.faults l.initial.out) (g.K.Sink.faults l.out) (actuals_refs sc (map actual_of (drop l.actual-index l.actual-items)))
