use Rattle.std.proofs.Common.{drop, map}
use Rattle.cdc_base.specs.Gathered.{waiting}
use Rattle.cdc_prog.specs.declared.affine.Scope.{Scope}
use Rattle.cdc_prog.specs.Translation.{target_of}
use Rattle.cdc_path.specs.References.{reads_refs}
use Rattle.cdc_report.specs.MarkLines.{access_line}
use Rattle.cdc_report.proofs.Reached.{Reached}
use Rattle.cdc_report.proofs.accesses.gather_targets.Given as goal

abbrev pub invariant-loop-t : goal.invariant-loop-t
invariant-loop-t g l = (sc : Scope) → Reached (access_line l.sites) (reads_refs sc (map target_of l.fn.targets)) (g.K.Sink.taken l.initial.out) (g.K.Sink.taken l.out) (waiting l.initial.gathered) (waiting l.gathered) (g.K.Sink.faults l.initial.out) (g.K.Sink.faults l.out) (reads_refs sc (map target_of (drop l.t-index l.t-items)))
