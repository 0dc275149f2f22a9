use Rattle.std.proofs.Common.{◌≡◌}
use Rattle.cdc_base.specs.Outside.{grown}
use Rattle.cdc_epoch.specs.Ties.{counts_of}
use Rattle.cdc_report.specs.End.{count_lines}
use Rattle.cdc_report.proofs.end.write_counts.Given as goal

-- the lines of the processors before p were written
abbrev pub invariant-loop-p : goal.invariant-loop-p
invariant-loop-p g l = record {
  so_far : g.K.Sink.taken l.out ≡ grown (g.K.Sink.taken l.initial.out) (count_lines (counts_of g.F.Fabric l.machine) l.p);
  quiet : g.K.Sink.faults l.out ≡ g.K.Sink.faults l.initial.out;
}
