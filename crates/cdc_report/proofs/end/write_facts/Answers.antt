use Rattle.std.proofs.Common.{ℕ, List, ◌++◌, subst}
use Rattle.cdc_epoch.specs.Ties.{counts_of}
use Rattle.cdc_text.specs.Pieces.{Wrote}
use Rattle.cdc_report.specs.End.{event_lines, count_lines}
use Rattle.cdc_text.proofs.Pieces.{wrote_first, wrote_second}
use Rattle.cdc_report.proofs.end.write_facts.Goals as goal

pub returns-in_err-write_events : goal.returns-in_err-write_events
returns-in_err-write_events g c =
    let lines : List ℕ = count_lines (counts_of g.F.Fabric c.args.machine.now) c.args.procs in
    subst (λ (n : ℕ). Wrote (event_lines n c.args.tally c.args.bound ++ lines) c.from_residual.result (g.K.Sink.taken c.args.out.now) (g.K.Sink.taken c.write_events.new.out) (g.K.Sink.faults c.args.out.now) (g.K.Sink.faults c.write_events.new.out))
    c.boundaries.ensures
    (wrote_first (event_lines c.boundaries.result c.args.tally c.args.bound) lines c.from_residual.result _ _ _ _ c.from_residual.ensures.0 c.in_err-write_events.ensures.part)

pub returns : goal.returns
returns g c =
    let lines : List ℕ = count_lines (counts_of g.F.Fabric c.args.machine.now) c.args.procs in
    subst (λ (n : ℕ). Wrote (event_lines n c.args.tally c.args.bound ++ lines) c.write_counts.result (g.K.Sink.taken c.args.out.now) (g.K.Sink.taken c.write_counts.new.out) (g.K.Sink.faults c.args.out.now) (g.K.Sink.faults c.write_counts.new.out))
    c.boundaries.ensures
    (wrote_second (event_lines c.boundaries.result c.args.tally c.args.bound) lines _ _ _ _ _ _ _ c.in_ok-write_events.ensures.whole c.write_counts.ensures)
