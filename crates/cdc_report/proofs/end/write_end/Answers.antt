use Rattle.std.proofs.Common.{◌++◌}
use Rattle.cdc_epoch.specs.Ties.{counts_of}
use Rattle.cdc_report.specs.End.{event_lines, count_lines, end_line}
use Rattle.cdc_text.proofs.Pieces.{wrote_first, wrote_second}
use Rattle.cdc_report.proofs.end.write_end.Goals as goal

pub returns-in_err-write_end_line : goal.returns-in_err-write_end_line
returns-in_err-write_end_line g c =
    wrote_first (end_line c.args.end) (event_lines c.args.machine.now.boundaries c.args.tally c.args.bound ++ count_lines (counts_of g.F.Fabric c.args.machine.now) c.args.procs)
    c.from_residual.result _ _ _ _ c.from_residual.ensures.0 c.in_err-write_end_line.ensures.part

pub returns : goal.returns
returns g c =
    wrote_second (end_line c.args.end) (event_lines c.args.machine.now.boundaries c.args.tally c.args.bound ++ count_lines (counts_of g.F.Fabric c.args.machine.now) c.args.procs)
    _ _ _ _ _ _ _ c.in_ok-write_end_line.ensures.whole c.write_facts.ensures
