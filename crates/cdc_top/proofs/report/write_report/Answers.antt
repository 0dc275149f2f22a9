use Rattle.std.proofs.Common.{if◌then◌else◌, [], ◌∷◌}
use Rattle.cdc_epoch.specs.Ties.{counts_of}
use Rattle.cdc_top.specs.Report.{report}
use Rattle.cdc_text.proofs.Pieces.{wrote_first, wrote_second}
use Rattle.cdc_top.proofs.report.write_report.Goals as goal

pub returns-in_err-close_line : goal.returns-in_err-close_line
returns-in_err-close_line g c =
    wrote_first (if c.args.played.is_open then 10 ∷ [] else [])
    (report c.args.played.end c.args.machine.now.boundaries c.args.played.tally c.args.bound (counts_of g.F.Fabric c.args.machine.now) c.args.procs)
    c.from_residual.result _ _ _ _ c.from_residual.ensures.0 c.in_err-close_line.ensures.part

pub returns : goal.returns
returns g c =
    wrote_second (if c.args.played.is_open then 10 ∷ [] else [])
    (report c.args.played.end c.args.machine.now.boundaries c.args.played.tally c.args.bound (counts_of g.F.Fabric c.args.machine.now) c.args.procs)
    _ _ _ _ _ _ _ c.in_ok-close_line.ensures.whole c.write_lines.ensures
