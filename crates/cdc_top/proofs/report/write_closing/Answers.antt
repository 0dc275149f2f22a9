use Rattle.std.proofs.Common.{if◌then◌else◌, [], ◌∷◌}
use Rattle.cdc_report.specs.End.{end_line}
use Rattle.cdc_text.proofs.Pieces.{wrote_first, wrote_second}
use Rattle.cdc_top.proofs.report.write_closing.Goals as goal

pub returns-in_err-close_line : goal.returns-in_err-close_line
returns-in_err-close_line g c = wrote_first (if c.args.is_open then 10 ∷ [] else []) (end_line c.args.end) c.from_residual.result _ _ _ _ c.from_residual.ensures.0 c.in_err-close_line.ensures.part

pub returns : goal.returns
returns g c = wrote_second (if c.args.is_open then 10 ∷ [] else []) (end_line c.args.end) _ _ _ _ _ _ _ c.in_ok-close_line.ensures.whole c.write_end_line.ensures
