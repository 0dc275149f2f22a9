use Rattle.cdc_text.proofs.Gathers.{gathered_first, gathered_second}
use Rattle.cdc_report.specs.MarkLines.{line_head, line_end}
use Rattle.cdc_report.proofs.accesses.gather_line.Goals as goal

pub returns-in_err-gather_texts : goal.returns-in_err-gather_texts
returns-in_err-gather_texts g c =
    let s = c.args.sites.now in
    let at = c.args.at in
    gathered_first (line_head s c.args.writes at) (line_end s c.args.writes at.site) c.from_residual.result _ _ _ _ _ _ c.from_residual.ensures.0
    (rw (c.kind.ensures, c.name.ensures) at c.in_err-gather_texts.ensures.part)

pub returns : goal.returns
returns g c =
    let s = c.args.sites.now in
    let at = c.args.at in
    gathered_second (line_head s c.args.writes at) (line_end s c.args.writes at.site) c.gather_texts-2.result _ _ _ _ _ _ _ _ _
    (rw (c.kind.ensures, c.name.ensures) at c.in_ok-gather_texts.ensures.whole) (rw c.line_end.ensures at c.gather_texts-2.ensures)
