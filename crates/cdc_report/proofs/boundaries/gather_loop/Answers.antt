use Rattle.std.specs.Prelude.{codes}
use Rattle.cdc_text.proofs.Gathers.{gathered_first, gathered_second}
use Rattle.cdc_report.specs.MarkLines.{boundary_line, written_at}
use Rattle.cdc_report.proofs.boundaries.gather_loop.Goals as goal

pub returns-in_err-gather_boundary : goal.returns-in_err-gather_boundary
returns-in_err-gather_boundary g c =
    let l = c.args.lists.now in
    let at = c.args.at in
    let a = boundary_line l.named at (codes " entry writes") (written_at l.entries at.number) in
    let b = boundary_line l.named at (codes " exit writes") (written_at l.exits at.number) in
    gathered_first a b c.from_residual.result _ _ _ _ _ _ c.from_residual.ensures.0 (rw (c.named.ensures, c.entry.ensures) at c.in_err-gather_boundary.ensures.part)

pub returns : goal.returns
returns g c =
    let l = c.args.lists.now in
    let at = c.args.at in
    let a = boundary_line l.named at (codes " entry writes") (written_at l.entries at.number) in
    let b = boundary_line l.named at (codes " exit writes") (written_at l.exits at.number) in
    gathered_second a b c.gather_boundary-2.result _ _ _ _ _ _ _ _ _ (rw (c.named.ensures, c.entry.ensures) at c.in_ok-gather_boundary.ensures.whole) (rw (c.named-2.ensures, c.exit.ensures) at c.gather_boundary-2.ensures)
