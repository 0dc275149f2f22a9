use Rattle.std.proofs.Common.{◌∙◌, subst}
use Rattle.std.specs.Prelude.{flat_map}
use Rattle.cdc_base.specs.Causes.{Rose}
use Rattle.cdc_prog.specs.Translation.{program_of}
use Rattle.cdc_text.proofs.Pieces.{front_first, wrote_part}
use Rattle.cdc_text.proofs.Gathers.{hands_on, hands_part, wrote_gathered}
use Rattle.cdc_report.specs.MarkLines.{unit_loops, lists_of}
use Rattle.cdc_report.proofs.marks.write_marks.Goals as goal

pub returns-in_err-gather_units : goal.returns-in_err-gather_units
returns-in_err-gather_units g c =
    let P = program_of c.args.program.now in
    let M = c.args.marks.now in
    let b = flat_map (unit_loops (lists_of P M)) P.units in
    let part = rw c.new-gathered.ensures at c.in_err-gather_units.ensures.part in
    wrote_part _ c.from_residual.result _ _ _ _ c.from_residual.ensures.0 (front_first b part.0) part.1

pub returns-in_err-gather_doalls : goal.returns-in_err-gather_doalls
returns-in_err-gather_doalls g c =
    let P = program_of c.args.program.now in
    let M = c.args.marks.now in
    let b = flat_map (unit_loops (lists_of P M)) P.units in
    let first = rw c.new-gathered.ensures at c.in_ok-gather_units.ensures.whole in
    let part = c.in_err-gather_doalls.ensures.part in
    wrote_part _ c.from_residual-in_err-gather_doalls.result _ _ _ _ c.from_residual-in_err-gather_doalls.ensures.0 (hands_part b first.0 part.0)
    (subst (λ k. Rose k (g.K.Sink.faults c.gather_doalls.new.out)) first.1 part.1)

pub returns : goal.returns
returns g c =
    let P = program_of c.args.program.now in
    let M = c.args.marks.now in
    let b = flat_map (unit_loops (lists_of P M)) P.units in
    let first = rw c.new-gathered.ensures at c.in_ok-gather_units.ensures.whole in
    let second = c.in_ok-gather_doalls.ensures.whole in
    wrote_gathered _ c.flush.result _ _ _ _ _ _ _ (hands_on b first.0 second.0, second.1 ∙ first.1) c.flush.ensures.ok c.flush.ensures.failed c.flush.ensures.cause
