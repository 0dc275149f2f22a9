use Rattle.std.proofs.Common.{◌≡◌, ◌∙◌, ap, drop_of_length-le, refl, arith}
use Rattle.std.specs.Prelude.{flat_map}
use Rattle.cdc_prog.specs.declared.program.Unit.{Unit as ProgramUnit}
use Rattle.cdc_path.specs.References.{outside}
use Rattle.cdc_prog.specs.Translation.{unit_of, program_of}
use Rattle.cdc_report.specs.MarkLines.{unit_lines, access_lines, sites_in}
use Rattle.cdc_report.proofs.Reached.{start, along, onward_one, failed_one_as, over_as}
use Rattle.cdc_report.proofs.Walks.{one_left, same_units, same_refs}
use Rattle.cdc_report.proofs.marks.gather_units.Goals as goal

pub loop-unit-init : goal.loop-unit-init
loop-unit-init g c =
    let P = program_of c.args.program.now in
    let M = c.args.marks.now in
    start (λ (u : ProgramUnit). unit_lines P M (unit_of u)) _ _ _ _ refl

pub returns-in_err-gather_stmts : goal.returns-in_err-gather_stmts
returns-in_err-gather_stmts g c =
    let P = program_of c.args.program.now in
    let M = c.args.marks.now in
    let L = λ (u : ProgramUnit). unit_lines P M (unit_of u) in
    let l = c.loop-unit in
    let xs = c.as_slice-unit-items.result.now in
    let is = one_left xs l.unit-index c.unit-item.result (omega arith) c.unit-item.is in
    let same : flat_map L xs ≡ flat_map (unit_lines P M) P.units = ap (flat_map L) c.as_slice-unit-items.ensures ∙ same_units (unit_lines P M) (λ before u. ap (access_lines (sites_in P M u)) (same_refs outside before u.body)) 0 c.args.program.now.units in
    failed_one_as L same c.unit-item.result _ c.from_residual.result (along L is l.invariant) c.from_residual.ensures.0 (rw (c.as_slice.ensures, c.as_slice-in-loop-unit.ensures, c.as_slice-in-loop-unit-2.ensures) at (c.in_err-gather_stmts.ensures outside).part)

pub loop-unit-preserved : goal.loop-unit-preserved
loop-unit-preserved g c =
    let P = program_of c.args.program.now in
    let M = c.args.marks.now in
    let L = λ (u : ProgramUnit). unit_lines P M (unit_of u) in
    let l = c.loop-unit in
    let xs = c.as_slice-unit-items.result.now in
    let is = one_left xs l.unit-index c.unit-item.result (omega arith) c.unit-item.is in
    onward_one L c.unit-item.result _ (along L is l.invariant) (rw (c.as_slice.ensures, c.as_slice-in-loop-unit.ensures, c.as_slice-in-loop-unit-2.ensures) at (c.in_ok-gather_stmts.ensures outside).whole)

pub returns : goal.returns
returns g c =
    let P = program_of c.args.program.now in
    let M = c.args.marks.now in
    let L = λ (u : ProgramUnit). unit_lines P M (unit_of u) in
    let l = c.loop-unit in
    let xs = c.as_slice-unit-items.result.now in
    let same : flat_map L xs ≡ flat_map (unit_lines P M) P.units = ap (flat_map L) c.as_slice-unit-items.ensures ∙ same_units (unit_lines P M) (λ before u. ap (access_lines (sites_in P M u)) (same_refs outside before u.body)) 0 c.args.program.now.units in
    over_as L same tt (along L (drop_of_length-le xs (omega arith)) l.invariant)
