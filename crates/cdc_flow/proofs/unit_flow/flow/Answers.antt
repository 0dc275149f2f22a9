use Rattle.std.proofs.Common.{◌≡◌, [], List, take, map, get_or, sym, ap, ◌∙◌, refl, arith}
use Rattle.cdc_prog.specs.declared.program.Unit.{Unit}
use Rattle.cdc_prog.specs.Plain.{Stmt}
use Rattle.cdc_prog.specs.Numbered.{calls_numbered, calls_in_units}
use Rattle.cdc_prog.specs.Translation.{stmts_of, program_of, unit_of}
use Rattle.cdc_prog.specs.Units.{body_of}
use Rattle.cdc_path.specs.Courses.{unit_course}
use Rattle.cdc_flow.proofs.Made.{made_of}
use Rattle.cdc_flow.proofs.Passed.{unit_passed}
use Rattle.cdc_flow.proofs.Numbers.{body_at}
use Rattle.cdc_flow.proofs.unit_flow.flow.Goals as goal

pub returns : goal.returns
returns c =
    let u = c.index-units-unit.result in
    let k = c.args.unit in
    let units = c.args.program.now.units in
    let numbered : List Unit → Stmt = λ us. calls_numbered (calls_in_units (map unit_of (take k us))) (stmts_of (get_or us k u).body) in
    let body = body_of (program_of c.args.program.now) k in
    let is : body ≡ numbered c.as_slice-units.result.now = body_at units k u (omega arith) ∙ ap numbered (sym c.as_slice-units.ensures) in
    made_of (unit_course [] body) c.add_statements.new.g _ (unit_passed body) (c.in_ok-add_statements.ensures.graph ∙ (rw (c.in_ok-calls.ensures, c.as_slice-body.ensures, c.in_ok-g.ensures, is) refl)) refl refl refl refl
