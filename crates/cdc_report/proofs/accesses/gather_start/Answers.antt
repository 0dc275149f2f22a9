use Rattle.std.proofs.Common.{true, [], ◌∷◌, ◌++◌, refl}
use Rattle.cdc_prog.specs.Dependence.{spot}
use Rattle.cdc_prog.specs.Plain as plain
use Rattle.cdc_prog.specs.Translation.{control_of}
use Rattle.cdc_path.specs.References.{controls_refs}
use Rattle.cdc_report.specs.MarkLines.{access_line}
use Rattle.cdc_report.proofs.Reached.{start, onward, failed, finished}
use Rattle.cdc_report.proofs.accesses.gather_start.Goals as goal

pub returns-in_err-gather_controls : goal.returns-in_err-gather_controls
returns-in_err-gather_controls g c = λ sc.
    let L = access_line c.args.sites.now in
    failed L (controls_refs sc (control_of c.args.control.now)) (spot sc true c.args.first plain.Empty ∷ []) c.from_residual.result (start L (controls_refs sc (control_of c.args.control.now) ++ (spot sc true c.args.first plain.Empty ∷ [])) _ _ _ refl) c.from_residual.ensures.0 (c.in_err-gather_controls.ensures sc).part

pub returns : goal.returns
returns g c = λ sc.
    let L = access_line c.args.sites.now in
    finished L (spot sc true c.args.first plain.Empty ∷ []) c.gather_access.result (onward L (controls_refs sc (control_of c.args.control.now)) (spot sc true c.args.first plain.Empty ∷ []) (start L (controls_refs sc (control_of c.args.control.now) ++ (spot sc true c.args.first plain.Empty ∷ [])) _ _ _ refl) (c.in_ok-gather_controls.ensures sc).whole) c.gather_access.ensures
