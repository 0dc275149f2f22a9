use Rattle.std.proofs.Common.{true, false, [], ◌∷◌, ◌++◌, refl}
use Rattle.cdc_prog.specs.Dependence.{spot}
use Rattle.cdc_prog.specs.Plain as plain
use Rattle.cdc_report.specs.MarkLines.{access_line}
use Rattle.cdc_report.proofs.Reached.{start, onward, failed, finished}
use Rattle.cdc_report.proofs.accesses.gather_raise.Goals as goal

pub returns-in_err-gather_access : goal.returns-in_err-gather_access
returns-in_err-gather_access g c = λ sc.
    let L = access_line c.args.sites.now in
    failed L (spot sc false c.args.again plain.Empty ∷ []) (spot sc true c.args.bump plain.Empty ∷ []) c.from_residual.result (start L (spot sc false c.args.again plain.Empty ∷ [] ++ (spot sc true c.args.bump plain.Empty ∷ [])) _ _ _ refl) c.from_residual.ensures.0 c.in_err-gather_access.ensures.part

pub returns : goal.returns
returns g c = λ sc.
    let L = access_line c.args.sites.now in
    finished L (spot sc true c.args.bump plain.Empty ∷ []) c.gather_access-2.result (onward L (spot sc false c.args.again plain.Empty ∷ []) (spot sc true c.args.bump plain.Empty ∷ []) (start L (spot sc false c.args.again plain.Empty ∷ [] ++ (spot sc true c.args.bump plain.Empty ∷ [])) _ _ _ refl) c.in_ok-gather_access.ensures.whole) c.gather_access-2.ensures
