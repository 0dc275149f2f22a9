-- The program of the test is resolved.
use Rattle.std.proofs.Common.{◌≡◌, subst, sym}
use Rattle.cdc_prog.specs.Examples.{one}
use Rattle.cdc_prog.specs.Plain.{Program}
use Rattle.cdc_prog.specs.Resolved.{IsResolved}
use Rattle.cdc_prog.proofs.Examples.{one_resolved}

pub one_runs : (p : Program) → p ≡ one → IsResolved p
one_runs p is = subst IsResolved (sym is) one_resolved
