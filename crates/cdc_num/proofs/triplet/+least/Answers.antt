use Rattle.std.proofs.Common.{◌/◌, ◌%◌, arith, ap, sym, subst}
use Rattle.cdc_num.specs.Triplets.{IsLeast, IsLeastOf}
use Rattle.cdc_num.proofs.Triplets.{least_here, none_here, none_after, least_after}
use Rattle.cdc_num.proofs.triplet.+least.Goals as goal

pub returns-then-over-eq0 : goal.returns-then-over-eq0
returns-then-over-eq0 t c = least_here c.args.a c.args.d c.args.m (omega arith) (omega arith)

pub returns-then-by-eq0 : goal.returns-then-by-eq0
returns-then-by-eq0 t c = none_here c.args.a c.args.d c.args.m (omega arith) (omega arith) (omega arith)

pub returns-in_err-turns : goal.returns-in_err-turns
returns-in_err-turns t c =
    subst (IsLeastOf c.args.a c.args.d c.args.m) (sym c.from_residual.ensures) (none_after c.args.a c.args.d c.args.m (omega arith) (omega arith) c.in_err-turns.ensures)

pub returns : goal.returns
returns t c =
    subst (λ n. IsLeast c.args.a c.args.d c.args.m (n / (c.args.a % c.args.m))) (sym c.walked.ensures)
    (least_after c.args.a c.args.d c.args.m (omega arith) (omega arith) c.in_ok-turns.turns (omega arith) c.in_ok-turns.ensures)
