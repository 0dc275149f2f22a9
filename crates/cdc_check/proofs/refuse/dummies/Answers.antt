use Rattle.std.proofs.Common.{length, sym, ap}
use Rattle.cdc_names.proofs.Others.{no_dummies}
use Rattle.cdc_check.proofs.refuse.dummies.Goals as goal

pub returns-in_default : goal.returns-in_default
returns-in_default c = sym (ap length (no_dummies c.args.head.now c.in_default.not-Subroutine))
