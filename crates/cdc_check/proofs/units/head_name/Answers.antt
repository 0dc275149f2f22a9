use Rattle.std.proofs.Common.{sym}
use Rattle.cdc_check.proofs.Others.{no_name}
use Rattle.cdc_check.proofs.units.head_name.Goals as goal

pub returns-in_default : goal.returns-in_default
returns-in_default c = sym (no_name c.args.head.now c.in_default.not-Program c.in_default.not-Subroutine)
