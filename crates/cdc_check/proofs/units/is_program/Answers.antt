use Rattle.std.proofs.Common.{sym}
use Rattle.cdc_check.proofs.Others.{no_program}
use Rattle.cdc_check.proofs.units.is_program.Goals as goal

pub returns-in_default : goal.returns-in_default
returns-in_default c = sym (no_program c.args.head.now c.in_default.not-Program)
