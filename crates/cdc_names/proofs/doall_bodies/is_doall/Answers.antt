use Rattle.std.proofs.Common.{sym}
use Rattle.cdc_names.proofs.Others.{no_doall}
use Rattle.cdc_names.proofs.doall_bodies.is_doall.Goals as goal

pub returns-in_default : goal.returns-in_default
returns-in_default c = sym (no_doall c.args.f.now c.in_default.not-Doall)
