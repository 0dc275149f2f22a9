use Rattle.cdc_machine.proofs.OnCode.{every_run_ends}
use Rattle.cdc_machine.proofs.laws.ends.Goals as goal

pub returns : goal.returns
returns c = every_run_ends
