use Rattle.cdc_task.proofs.Sound.{code_goes_on}
use Rattle.cdc_task.proofs.laws.goes_on.Goals as goal

pub returns : goal.returns
returns c = code_goes_on
