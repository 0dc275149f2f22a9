use Rattle.cdc_path.proofs.Uncalled.{one_unit}
use Rattle.cdc_path.proofs.laws.uncalled.Goals as goal

pub returns : goal.returns
returns c = one_unit
