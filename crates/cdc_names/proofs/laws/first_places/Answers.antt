use Rattle.cdc_names.proofs.Least.{stand_first}
use Rattle.cdc_names.proofs.laws.first_places.Goals as goal

pub returns : goal.returns
returns c = stand_first
