use Rattle.cdc_along.proofs.Accessed.{covers_kept}
use Rattle.cdc_along.proofs.laws.covers.Goals as goal

pub returns : goal.returns
returns c = covers_kept
