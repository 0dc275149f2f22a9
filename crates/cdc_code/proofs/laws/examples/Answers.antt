use Rattle.cdc_code.proofs.Examples.{coded}
use Rattle.cdc_code.proofs.laws.examples.Goals as goal

pub returns : goal.returns
returns c = coded
