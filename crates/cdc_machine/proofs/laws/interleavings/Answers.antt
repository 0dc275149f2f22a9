use Rattle.cdc_machine.proofs.OnCode.{every_interleaving}
use Rattle.cdc_machine.proofs.laws.interleavings.Goals as goal

pub returns : goal.returns
returns c = every_interleaving
