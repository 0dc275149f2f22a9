use Rattle.std.proofs.Common.{ap}
use Rattle.cdc_check.specs.Check.{checked}
use Rattle.cdc_check.proofs.laws.pointerless.Goals as goal

pub returns : goal.returns
returns c us vs same = ap checked same
