use Rattle.cdc_scheme.proofs.Sixteen.{ones_of}
use Rattle.cdc_scheme.proofs.width.largest.Goals as goal

pub returns : goal.returns
returns c = ones_of c.args.width c.requires.narrow
