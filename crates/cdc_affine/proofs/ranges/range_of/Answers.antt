use Rattle.std.proofs.Common.{rules}
use Rattle.cdc_prog.specs.Translation.{control_of}
use Rattle.cdc_affine.proofs.Steps.{if_stepped}
use Rattle.cdc_affine.proofs.ranges.range_of.Goals as goal

pub returns-clause-stepped : goal.returns-clause-stepped
returns-clause-stepped c = if_stepped (control_of c.args.k.now) c.range_from.result (search rules)
