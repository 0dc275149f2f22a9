use Rattle.std.proofs.Common.{take}
use Rattle.cdc_version.specs.Numbers.{vc_closes}
use Rattle.cdc_version.proofs.numbers.CurrentVersions.advance.Given as goal

abbrev pub invariant-loop-object : goal.invariant-loop-object
invariant-loop-object l = vc_closes l.fn.self (take l.object-index l.written) l.self
