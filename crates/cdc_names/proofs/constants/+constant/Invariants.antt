use Rattle.std.proofs.Common.{◌≡◌, map, drop}
use Rattle.cdc_tree.specs.Plain.{plain, plains}
use Rattle.cdc_names.specs.Constants.{chained, known, constants}
use Rattle.cdc_names.proofs.constants.+constant.Given as goal

abbrev pub invariant-known-loop-t : goal.invariant-known-loop-t
invariant-known-loop-t l = chained l.which l.value (constants l.values (plains (map plain (drop l.t-index l.rest)))) ≡ known l.which (constants l.values (plains (map plain l.args)))
