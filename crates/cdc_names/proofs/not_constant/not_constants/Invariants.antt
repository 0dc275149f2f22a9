use Rattle.std.proofs.Common.{◌≡◌, [], map, drop}
use Rattle.cdc_names.specs.Declarations.{plain_declaration}
use Rattle.cdc_names.specs.Places.{sooner}
use Rattle.cdc_names.specs.NotConstant.{not_constants}
use Rattle.cdc_names.proofs.not_constant.not_constants.Given as goal

abbrev pub invariant-loop-d : goal.invariant-loop-d
invariant-loop-d l = sooner l.best (not_constants l.values (map plain_declaration (drop l.d-index l.ds))) ≡ not_constants [] (map plain_declaration l.ds)
