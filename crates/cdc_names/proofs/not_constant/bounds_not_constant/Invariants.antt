use Rattle.std.proofs.Common.{◌≡◌, map, drop}
use Rattle.cdc_tree.specs.Forms.{bound}
use Rattle.cdc_names.specs.Places.{sooner, first_of}
use Rattle.cdc_names.specs.NotConstant.{bound_not_constant}
use Rattle.cdc_names.proofs.not_constant.bounds_not_constant.Given as goal

abbrev pub invariant-loop-b : goal.invariant-loop-b
invariant-loop-b l = sooner l.best (first_of (bound_not_constant l.values) (map bound (drop l.b-index l.bounds))) ≡ first_of (bound_not_constant l.values) (map bound l.bounds)
