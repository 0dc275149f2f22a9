use Rattle.std.proofs.Common.{◌≡◌, ◌++◌, drop, map}
use Rattle.cdc_tree.specs.Forms.{bound}
use Rattle.cdc_check.specs.Objects.{dim}
use Rattle.cdc_check.proofs.objects.dims.Given as goal

abbrev pub invariant-loop-b : goal.invariant-loop-b
invariant-loop-b l = l.found ++ map (dim l.values) (map bound (drop l.b-index l.bounds)) ≡ map (dim l.values) (map bound l.bounds)
