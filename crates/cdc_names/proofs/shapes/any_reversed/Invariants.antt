use Rattle.std.proofs.Common.{◌≡◌, map, drop}
use Rattle.std.specs.List.{list_any}
use Rattle.cdc_tree.specs.Forms.{bound}
use Rattle.cdc_names.specs.Shapes.{is_reversed}
use Rattle.cdc_names.proofs.shapes.any_reversed.Given as goal

abbrev pub invariant-loop-b : goal.invariant-loop-b
invariant-loop-b l = list_any (is_reversed l.values) (map bound (drop l.b-index l.bounds)) ≡ list_any (is_reversed l.values) (map bound l.bounds)
