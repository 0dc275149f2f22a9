use Rattle.std.proofs.Common.{◌≡◌, ◌++◌, map, drop}
use Rattle.cdc_tree.specs.Forms.{spot}
use Rattle.cdc_names.specs.Uses.{spots_uses}
use Rattle.cdc_names.proofs.walk.spots.Given as goal

abbrev pub invariant-loop-s : goal.invariant-loop-s
invariant-loop-s l = l.out ++ spots_uses l.role (map spot (drop l.s-index l.ss)) ≡ l.initial.out ++ spots_uses l.role (map spot l.ss)
