use Rattle.std.proofs.Common.{◌≡◌, ◌++◌, drop, map}
use Rattle.cdc_tree.specs.Forms.{spot}
use Rattle.cdc_prog.specs.Translation.{target_of}
use Rattle.cdc_check.specs.Threads.{on}
use Rattle.cdc_check.specs.Statements.{targets}
use Rattle.cdc_check.proofs.simple.targets.Given as goal

abbrev pub invariant-loop-spot : goal.invariant-loop-spot
invariant-loop-spot l = on (targets l.names (map spot (drop l.spot-index l.spots)) l.sites) (λ rest k. (map target_of l.found ++ rest, k)) ≡ targets l.names (map spot l.spots) l.initial.sites
