use Rattle.std.proofs.Common.{◌≡◌, ◌++◌, map, drop}
use Rattle.cdc_tree.specs.Units.{body, branch, branches_of}
use Rattle.cdc_names.specs.Duplicates.{body_lists, branches_lists}
use Rattle.cdc_names.proofs.name_lists.+lists.Given as goal

abbrev pub invariant-nodes-loop-n : goal.invariant-nodes-loop-n
invariant-nodes-loop-n l = l.out ++ body_lists (body (drop l.n-index l.ns)) ≡ l.initial.out ++ body_lists (body l.ns)

abbrev pub invariant-branches-loop-b : goal.invariant-branches-loop-b
invariant-branches-loop-b l = l.out ++ branches_lists (branches_of (map branch (drop l.b-index l.bs))) ≡ l.initial.out ++ branches_lists (branches_of (map branch l.bs))
