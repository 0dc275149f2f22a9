use Rattle.std.proofs.Common.{◌≡◌, ◌++◌, map, drop}
use Rattle.cdc_tree.specs.Units.{body, branch, branches_of}
use Rattle.cdc_names.specs.Uses.{body_uses, branches_uses}
use Rattle.cdc_names.proofs.walk.+node.Given as goal

abbrev pub invariant-nodes-loop-n : goal.invariant-nodes-loop-n
invariant-nodes-loop-n l = l.out ++ body_uses (body (drop l.n-index l.ns)) ≡ l.initial.out ++ body_uses (body l.ns)

abbrev pub invariant-branches-loop-b : goal.invariant-branches-loop-b
invariant-branches-loop-b l = l.out ++ branches_uses (branches_of (map branch (drop l.b-index l.bs))) ≡ l.initial.out ++ branches_uses (branches_of (map branch l.bs))
