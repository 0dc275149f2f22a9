use Rattle.std.proofs.Common.{◌≡◌, ◌++◌, drop, map}
use Rattle.cdc_tree.specs.Units.{body, branch, branches_of}
use Rattle.cdc_prog.specs.Translation.{stmt_of, arm_of}
use Rattle.cdc_check.specs.Threads.{on}
use Rattle.cdc_check.specs.Statements.{nodes_in, arms_in}
use Rattle.cdc_check.proofs.constructs.+node.Given as goal

abbrev pub invariant-nodes-loop-n : goal.invariant-nodes-loop-n
invariant-nodes-loop-n l =
    on (nodes_in (body (drop l.n-index l.ns)) l.names l.state) (λ rest k. (map stmt_of l.found ++ rest, k)) ≡ nodes_in (body l.ns) l.names l.initial.state

abbrev pub invariant-branches-loop-b : goal.invariant-branches-loop-b
invariant-branches-loop-b l =
    on (arms_in (branches_of (map branch (drop l.b-index l.bs))) l.names l.state) (λ rest k. (map arm_of l.found ++ rest, k)) ≡ arms_in (branches_of (map branch l.bs)) l.names l.initial.state
