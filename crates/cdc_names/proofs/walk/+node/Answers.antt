use Rattle.std.proofs.Common.{◌≡◌, ◌++◌, List, map, refl}
use Rattle.cdc_tree.specs.declared.unit.Node.{Node, the_lemmas}
use Rattle.cdc_tree.specs.Units.{node, body, branch, branches_of}
use Rattle.cdc_names.specs.Uses.{node_uses, body_uses, branch_uses, branches_uses}
use Rattle.cdc_names.proofs.Added.{added_twice, added_step}
use Rattle.cdc_names.proofs.walk.+node.Goals as goal

pub nodes-loop-n-preserved : goal.nodes-loop-n-preserved
nodes-loop-n-preserved t c =
    added_step (λ (n : Node). node_uses (node n)) (λ (ns : List Node). body_uses (body ns)) (λ x xs. refl) _ _ c.n-item.result _ _ _ c.in_ok-node.ensures c.n-item.is c.loop-n-test.true c.loop-n.invariant

pub node-returns-in-Some : goal.node-returns-in-Some
node-returns-in-Some t c =
    let e : node_uses (node c.args.n.now) ≡ branches_uses (branches_of (map branch c.as_slice.result.now)) ++ branch_uses (branch c.in-Some.b) = simp (c.in-If.is, c.in-Some.is, c.as_slice.ensures, the_lemmas) in
    added_twice c.branch-out.result _ _ _ _ _ _ c.in_ok-branches-in-If.ensures c.branch-out.ensures e
