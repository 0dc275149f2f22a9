use Rattle.std.proofs.Common.{◌≡◌, ◌++◌, List, map, refl}
use Rattle.cdc_tree.specs.declared.unit.Node.{Node, the_lemmas}
use Rattle.cdc_tree.specs.Units.{node, body, branch, branches_of}
use Rattle.cdc_names.specs.Duplicates.{node_lists, body_lists, branches_lists}
use Rattle.cdc_names.proofs.Added.{added_twice, added_step}
use Rattle.cdc_names.proofs.name_lists.+lists.Goals as goal

pub nodes-loop-n-preserved : goal.nodes-loop-n-preserved
nodes-loop-n-preserved t c =
    added_step (λ (n : Node). node_lists (node n)) (λ (ns : List Node). body_lists (body ns)) (λ x xs. refl) _ _ c.n-item.result _ _ _ c.in_ok-node.ensures c.n-item.is c.loop-n-test.true c.loop-n.invariant

pub node-returns-in-Some : goal.node-returns-in-Some
node-returns-in-Some t c =
    let e : node_lists (node c.args.n.now) ≡ branches_lists (branches_of (map branch c.as_slice.result.now)) ++ body_lists (body c.as_slice-in-Some.result.now) = simp (c.in-If.is, c.in-Some.is, c.as_slice.ensures, c.as_slice-in-Some.ensures, the_lemmas) in
    added_twice c.nodes.result _ _ _ _ _ _ c.in_ok-branches-in-If.ensures c.nodes.ensures e
