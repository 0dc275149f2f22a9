use Rattle.std.proofs.Common.{◌≡◌, map, rules, ap, sym, ◌∙◌}
use Rattle.std.specs.Prelude.{List, ◌||◌}
use Rattle.cdc_tree.specs.declared.unit.Node.{Node, the_lemmas}
use Rattle.cdc_tree.specs.declared.unit.Branch.{Branch}
use Rattle.cdc_tree.specs.Forms.{statement}
use Rattle.cdc_tree.specs.Units.{NIf, NElse, NLoop, node, body, branch, branches_of}
use Rattle.cdc_names.specs.Places.{sooner}
use Rattle.cdc_names.specs.DoallBodies.{is_doall}
use Rattle.cdc_names.proofs.Firsts.{first_step}
use Rattle.cdc_names.proofs.Bodies.{Asked, NodeAsked, BodyAsked, BranchAsked, BranchesAsked, if_asked, else_asked, loop_asked, nodes_asked, branches_asked}
use Rattle.cdc_names.proofs.doall_bodies.+bodies.Goals as goal

pub nodes-loop-n-preserved : goal.nodes-loop-n-preserved
nodes-loop-n-preserved t c =
    first_step (λ (n : Node). NodeAsked c.args.inside (node n)) (λ (ns : List Node). BodyAsked c.args.inside (body ns)) (nodes_asked c.args.inside)
    _ _ c.n-item.result _ _ _ _ c.node.ensures c.sooner-best.ensures c.n-item.is c.loop-n-test.true c.loop-n.invariant

pub branches-loop-b-preserved : goal.branches-loop-b-preserved
branches-loop-b-preserved t c =
    first_step (λ (b : Branch). BranchAsked c.args.inside (branch b)) (λ (bs : List Branch). BranchesAsked c.args.inside (branches_of (map branch bs))) (branches_asked c.args.inside)
    _ _ c.b-item.result _ _ _ _ c.branch-inside.ensures c.sooner-best.ensures c.b-item.is c.loop-b-test.true c.loop-b.invariant

pub node-returns-in-None : goal.node-returns-in-None
node-returns-in-None t c =
    let i = c.args.inside in
    let bs = branches_of (map branch c.as_slice.result.now) in
    let end = statement c.in-If.end in
    let e : node c.args.n.now ≡ NIf bs end = search (rules, the_lemmas) in
    c.sooner.ensures
    ∙ ap (λ o. sooner o c.statement-last.result) c.branches-first.ensures
    ∙ ap (sooner (BranchesAsked i bs)) c.statement-last.ensures
    ∙ if_asked i bs end
    ∙ sym (ap (NodeAsked i) e)

pub node-returns-in-Some : goal.node-returns-in-Some
node-returns-in-Some t c =
    let i = c.args.inside in
    let bs = branches_of (map branch c.as_slice.result.now) in
    let b = branch c.in-Some.b in
    let end = statement c.in-If.end in
    let e : node c.args.n.now ≡ NElse bs b.0 b.1 end = search (rules, the_lemmas) in
    c.sooner-in-Some-2.ensures
    ∙ ap (sooner c.branches-first.result) c.sooner-in-Some.ensures
    ∙ ap (λ o. sooner o (sooner c.branch-inside.result c.statement-last.result)) c.branches-first.ensures
    ∙ ap (λ o. sooner (BranchesAsked i bs) (sooner o c.statement-last.result)) c.branch-inside.ensures
    ∙ ap (λ o. sooner (BranchesAsked i bs) (sooner (BranchAsked i b) o)) c.statement-last.ensures
    ∙ else_asked i bs b end
    ∙ sym (ap (NodeAsked i) e)

pub node-returns-in-Loop : goal.node-returns-in-Loop
node-returns-in-Loop t c =
    let i = c.args.inside in
    let head = statement c.in-Loop.head in
    let b = body c.as_slice-in-Loop.result.now in
    let end = statement c.in-Loop.end in
    let e : node c.args.n.now ≡ NLoop head b end = search (rules, the_lemmas) in
    c.sooner-in-Loop-2.ensures
    ∙ ap (sooner c.statement-first.result) c.sooner-in-Loop.ensures
    ∙ ap (λ o. sooner o (sooner c.nodes-within.result c.statement-in-Loop.result)) c.statement-first.ensures
    ∙ ap (λ o. sooner (Asked i head) (sooner o c.statement-in-Loop.result)) (c.nodes-within.ensures ∙ ap (λ w. BodyAsked w b) c.is_inside.ensures)
    ∙ ap (λ o. sooner (Asked i head) (sooner (BodyAsked (i || is_doall head.form) b) o)) c.statement-in-Loop.ensures
    ∙ loop_asked i head b end
    ∙ sym (ap (NodeAsked i) e)
