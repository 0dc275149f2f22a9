-- Views of lists with one more item at the end.
use Rattle.std.proofs.Common.{◌≡◌, List, [], ◌∷◌, ◌++◌, map, refl, sym, ap, ◌∙◌, Some, rules, ◌≤◌, length, false, arith}
use Rattle.std.proofs.lemmas.List.{map-append}
use Rattle.cdc_tree.specs.declared.form.Statement.{Statement}
use Rattle.cdc_tree.specs.declared.unit.Node.{Node, the_lemmas}
use Rattle.cdc_tree.specs.declared.unit.Node as n
use Rattle.cdc_tree.specs.declared.unit.Branch.{Branch}
use Rattle.cdc_tree.specs.Forms.{PStatement, statement}
use Rattle.cdc_tree.specs.Units.{PNode, PBody, More, BMore, NElse, body_of, branches_of, node, body, branch}
use Rattle.cdc_nest.specs.declared.inside.Frame.{Frame}
use Rattle.cdc_nest.specs.declared.inside.Frame as c
use Rattle.cdc_nest.specs.Nesting.{put, put_branch, add, around, is_empty}
use Rattle.cdc_tree.proofs.Options.{some}

body_of_put : (ns : List PNode) (n : PNode) → body_of (ns ++ (n ∷ [])) ≡ put (body_of ns) n
body_of_put [] n = refl
body_of_put (m ∷ ns) n = ap (More m) (body_of_put ns n)

body_put : (before now : List Node) (n : Node) → now ≡ before ++ (n ∷ []) → body now ≡ put (body before) (node n)
body_put before now n e = ap body e ∙ ap body_of (map-append node before (n ∷ [])) ∙ body_of_put (map node before) (node n)

add_within : (f : Frame) (b : PBody) (m : PNode) → add (around f b) m ≡ around f (put b m)
add_within (c.Unit _ _ _) b m = refl
add_within (c.If' _ _ _ _ _) b m = refl
add_within (c.Else' _ _ _ _ _) b m = refl
add_within (c.Loop' _ _ _ _) b m = refl

-- a node more in the body, whatever stands around it
pub node_put : (f : Frame) (before now : List Node) (n : Node) → now ≡ before ++ (n ∷ []) → add (around f (body before)) (node n) ≡ around f (body now)
node_put f before now n e = add_within f (body before) (node n) ∙ ap (around f) (sym (body_put before now n e))

branches_of_put : (bs : List (PStatement × PBody)) (b : PStatement × PBody) → branches_of (bs ++ (b ∷ [])) ≡ put_branch (branches_of bs) b.0 b.1
branches_of_put [] b = refl
branches_of_put (a ∷ bs) b = ap (BMore a.0 a.1) (branches_of_put bs b)

pub branch_is : (b : Branch) → branch b ≡ (statement b.head, body b.body)
branch_is b = search (rules, the_lemmas)

pub branches_put : (before now : List Branch) (b : Branch) → now ≡ before ++ (b ∷ []) → branches_of (map branch now) ≡ put_branch (branches_of (map branch before)) (statement b.head) (body b.body)
branches_put before now b e =
    ap (λ (z : List Branch). branches_of (map branch z)) e ∙ ap branches_of (map-append branch before (b ∷ [])) ∙ branches_of_put (map branch before) (branch b)
    ∙ ap (λ (z : PStatement × PBody). put_branch (branches_of (map branch before)) z.0 z.1) (branch_is b)

pub made_put : (before now : List Branch) (h : Statement) (ns : List Node) (b : List Node) → now ≡ before ++ (record { head = h; body = b } ∷ []) → b ≡ ns → Some (put_branch (branches_of (map branch before)) (statement h) (body ns)) ≡ Some (branches_of (map branch now))
made_put before now h ns b e same = ap some (ap (λ (z : List Node). put_branch (branches_of (map branch before)) (statement h) (body z)) (sym same) ∙ sym (branches_put before now (record { head = h; body = b }) e))

node_some : (bs : List Branch) (o : Branch) (end : Statement) → node (n.If bs (Some o) end) ≡ NElse (branches_of (map branch bs)) (branch o).0 (branch o).1 (statement end)
node_some bs o end = search (rules, the_lemmas)

pub node_else : (bs cs : List Branch) (h : Statement) (ns ms : List Node) (end : Statement) → cs ≡ bs → ms ≡ ns → node (n.If cs (Some (record { head = h; body = ms })) end) ≡ NElse (branches_of (map branch bs)) (statement h) (body ns) (statement end)
node_else bs cs h ns ms end e same =
    let o : Branch = record { head = h; body = ms } in
    node_some cs o end
    ∙ ap (λ (z : PStatement × PBody). NElse (branches_of (map branch cs)) z.0 z.1 (statement end)) (branch_is o)
    ∙ ap (λ (z : List Branch). NElse (branches_of (map branch z)) (statement h) (body ms) (statement end)) e
    ∙ ap (λ (z : List Node). NElse (branches_of (map branch bs)) (statement h) (body z) (statement end)) same

pub is_full : (ns : List Node) → 1 ≤ length ns → false ≡ is_empty (body ns)
is_full [] le = absurd (omega arith)
is_full (n ∷ ns) le = refl
