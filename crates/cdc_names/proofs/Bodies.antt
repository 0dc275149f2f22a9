-- The first place in a body, from the first places in its parts; inside a DOALL each statement is asked, else those in DOALL loops.
use Rattle.std.proofs.Common.{◌≡◌, Bool, true, false, List, [], ◌∷◌, ◌++◌, map, Option, Some, None, refl, ap, sym, ◌∙◌}
use Rattle.std.specs.Prelude.{if◌then◌else◌, ◌||◌}
use Rattle.cdc_base.specs.declared.place.Place.{Place}
use Rattle.cdc_tree.specs.declared.unit.Node.{Node}
use Rattle.cdc_tree.specs.declared.unit.Branch.{Branch}
use Rattle.cdc_tree.specs.Forms.{PStatement}
use Rattle.cdc_tree.specs.Units.{PNode, NIf, NElse, NLoop, PBody, PBranches, node, body, branch, branches_of, node_out, out, branches_out}
use Rattle.cdc_names.specs.Places.{sooner, first_of}
use Rattle.cdc_names.specs.DoallBodies.{misplaced, is_doall, node_inside, body_inside, branches_inside, branch_out}
use Rattle.cdc_names.proofs.Firsts.{sooner_assoc}

sooner_none : (a : Option Place) → sooner a None ≡ a
sooner_none None = refl
sooner_none (Some p) = refl

-- the first place of two lists
first_more : {A : Type 0} (f : A → Option Place) (xs ys : List A) → first_of f (xs ++ ys) ≡ sooner (first_of f xs) (first_of f ys)
first_more f [] ys = refl
first_more f (x ∷ xs) ys = ap (sooner (f x)) (first_more f xs ys) ∙ sym (sooner_assoc (f x) (first_of f xs) (first_of f ys))

-- the same where the second list is one item
first_last : {A : Type 0} (f : A → Option Place) (xs : List A) (y : A) → first_of f (xs ++ y ∷ []) ≡ sooner (first_of f xs) (f y)
first_last f xs y = first_more f xs (y ∷ []) ∙ ap (sooner (first_of f xs)) (sooner_none (f y))

abbrev pub Asked : Bool → PStatement → Option Place
Asked inside s = if inside then misplaced s else None

abbrev pub NodeAsked : Bool → PNode → Option Place
NodeAsked inside n = first_of misplaced (if inside then node_out n else node_inside n)

abbrev pub BodyAsked : Bool → PBody → Option Place
BodyAsked inside b = first_of misplaced (if inside then out b else body_inside b)

abbrev pub BranchAsked : Bool → PStatement × PBody → Option Place
BranchAsked inside b = first_of misplaced (if inside then branch_out b else body_inside b.1)

abbrev pub BranchesAsked : Bool → PBranches → Option Place
BranchesAsked inside bs = first_of misplaced (if inside then branches_out bs else branches_inside bs)

pub if_asked : (inside : Bool) (bs : PBranches) (end : PStatement)
    → sooner (BranchesAsked inside bs) (Asked inside end) ≡ NodeAsked inside (NIf bs end)
if_asked true bs end = sym (first_last misplaced (branches_out bs) end)
if_asked false bs end = sooner_none (first_of misplaced (branches_inside bs))

pub else_asked : (inside : Bool) (bs : PBranches) (b : PStatement × PBody) (end : PStatement)
    → sooner (BranchesAsked inside bs) (sooner (BranchAsked inside b) (Asked inside end))
    ≡ NodeAsked inside (NElse bs b.0 b.1 end)
else_asked true bs b end =
    ap (sooner (first_of misplaced (branches_out bs))) (sym (first_last misplaced (branch_out b) end))
    ∙ sym (first_more misplaced (branches_out bs) (branch_out b ++ end ∷ []))
else_asked false bs b end =
    ap (sooner (first_of misplaced (branches_inside bs))) (sooner_none (first_of misplaced (body_inside b.1)))
    ∙ sym (first_more misplaced (branches_inside bs) (body_inside b.1))

pub loop_asked : (inside : Bool) (head : PStatement) (b : PBody) (end : PStatement)
    → sooner (Asked inside head) (sooner (BodyAsked (inside || is_doall head.form) b) (Asked inside end))
    ≡ NodeAsked inside (NLoop head b end)
loop_asked true head b end = ap (sooner (misplaced head)) (sym (first_last misplaced (out b) end))
loop_asked false head b end = sooner_none (BodyAsked (is_doall head.form) b)

-- a body one node longer, and the branches of an IF one longer
pub nodes_asked : (inside : Bool) (n : Node) (ns : List Node)
    → BodyAsked inside (body (n ∷ ns)) ≡ sooner (NodeAsked inside (node n)) (BodyAsked inside (body ns))
nodes_asked true n ns = first_more misplaced (node_out (node n)) (out (body ns))
nodes_asked false n ns = first_more misplaced (node_inside (node n)) (body_inside (body ns))

pub branches_asked : (inside : Bool) (b : Branch) (bs : List Branch)
    → BranchesAsked inside (branches_of (map branch (b ∷ bs))) ≡ sooner (BranchAsked inside (branch b)) (BranchesAsked inside (branches_of (map branch bs)))
branches_asked true b bs = first_more misplaced (branch_out (branch b)) (branches_out (branches_of (map branch bs)))
branches_asked false b bs = first_more misplaced (body_inside (branch b).1) (branches_inside (branches_of (map branch bs)))
