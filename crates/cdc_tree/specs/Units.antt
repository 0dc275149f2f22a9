-- Units without the pointers of their boxes, and the statements that they are written as.
use Rattle.std.specs.Prelude.{List, [], ◌∷◌, ◌++◌, map, option_map, Option, Some, None}
use Rattle.cdc_tree.specs.declared.unit.Node.{Node, fold-Node}
use Rattle.cdc_tree.specs.declared.unit.Node.TheOpen.{Node-F, Branch-F}
use Rattle.cdc_tree.specs.declared.unit.Branch.{Branch, fold-Branch}
use Rattle.cdc_tree.specs.declared.unit.UnitText.{UnitText}
use Rattle.cdc_tree.specs.Forms.{PStatement, statement}

mutual
  pub data PNode : Type 0 where
    NPlain : PStatement → PNode
    -- the branches headed by IF and ELSE IF, and END IF
    NIf : PBranches → PStatement → PNode
    -- the same with a branch headed by ELSE
    NElse : PBranches → PStatement → PBody → PStatement → PNode
    NLoop : PStatement → PBody → PStatement → PNode

  pub data PBody : Type 0 where
    Empty : PBody
    More : PNode → PBody → PBody

  pub data PBranches : Type 0 where
    BNone : PBranches
    BMore : PStatement → PBody → PBranches → PBranches

pub record PUnit : Type 0 where
  pub head : PStatement
  pub none : Option PStatement
  pub declarations : List PStatement
  pub body : PBody
  pub end : PStatement

abbrev pub body_of : List PNode → PBody
body_of [] = Empty
body_of (n ∷ more) = More n (body_of more)

abbrev pub branches_of : List (PStatement × PBody) → PBranches
branches_of [] = BNone
branches_of (b ∷ more) = BMore b.0 b.1 (branches_of more)

abbrev pub if_node : PBranches → Option (PStatement × PBody) → PStatement → PNode
if_node bs None end = NIf bs end
if_node bs (Some b) end = NElse bs b.0 b.1 end

abbrev pub node_node : Node-F PNode (PStatement × PBody) → PNode
node_node (Node-F.Plain s) = NPlain (statement s)
node_node (Node-F.If branches other end) = if_node (branches_of branches) other (statement end)
node_node (Node-F.Loop head body end) = NLoop (statement head) (body_of body) (statement end)

abbrev pub branch_node : Branch-F PNode (PStatement × PBody) → PStatement × PBody
branch_node b = (statement b.head, body_of b.body)

abbrev pub node : Node → PNode
node = fold-Node PNode (PStatement × PBody) node_node branch_node

abbrev pub body : List Node → PBody
body nodes = body_of (map node nodes)

abbrev pub branch : Branch → PStatement × PBody
branch = fold-Branch PNode (PStatement × PBody) node_node branch_node

abbrev pub unit : UnitText → PUnit
unit u = record { head = statement u.head; none = option_map statement u.none; declarations = map statement u.declarations; body = body u.body; end = statement u.end }

-- ---- written out

abbrev mutual
  pub node_out : PNode → List PStatement
  node_out (NPlain s) = s ∷ []
  node_out (NIf bs end) = branches_out bs ++ (end ∷ [])
  node_out (NElse bs head b end) = branches_out bs ++ (head ∷ (out b ++ (end ∷ [])))
  node_out (NLoop head b end) = head ∷ (out b ++ (end ∷ []))

  pub out : PBody → List PStatement
  out Empty = []
  out (More n b) = node_out n ++ out b

  pub branches_out : PBranches → List PStatement
  branches_out BNone = []
  branches_out (BMore head b more) = head ∷ (out b ++ branches_out more)

abbrev pub none_out : Option PStatement → List PStatement
none_out None = []
none_out (Some s) = s ∷ []

abbrev pub unit_out : PUnit → List PStatement
unit_out u = u.head ∷ (none_out u.none ++ (u.declarations ++ (out u.body ++ (u.end ∷ []))))

abbrev pub written_out : List PUnit → List PStatement
written_out [] = []
written_out (u ∷ us) = unit_out u ++ written_out us
