-- The uses of names in a unit, in the order of its text; the end of a DO or DOALL is listed for each name that it counts by or owns.
use Rattle.std.specs.Prelude.{List, [], ◌∷◌, ◌++◌, map, length, Option, Some, None}
use Rattle.cdc_tree.specs.declared.tree.Named.{Named}
use Rattle.cdc_tree.specs.Plain.{Plain, PNumber, PName, PApply, PParen, PPlus, PUn, PBin, PKnown, Plains, PEnd, PMore, plains, count}
use Rattle.cdc_tree.specs.Forms.{PBound, PDeclared, PDefine, PSpot, PLoop, PShown, PText, PValue, PStatement, PForm, FSubroutine, FInteger, FParameter, FAssign, FIfThen, FElseIf, FLogicalIf, FDo, FDoall, FCall, FPrint, FRead}
use Rattle.cdc_tree.specs.Units.{PNode, NPlain, NIf, NElse, NLoop, PBody, Empty, More, PBranches, BNone, BMore, PUnit}
use Rattle.cdc_names.specs.declared.name_use.Role.{Role}
use Rattle.cdc_names.specs.declared.name_use.Role.TheVariants.{Read, Assigned, Input, Actual, Dummy, Counted, Index, Private, Closed}
use Rattle.cdc_names.specs.Places.{joined}
use Rattle.cdc_names.specs.Used.{Used, used}

abbrev mutual
  pub tree_uses : Plain → List Used
  tree_uses (PNumber place n) = []
  tree_uses (PName n) = used n Read 0 ∷ []
  tree_uses (PApply n subs) = used n Read (count subs) ∷ trees_uses subs
  tree_uses (PParen place a) = tree_uses a
  tree_uses (PPlus place a) = tree_uses a
  tree_uses (PUn place op a) = tree_uses a
  tree_uses (PBin op a b) = tree_uses a ++ tree_uses b
  tree_uses (PKnown place which args) = trees_uses args

  pub trees_uses : Plains → List Used
  trees_uses PEnd = []
  trees_uses (PMore a more) = tree_uses a ++ trees_uses more

abbrev pub optional_uses : Option Plain → List Used
optional_uses None = []
optional_uses (Some t) = tree_uses t

abbrev pub names_uses : Role → List Named → List Used
names_uses role ns = map (λ n. used n role 0) ns

abbrev pub spot_uses : Role → PSpot → List Used
spot_uses role s = used s.0 role (length s.1) ∷ trees_uses (plains s.1)

abbrev pub spots_uses : Role → List PSpot → List Used
spots_uses role ss = joined (map (spot_uses role) ss)

-- an actual that is one name, without parentheses, is a whole actual
abbrev pub actual_uses : Plain → List Used
actual_uses (PName n) = used n Actual 0 ∷ []
actual_uses t = tree_uses t

abbrev pub shown_uses : PShown → List Used
shown_uses (PText text) = []
shown_uses (PValue t) = tree_uses t

abbrev pub bound_uses : PBound → List Used
bound_uses b = optional_uses b.0 ++ tree_uses b.1

abbrev pub item_uses : PDeclared → List Used
item_uses d = joined (map bound_uses d.1)

abbrev pub define_uses : PDefine → List Used
define_uses d = tree_uses d.1

abbrev pub control_uses : PLoop → List Used
control_uses l = tree_uses l.1 ++ tree_uses l.2 ++ optional_uses l.3

abbrev pub form_uses : PForm → List Used
form_uses (FSubroutine name dummies) = names_uses Dummy dummies
form_uses (FInteger items) = joined (map item_uses items)
form_uses (FParameter items) = joined (map define_uses items)
form_uses (FAssign spot value) = spot_uses Assigned spot ++ tree_uses value
form_uses (FIfThen cond) = tree_uses cond
form_uses (FElseIf cond) = tree_uses cond
form_uses (FLogicalIf cond place simple) = tree_uses cond ++ form_uses simple
form_uses (FDo l) = used l.0 Counted 0 ∷ control_uses l
form_uses (FDoall l privates) = used l.0 Index 0 ∷ control_uses l ++ names_uses Private privates
form_uses (FCall name actuals) = joined (map actual_uses actuals)
form_uses (FPrint items) = joined (map shown_uses items)
form_uses (FRead spots) = spots_uses Input spots
form_uses _ = []

abbrev pub statement_uses : PStatement → List Used
statement_uses s = form_uses s.form

abbrev pub statements_uses : List PStatement → List Used
statements_uses ss = joined (map statement_uses ss)

-- the names whose loop ends with this head's construct
abbrev pub closing_uses : PForm → List Used
closing_uses (FDo l) = used l.0 Closed 0 ∷ []
closing_uses (FDoall l privates) = used l.0 Closed 0 ∷ names_uses Closed privates
closing_uses _ = []

abbrev mutual
  pub node_uses : PNode → List Used
  node_uses (NPlain s) = statement_uses s
  node_uses (NIf branches end) = branches_uses branches
  node_uses (NElse branches head other end) = branches_uses branches ++ (statement_uses head ++ body_uses other)
  node_uses (NLoop head inner end) = statement_uses head ++ body_uses inner ++ closing_uses head.form

  pub body_uses : PBody → List Used
  body_uses Empty = []
  body_uses (More n rest) = node_uses n ++ body_uses rest

  pub branches_uses : PBranches → List Used
  branches_uses BNone = []
  branches_uses (BMore head inner rest) = (statement_uses head ++ body_uses inner) ++ branches_uses rest

-- the uses in a branch of an IF
abbrev pub branch_uses : PStatement × PBody → List Used
branch_uses b = statement_uses b.0 ++ body_uses b.1

abbrev pub unit_uses : PUnit → List Used
unit_uses u = statement_uses u.head ++ statements_uses u.declarations ++ body_uses u.body
