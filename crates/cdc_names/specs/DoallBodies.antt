-- A statement in the body of a DOALL that is no assignment, IF or DO.
use Rattle.std.specs.Prelude.{Bool, true, false, if◌then◌else◌, List, [], ◌∷◌, ◌++◌, Option, Some, None}
use Rattle.cdc_base.specs.declared.place.Place.{Place}
use Rattle.cdc_tree.specs.Forms.{PStatement, PForm, FAssign, FIfThen, FElseIf, FElse, FEndIf, FLogicalIf, FDo, FEndDo, FDoall}
use Rattle.cdc_tree.specs.Units.{PNode, NPlain, NIf, NElse, NLoop, PBody, Empty, More, PBranches, BNone, BMore, PUnit, out}
use Rattle.cdc_names.specs.Places.{first_of}

-- where a form stands that is no assignment and no part of an IF or a DO; a logical IF holds one statement
abbrev pub misfit : Place → PForm → Option Place
misfit place (FAssign spot value) = None
misfit place (FIfThen cond) = None
misfit place (FElseIf cond) = None
misfit place FElse = None
misfit place FEndIf = None
misfit place (FLogicalIf cond inner simple) = misfit inner simple
misfit place (FDo l) = None
misfit place FEndDo = None
misfit place f = Some place

abbrev pub misplaced : PStatement → Option Place
misplaced s = misfit s.place s.form

abbrev pub is_doall : PForm → Bool
is_doall (FDoall l privates) = true
is_doall f = false

-- the statements in the bodies of DOALL loops, as they are written
abbrev mutual
  pub node_inside : PNode → List PStatement
  node_inside (NPlain s) = []
  node_inside (NIf branches end) = branches_inside branches
  node_inside (NElse branches head other end) = branches_inside branches ++ body_inside other
  node_inside (NLoop head inner end) = if is_doall head.form then out inner else body_inside inner

  pub body_inside : PBody → List PStatement
  body_inside Empty = []
  body_inside (More n rest) = node_inside n ++ body_inside rest

  pub branches_inside : PBranches → List PStatement
  branches_inside BNone = []
  branches_inside (BMore head inner rest) = body_inside inner ++ branches_inside rest

-- a branch of an IF as it is written
abbrev pub branch_out : PStatement × PBody → List PStatement
branch_out b = b.0 ∷ out b.1

abbrev pub doall_body_in : PUnit → Option Place
doall_body_in u = first_of misplaced (body_inside u.body)
