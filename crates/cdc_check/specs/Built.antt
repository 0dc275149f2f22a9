-- The statements that are read and not built yet: SUBROUTINE and CALL; and where the heads of loops stand.
use Rattle.std.specs.Prelude.{◌≡◌, Bool, true, false, List}
use Rattle.cdc_tree.specs.Forms.{PStatement, PForm, FSubroutine, FDo, FDoall, FCall, FLogicalIf}
use Rattle.cdc_tree.specs.Order.{Each}
use Rattle.cdc_tree.specs.Units.{PNode, NPlain, NIf, NElse, NLoop, PBody, Empty, More, PBranches, BNone, BMore, PUnit, written_out}

-- also where it is the statement of a logical IF
abbrev pub is_unbuilt : PForm → Bool
is_unbuilt (FSubroutine name dummies) = true
is_unbuilt (FCall name actuals) = true
is_unbuilt (FLogicalIf condition place simple) = is_unbuilt simple
is_unbuilt _ = false

abbrev pub IsUnbuilt : PStatement → Type 0
IsUnbuilt s = is_unbuilt s.form ≡ true

abbrev pub AllBuilt : List PStatement → Type 0
AllBuilt = Each (λ s. IsUnbuilt s → ⊥)

-- ---- loops
-- a DO or DOALL
abbrev pub is_loop : PForm → Bool
is_loop (FDo l) = true
is_loop (FDoall l privates) = true
is_loop _ = false

-- also where it is the statement of a logical IF
abbrev pub begins_loop : PForm → Bool
begins_loop (FLogicalIf condition place simple) = begins_loop simple
begins_loop f = is_loop f

abbrev pub BeginsNone : PStatement → Type 0
BeginsNone s = begins_loop s.form ≡ false

-- each loop has a DO or DOALL at its head, and these stand nowhere else
abbrev mutual
  pub NodeLoops : PNode → Type 0
  NodeLoops (NPlain s) = BeginsNone s
  NodeLoops (NIf branches end) = BranchesLoop branches
  NodeLoops (NElse branches head other end) = BranchesLoop branches × BeginsNone head × BodyLoops other
  NodeLoops (NLoop head inner end) = (is_loop head.form ≡ true) × BodyLoops inner

  pub BodyLoops : PBody → Type 0
  BodyLoops Empty = Unit {0}
  BodyLoops (More n rest) = NodeLoops n × BodyLoops rest

  pub BranchesLoop : PBranches → Type 0
  BranchesLoop BNone = Unit {0}
  BranchesLoop (BMore head inner rest) = BeginsNone head × BodyLoops inner × BranchesLoop rest

pub record HasLoops (u : PUnit) : Type 0 where
  pub head : BeginsNone u.head
  pub declarations : Each BeginsNone u.declarations
  pub body : BodyLoops u.body

-- units of which each statement is built, and each DO and DOALL is the head of its loop
pub record AreBuilt (us : List PUnit) : Type 0 where
  pub statements : AllBuilt (written_out us)
  pub loops : Each HasLoops us
