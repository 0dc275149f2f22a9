-- What the points of paths refer to: an object, and in it a section.
use Rattle.std.specs.Prelude.{◌≡◌, ℕ, Bool, true, false, List, [], ◌∷◌, ◌++◌}
use Rattle.cdc_num.specs.declared.triplet.Triplet.{Triplet}
use Rattle.cdc_prog.specs.declared.expr.Ref.{Ref}
use Rattle.cdc_prog.specs.declared.affine.Scope.{Scope}
use Rattle.cdc_prog.specs.Plain.{Expr, Number, Scalar, Element, Un, Bin, Exprs, Empty, More, Target, Item, Text, Value, Actual, Whole, Copy, Control, Stmt, Skip, Seq, Assign, If, Arm, Do, Doall, Call, Print, Read, Program}
use Rattle.cdc_prog.specs.Data.{dims_of}
use Rattle.cdc_prog.specs.Units.{body_of, binding_of}
use Rattle.cdc_prog.specs.Dependence.{Spot, spot, index_of, inside, own, range_of}
use Rattle.cdc_prog.specs.Iterations.{IsIn}
use Rattle.cdc_prog.specs.Paths.{IsUnder, Denotes}
use Rattle.cdc_prog.specs.Sections.{section}

-- the references of expressions in the order of the accesses, scalars among them
abbrev mutual
  pub expr_refs : Scope → Expr → List Spot
  expr_refs sc (Number n) = []
  expr_refs sc (Scalar r) = spot sc false r Empty ∷ []
  expr_refs sc (Element r subs) = exprs_refs sc subs ++ (spot sc false r subs ∷ [])
  expr_refs sc (Un op a) = expr_refs sc a
  expr_refs sc (Bin op a b) = expr_refs sc a ++ expr_refs sc b

  pub exprs_refs : Scope → Exprs → List Spot
  exprs_refs sc Empty = []
  exprs_refs sc (More e es) = expr_refs sc e ++ exprs_refs sc es

abbrev pub store_ref : Scope → Ref → Exprs → List Spot
store_ref sc r subs = spot sc true r subs ∷ []

abbrev pub controls_refs : Scope → Control → List Spot
controls_refs sc k = expr_refs sc k.from ++ (expr_refs sc k.to ++ expr_refs sc k.by)

abbrev pub items_refs : Scope → List Item → List Spot
items_refs sc [] = []
items_refs sc (Text number ∷ more) = items_refs sc more
items_refs sc (Value value ∷ more) = expr_refs sc value ++ items_refs sc more

abbrev pub reads_refs : Scope → List Target → List Spot
reads_refs sc [] = []
reads_refs sc (t ∷ more) = exprs_refs sc t.subs ++ (store_ref sc t.at t.subs ++ reads_refs sc more)

abbrev pub actuals_refs : Scope → List Actual → List Spot
actuals_refs sc [] = []
actuals_refs sc (Whole v ∷ more) = actuals_refs sc more
actuals_refs sc (Copy r value ∷ more) = expr_refs sc value ++ (store_ref sc r Empty ++ actuals_refs sc more)

-- a DOALL encloses its body with its own index
abbrev pub inside_doall : Scope → Control → Scope
inside_doall sc k = inside sc (record { var = own; range = range_of k })

-- the references of statements, each with the indexes of the loops that enclose it. A loop does not enclose its own controls
abbrev pub refs : Scope → Stmt → List Spot
refs sc Skip = []
refs sc (Seq a b) = refs sc a ++ refs sc b
refs sc (Assign line t value) = exprs_refs sc t.subs ++ (expr_refs sc value ++ store_ref sc t.at t.subs)
refs sc (If arms) = refs sc arms
refs sc (Arm line cond body other) = expr_refs sc cond ++ (refs sc body ++ refs sc other)
refs sc (Do k first body again bump) =
    let raised = spot sc false again Empty ∷ spot sc true bump Empty ∷ [] in
    controls_refs sc k ++ (store_ref sc first Empty ++ (refs (inside sc (index_of k first)) body ++ raised))
refs sc (Doall k number slots body) = controls_refs sc k ++ refs (inside_doall sc k) body
refs sc (Call line number unit actuals) = actuals_refs sc actuals
refs sc (Print line items) = items_refs sc items
refs sc (Read line targets) = reads_refs sc targets

-- outside all loops, and no scalar is fixed
abbrev pub outside : Scope
outside = record { indexes = []; fixed = [] }

-- under this call path the access at this site touches this object, in this section; it writes or it reads
pub record Touches (p : Program) (writes : Bool) (path : List ℕ) (site object : ℕ) (ts : List Triplet) : Type 0 where
  pub unit : ℕ
  pub bound : List ℕ
  pub under : IsUnder p path unit bound
  pub at : Spot
  pub stands : IsIn at (refs outside (body_of p unit))
  pub kind : at.writes ≡ writes
  pub site_is : at.at.site ≡ site
  pub object_is : Denotes (binding_of p path unit bound) at.at.var object
  pub section_is : section at.scope at.subs (dims_of (binding_of p path unit bound) at.at.var) ≡ ts
