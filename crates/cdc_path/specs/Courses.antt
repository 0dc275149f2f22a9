-- The paths through statements, units and programs. They follow control and the order of evaluation. Conditions and numbers of turns are not used: each arm is open, a DO may make any number of turns, and a DOALL none or one.
use Rattle.std.specs.Prelude.{ℕ, zero, suc, List, [], ◌∷◌, length}
use Rattle.cdc_prog.specs.declared.expr.Ref.{Ref}
use Rattle.cdc_prog.specs.declared.expr.Var.{Var}
use Rattle.cdc_prog.specs.declared.expr.Var.TheVariants as var
use Rattle.cdc_prog.specs.Plain.{Expr, Number, Scalar, Element, Un, Bin, Exprs, Empty, More, Target, Item, Text, Value, Actual, Whole, Copy, Control, Stmt, Skip, Seq, Assign, If, Arm, Do, Doall, Call, Print, Read, Program}
use Rattle.cdc_prog.specs.Units.{body_of}
use Rattle.cdc_path.specs.declared.point.Point.{Point}
use Rattle.cdc_path.specs.declared.point.Point.TheVariants as point
use Rattle.cdc_path.specs.PathExpr.{PathExpr, Nothing, One, Then, Either, Repeat, Passes, Visit}

-- one point under a call path
abbrev pub at : (path : List ℕ) → Point → PathExpr
at path p = One (record { path = path; point = p })

-- a slot lies in no memory, so nothing is passed at it
abbrev pub at_var : (path : List ℕ) → Var → Point → PathExpr
at_var path (var.Slot k) p = Nothing
at_var path v p = at path p

-- the subscripts of an element come before its access
abbrev mutual
  pub expr_course : (path : List ℕ) → Expr → PathExpr
  expr_course path (Number n) = Nothing
  expr_course path (Scalar r) = at_var path r.var (point.Read r.site)
  expr_course path (Element r subs) = Then (exprs_course path subs) (at path (point.Read r.site))
  expr_course path (Un op a) = expr_course path a
  expr_course path (Bin op a b) = Then (expr_course path a) (expr_course path b)

  pub exprs_course : (path : List ℕ) → Exprs → PathExpr
  exprs_course path Empty = Nothing
  exprs_course path (More e es) = Then (expr_course path e) (exprs_course path es)

-- the store into a target, whose subscripts come earlier
abbrev pub store_course : (path : List ℕ) → Ref → Exprs → PathExpr
store_course path r Empty = at_var path r.var (point.Write r.site)
store_course path r (More e es) = at path (point.Write r.site)

abbrev pub controls_course : (path : List ℕ) → Control → PathExpr
controls_course path k = Then (expr_course path k.from) (Then (expr_course path k.to) (expr_course path k.by))

abbrev pub items_course : (path : List ℕ) → List Item → PathExpr
items_course path [] = Nothing
items_course path (Text number ∷ more) = items_course path more
items_course path (Value value ∷ more) = Then (expr_course path value) (items_course path more)

abbrev pub reads_course : (path : List ℕ) → List Target → PathExpr
reads_course path [] = Nothing
reads_course path (t ∷ more) = Then (exprs_course path t.subs) (Then (store_course path t.at t.subs) (reads_course path more))

-- a value that is passed is stored in its hidden object
abbrev pub actuals_course : (path : List ℕ) → List Actual → PathExpr
actuals_course path [] = Nothing
actuals_course path (Whole v ∷ more) = actuals_course path more
actuals_course path (Copy r value ∷ more) = Then (expr_course path value) (Then (at_var path r.var (point.Write r.site)) (actuals_course path more))

-- the paths through statements, where those of a CALL after its actuals are given
abbrev pub course : (calls : (number unit : ℕ) → PathExpr) → (path : List ℕ) → Stmt → PathExpr
course calls path Skip = Nothing
course calls path (Seq a b) = Then (course calls path a) (course calls path b)
course calls path (Assign line t value) = Then (exprs_course path t.subs) (Then (expr_course path value) (store_course path t.at t.subs))
course calls path (If arms) = course calls path arms
course calls path (Arm line cond body other) = Then (expr_course path cond) (Either (course calls path body) (course calls path other))
course calls path (Do k first body again bump) =
    let raised = Then (at_var path again.var (point.Read again.site)) (at_var path bump.var (point.Write bump.site)) in
    Then (controls_course path k) (Then (at_var path first.var (point.Write first.site)) (Repeat (Then (course calls path body) raised)))
course calls path (Doall k number slots body) =
    Then (controls_course path k) (Then (at path (point.Entry number)) (Then (Either (course calls path body) Nothing) (at path (point.Exit number))))
course calls path (Call line number unit actuals) = Then (actuals_course path actuals) (calls number unit)
course calls path (Print line items) = items_course path items
course calls path (Read line targets) = reads_course path targets

-- the flow graph of a unit: a CALL is one point
abbrev pub unit_course : (path : List ℕ) → Stmt → PathExpr
unit_course path body = course (λ number unit. at path (point.Call number)) path body

-- the expanded flow graph of a unit under a call path: each CALL is a copy of the flow graph of its unit, so it returns to its own call path alone. Calls go at most this deep
abbrev pub expanded : Program → (deep : ℕ) → (path : List ℕ) → (unit : ℕ) → PathExpr
expanded p zero path u = Nothing
expanded p (suc deep) path u = course (λ number. expanded p deep (number ∷ path)) path (body_of p u)

-- no unit reaches itself, so calls go no deeper than there are units
abbrev pub program_course : Program → PathExpr
program_course p = expanded p (length p.units) [] p.main

-- the points on a path of a program from its start to its end, the newest first
abbrev pub IsPath : Program → List Visit → Type 0
IsPath p u = Passes (program_course p) [] u
