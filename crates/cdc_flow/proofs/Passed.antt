-- The points of a unit are passed: none of them is plain, and all stand under the empty call path.
use Rattle.std.proofs.Common.{◌≡◌, List, [], ◌∷◌, refl}
use Rattle.cdc_prog.specs.declared.expr.Ref.{Ref}
use Rattle.cdc_prog.specs.declared.expr.Var.{Var}
use Rattle.cdc_prog.specs.declared.expr.Var.TheVariants as var
use Rattle.cdc_prog.specs.Plain.{Expr, Number, Scalar, Element, Un, Bin, Exprs, Empty, More, Target, Item, Text, Value, Actual, Whole, Copy, Control, Stmt, Skip, Seq, Assign, If, Arm, Do, Doall, Call, Print, Read}
use Rattle.cdc_path.specs.declared.point.Point.{Point}
use Rattle.cdc_path.specs.declared.point.Point.TheVariants as point
use Rattle.cdc_path.specs.PathExpr.{Visit}
use Rattle.cdc_path.specs.Courses.{at_var, expr_course, exprs_course, store_course, controls_course, items_course, reads_course, actuals_course, unit_course}
use Rattle.cdc_flow.specs.Flow.{pass}
use Rattle.cdc_flow.proofs.Flows.{Passed}

var_passed : (v : Var) (p : Point) → ((t : List Visit) → pass p t ≡ record { path = []; point = p } ∷ t) → Passed (at_var [] v p)
var_passed (var.Object k) p h = h
var_passed (var.Dummy k) p h = h
var_passed (var.Slot k) p h = tt

mutual
  expr_passed : (e : Expr) → Passed (expr_course [] e)
  expr_passed (Number n) = tt
  expr_passed (Scalar r) = var_passed r.var (point.Read r.site) (λ t. refl)
  expr_passed (Element r subs) = (exprs_passed subs, λ t. refl)
  expr_passed (Un op a) = expr_passed a
  expr_passed (Bin op a b) = (expr_passed a, expr_passed b)

  exprs_passed : (es : Exprs) → Passed (exprs_course [] es)
  exprs_passed Empty = tt
  exprs_passed (More e es) = (expr_passed e, exprs_passed es)

store_passed : (r : Ref) (subs : Exprs) → Passed (store_course [] r subs)
store_passed r Empty = var_passed r.var (point.Write r.site) (λ t. refl)
store_passed r (More e es) = λ t. refl

controls_passed : (k : Control) → Passed (controls_course [] k)
controls_passed k = (expr_passed k.from, (expr_passed k.to, expr_passed k.by))

items_passed : (items : List Item) → Passed (items_course [] items)
items_passed [] = tt
items_passed (Text number ∷ more) = items_passed more
items_passed (Value value ∷ more) = (expr_passed value, items_passed more)

reads_passed : (targets : List Target) → Passed (reads_course [] targets)
reads_passed [] = tt
reads_passed (t ∷ more) = (exprs_passed t.subs, (store_passed t.at t.subs, reads_passed more))

actuals_passed : (actuals : List Actual) → Passed (actuals_course [] actuals)
actuals_passed [] = tt
actuals_passed (Whole v ∷ more) = actuals_passed more
actuals_passed (Copy r value ∷ more) = (expr_passed value, (var_passed r.var (point.Write r.site) (λ t. refl), actuals_passed more))

pub unit_passed : (s : Stmt) → Passed (unit_course [] s)
unit_passed Skip = tt
unit_passed (Seq a b) = (unit_passed a, unit_passed b)
unit_passed (Assign line t value) = (exprs_passed t.subs, (expr_passed value, store_passed t.at t.subs))
unit_passed (If arms) = unit_passed arms
unit_passed (Arm line cond body other) = (expr_passed cond, (unit_passed body, unit_passed other))
unit_passed (Do k first body again bump) =
    (controls_passed k, (var_passed first.var (point.Write first.site) (λ t. refl), (unit_passed body, (var_passed again.var (point.Read again.site) (λ t. refl), var_passed bump.var (point.Write bump.site) (λ t. refl)))))
unit_passed (Doall k number slots body) = (controls_passed k, ((λ t. refl), ((unit_passed body, tt), (λ t. refl))))
unit_passed (Call line number unit actuals) = (actuals_passed actuals, λ t. refl)
unit_passed (Print line items) = items_passed items
unit_passed (Read line targets) = reads_passed targets
