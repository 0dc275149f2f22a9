-- The code of a program names slots and texts that are there.
use Rattle.std.proofs.Common.{ℕ, suc, ◌+◌, ◌<◌, ◌≤◌, Bool, true, false, ◌==◌, List, [], ◌∷◌, ◌++◌, length, sym, subst, arith}
use Rattle.std.specs.Prelude.{slice_get}
use Rattle.std.specs.List.{All}
use Rattle.std.proofs.lemmas.List.Elements.{All-nil, All-cons, All-head, All-tail}
use Rattle.cdc_prog.specs.declared.expr.Ref.{Ref}
use Rattle.cdc_prog.specs.declared.expr.Var.{Var}
use Rattle.cdc_prog.specs.declared.expr.Var.TheVariants as var
use Rattle.cdc_prog.specs.declared.expr.UnOp.{UnOp}
use Rattle.cdc_prog.specs.declared.expr.UnOp.TheVariants as un
use Rattle.cdc_prog.specs.declared.expr.BinOp.{BinOp}
use Rattle.cdc_prog.specs.declared.expr.BinOp.TheVariants as bin
use Rattle.cdc_prog.specs.declared.program.Dim.{Dim}
use Rattle.cdc_prog.specs.declared.program.Mark.{Mark}
use Rattle.cdc_prog.specs.Plain as tree
use Rattle.cdc_prog.specs.Plain.{Expr, Number, Scalar, Element, Un, Bin, Exprs, Empty, More, Item, Text, Value, Target, Control, Stmt, Skip, Seq, Assign, If, Arm, Do, Doall, Print, Read, Actual, Whole, Copy, ProgramUnit, Program}
use Rattle.cdc_prog.specs.Units.{shapes_in, body_in, body_of}
use Rattle.cdc_prog.specs.Resolved.{IsVar, ExprFits, SubsFit, SpotFits, TargetFits, ControlFits, ItemFits, ActualsFit, StmtFits}
use Rattle.cdc_code.specs.declared.instr.Step.{Step}
use Rattle.cdc_code.specs.declared.room.TheConstants.{SLOTS}
use Rattle.cdc_code.specs.Room.{SlotsRoom, IsNamed}
use Rattle.cdc_code.specs.Template.{at_line, unary_instr, binary_instr, set_instr, store_instr, get_instr, expr_code, exprs_code, located_code, target_code, leave_code, controls_code, with_gap, items_code, reads_code, passed_code, stmt_code, end_instr, unit_code, units_code}
use Rattle.cdc_code.specs.Laws.{CodeNames}

module _ (p : Program) (marks : List Mark) where
  abbrev Named : Step → Type 0
  Named i = IsNamed (length p.texts) i.instr

  -- each of the instructions is named right
  abbrev Each : List Step → Type 0
  Each [] = Unit {0}
  Each (i ∷ is) = Named i × Each is

  joined : (a b : List Step) → Each a → Each b → Each (a ++ b)
  joined [] b ea eb = eb
  joined (i ∷ a) b ea eb = (ea.0, joined a b ea.1 eb)

  as_all : (is : List Step) → Each is → All Named is
  as_all [] e = All-nil Named
  as_all (i ∷ is) e = All-cons Named i is e.0 (as_all is e.1)

  unary_named : (line : ℕ) (op : UnOp) → Named (at_line line (unary_instr op))
  unary_named line un.Neg = tt
  unary_named line un.Abs = tt
  unary_named line un.Not = tt

  binary_named : (line : ℕ) (op : BinOp) → Named (at_line line (binary_instr op))
  binary_named line bin.Add = tt
  binary_named line bin.Sub = tt
  binary_named line bin.Mul = tt
  binary_named line bin.Div = tt
  binary_named line bin.Mod = tt
  binary_named line bin.Min = tt
  binary_named line bin.Max = tt
  binary_named line bin.Eq = tt
  binary_named line bin.Ne = tt
  binary_named line bin.Lt = tt
  binary_named line bin.Le = tt
  binary_named line bin.Gt = tt
  binary_named line bin.Ge = tt
  binary_named line bin.And = tt
  binary_named line bin.Or = tt

  end_named : (b : Bool) → Named (at_line 0 (end_instr marks b))
  end_named true = tt
  end_named false = tt

  -- in a unit whose dummies have these dimensions, where an iteration has so many slots
  module _ (shapes : List (List Dim)) (slots : ℕ) (few : slots ≤ SLOTS) where
    get_named : (line site : ℕ) (v : Var) → IsVar p.objects shapes slots v → Named (at_line line (get_instr marks site v))
    get_named line site (var.Slot k) h = omega (arith, h, few)
    get_named line site (var.Object k) h = tt
    get_named line site (var.Dummy k) h = tt

    set_named : (line site : ℕ) (v : Var) → IsVar p.objects shapes slots v → Named (at_line line (set_instr site v))
    set_named line site (var.Slot k) h = omega (arith, h, few)
    set_named line site (var.Object k) h = tt
    set_named line site (var.Dummy k) h = tt

    mutual
      expr_named : (line : ℕ) (e : Expr) → ExprFits p.objects shapes slots e → Each (expr_code marks line e)
      expr_named line (Number n) h = (tt, tt)
      expr_named line (Scalar at) h = (get_named line at.site at.var h.0, tt)
      expr_named line (Element at Empty) h = absurd h
      expr_named line (Element at (More e es)) h = joined (exprs_code marks line (More e es)) _ (exprs_named line (More e es) _ h.1) (tt, (tt, tt))
      expr_named line (Un op e) h = joined (expr_code marks line e) _ (expr_named line e h) (unary_named line op, tt)
      expr_named line (Bin op e f) h = joined (expr_code marks line e) _ (expr_named line e h.0) (joined (expr_code marks line f) _ (expr_named line f h.1) (binary_named line op, tt))

      exprs_named : (line : ℕ) (es : Exprs) (dims : List Dim) → SubsFit p.objects shapes slots dims es → Each (exprs_code marks line es)
      exprs_named line Empty dims h = tt
      exprs_named line (More e es) [] h = absurd h
      exprs_named line (More e es) (d ∷ ds) h = joined (expr_code marks line e) _ (expr_named line e h.0) (exprs_named line es ds h.1)

    located_named : (line : ℕ) (at : Ref) (subs : Exprs) → SpotFits p.objects shapes slots at.var subs → Each (located_code marks line at subs)
    located_named line at Empty h = tt
    located_named line at (More e es) h = joined (exprs_code marks line (More e es)) _ (exprs_named line (More e es) _ h.1) (tt, tt)

    store_named : (line : ℕ) (at : Ref) (subs : Exprs) → SpotFits p.objects shapes slots at.var subs → Named (at_line line (store_instr at subs))
    store_named line at Empty h = set_named line at.site at.var h.0
    store_named line at (More e es) h = tt

    controls_named : (k : Control) → ControlFits p.objects shapes slots k → Each (controls_code marks k)
    controls_named k h = joined (expr_code marks k.line k.from) _ (expr_named k.line k.from h.0) (joined (expr_code marks k.line k.to) _ (expr_named k.line k.to h.1) (expr_named k.line k.by h.2))

    gap_named : (first : Bool) (line : ℕ) (is : List Step) → Each is → Each (with_gap marks first line is)
    gap_named true line is e = e
    gap_named false line is e = (tt, e)

    items_named : (line : ℕ) (first : Bool) (items : List Item) → All (ItemFits p.objects shapes slots (length p.texts)) items → Each (items_code marks line first items)
    items_named line first [] h = (tt, tt)
    items_named line first (Text number ∷ more) h =
        gap_named first line _ (All-head (ItemFits p.objects shapes slots (length p.texts)) (Text number) more h, items_named line false more (All-tail (ItemFits p.objects shapes slots (length p.texts)) (Text number) more h))
    items_named line first (Value value ∷ more) h =
        joined (expr_code marks line value) _ (expr_named line value (All-head (ItemFits p.objects shapes slots (length p.texts)) (Value value) more h))
        (gap_named first line _ (tt, items_named line false more (All-tail (ItemFits p.objects shapes slots (length p.texts)) (Value value) more h)))

    reads_named : (line : ℕ) (targets : List Target) → All (TargetFits p.objects shapes slots) targets → Each (reads_code marks line targets)
    reads_named line [] h = (tt, tt)
    reads_named line (t ∷ ts) h =
        let here = All-head (TargetFits p.objects shapes slots) t ts h in
        joined (target_code marks line t) _ (located_named line t.at t.subs here) (tt, (store_named line t.at t.subs here, reads_named line ts (All-tail (TargetFits p.objects shapes slots) t ts h)))

  serial_few : 0 ≤ SLOTS
  serial_few = omega arith

  passed_named : (shapes wanted : List (List Dim)) (line : ℕ) (actuals : List Actual) → ActualsFit p.objects shapes wanted actuals → Each (passed_code marks line actuals)
  passed_named shapes wanted line [] h = tt
  passed_named shapes [] line (a ∷ more) h = absurd h
  passed_named shapes (w ∷ wanted) line (Whole v ∷ more) h = (tt, passed_named shapes wanted line more h.1)
  passed_named shapes (w ∷ wanted) line (Copy at value ∷ more) h =
      joined (expr_code marks line value) _ (expr_named shapes 0 serial_few line value h.0.2) (set_named shapes 0 serial_few line at.site at.var h.0.1.0, (tt, passed_named shapes wanted line more h.1))

  leave_named : (line : ℕ) (other : List Step) → Each (leave_code marks line other)
  leave_named line [] = tt
  leave_named line (i ∷ is) = (tt, tt)

  stmt_named : (shapes : List (List Dim)) (ranks : ℕ → ℕ) (rank slots : ℕ) (t : Stmt) → slots ≤ SLOTS → StmtFits p ranks rank shapes slots t → SlotsRoom t → Each (stmt_code marks t)
  stmt_named shapes ranks rank slots Skip few f h = tt
  stmt_named shapes ranks rank slots (Seq x y) few f h = joined (stmt_code marks x) _ (stmt_named shapes ranks rank slots x few f.0 h.0) (stmt_named shapes ranks rank slots y few f.1 h.1)
  stmt_named shapes ranks rank slots (Assign line t value) few f h =
      joined (target_code marks line t) _ (located_named shapes slots few line t.at t.subs f.0) (joined (expr_code marks line value) _ (expr_named shapes slots few line value f.1) (store_named shapes slots few line t.at t.subs f.0, tt))
  stmt_named shapes ranks rank slots (If arms) few f h = stmt_named shapes ranks rank slots arms few f h
  stmt_named shapes ranks rank slots (Arm line cond body other) few f h =
      let co = stmt_code marks other in
      joined (expr_code marks line cond) _ (expr_named shapes slots few line cond f.0)
      (tt, joined (stmt_code marks body ++ leave_code marks line co) co (joined (stmt_code marks body) _ (stmt_named shapes ranks rank slots body few f.1 h.0) (leave_named line co)) (stmt_named shapes ranks rank slots other few f.2 h.1))
  stmt_named shapes ranks rank slots (Do k first body again bump) few f h =
      let is_again = subst (λ v. IsVar p.objects shapes slots v) (sym f.2) f.1.0 in
      let is_bump = subst (λ v. IsVar p.objects shapes slots v) (sym f.3) f.1.0 in
      joined (controls_code marks k) _ (controls_named shapes slots few k f.0) (
        tt,
        (
          set_named shapes slots few k.line first.site first.var f.1.0,
          (
            tt,
            joined (stmt_code marks body) _ (stmt_named shapes ranks rank slots body few f.4 h)
                (get_named shapes slots few k.line again.site again.var is_again, (tt, (set_named shapes slots few k.line bump.site bump.var is_bump, (tt, tt)))),
          ),
        ),
      )
  stmt_named shapes ranks rank slots (Doall k number own body) few f h =
      joined (controls_code marks k) _ (controls_named shapes 0 serial_few k f.1) (tt, joined (stmt_code marks body) _ (stmt_named shapes ranks rank own body h.0 f.4 h.1) (tt, tt))
  stmt_named shapes ranks rank slots (tree.Call line number u actuals) few f h = joined (passed_code marks line actuals) _ (passed_named shapes _ line actuals f.3) (tt, tt)
  stmt_named shapes ranks rank slots (Print line items) few f h = items_named shapes slots few line true items f
  stmt_named shapes ranks rank slots (Read line targets) few f h = reads_named shapes slots few line targets f

  units_named : (us : List ProgramUnit) (main number : ℕ) → ((k : ℕ) → k < length us → Each (stmt_code marks (body_in (slice_get us k)))) → Each (units_code marks main number us)
  units_named [] main number h = tt
  units_named (u ∷ us) main number h =
      joined (unit_code marks main number u.body) _ (joined (stmt_code marks u.body) _ (h 0 (omega arith)) (end_named (number == main), tt)) (units_named us main (number + 1) (λ k lt. h (suc k) (omega (arith, lt))))

pub named : CodeNames
named p marks r h =
    as_all p marks.reads _ (units_named p marks.reads p.units p.main 0 (λ u lt. stmt_named p marks.reads (shapes_in (slice_get p.units u)) r.ranks (r.ranks u) 0 (body_of p u) (serial_few p marks.reads) (r.fits u lt) (h.slots u)))
