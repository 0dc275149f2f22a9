-- The code of a program, form by form.
use Rattle.std.specs.Prelude.{◌≡◌, ℕ, ◌+◌, ◌==◌, if◌then◌else◌, ℤ, pos, negsuc, map, Bool, true, false, List, [], ◌∷◌, ◌++◌, length}
use Rattle.std.specs.List.{range_with_len}
use Rattle.cdc_prog.specs.declared.expr.Ref.{Ref}
use Rattle.cdc_prog.specs.declared.expr.Var.{Var}
use Rattle.cdc_prog.specs.declared.expr.Var.TheVariants as var
use Rattle.cdc_prog.specs.declared.expr.UnOp.{UnOp}
use Rattle.cdc_prog.specs.declared.expr.UnOp.TheVariants as un
use Rattle.cdc_prog.specs.declared.expr.BinOp.{BinOp}
use Rattle.cdc_prog.specs.declared.expr.BinOp.TheVariants as bin
use Rattle.cdc_prog.specs.declared.program.Mark.{Mark}
use Rattle.cdc_prog.specs.declared.program.Marks.{Marks}
use Rattle.cdc_prog.specs.Plain as tree
use Rattle.cdc_prog.specs.Plain.{Expr, Number, Scalar, Element, Un, Bin, Exprs, Empty, More, Target, Item, Value, Control, Stmt, Skip, Seq, Assign, If, Arm, Do, Doall, Print, Read, Actual, Whole, Copy, ProgramUnit, Program}
use Rattle.cdc_prog.specs.Numbered.{unit_call_numbers}
use Rattle.cdc_prog.specs.Marked.{mark_of}
use Rattle.cdc_code.specs.declared.instr.Instr.{Instr}
use Rattle.cdc_code.specs.declared.instr.Instr.TheVariants.{Const, Local, Setlocal, Index, Load, Loade, Store, Storee, Neg, Abs, Not, Add, Sub, Mul, Div, Mod, Min, Max, Eq, Ne, Lt, Le, Gt, Ge, And, Or, Jump, Jumpz, Doinit, Dotest, Doadd, Take, RecordEnd, Put, Gap, Text, Line, Arg, Call, Return, Fork, Join, Halt}
use Rattle.cdc_code.specs.declared.instr.Step.{Step}
use Rattle.cdc_code.specs.declared.code.Code.{Code}

abbrev pub at_line : (line : ℕ) → Instr → Step
at_line line i = record { instr = i; line = line }

abbrev pub unary_instr : UnOp → Instr
unary_instr un.Neg = Neg
unary_instr un.Abs = Abs
unary_instr un.Not = Not

abbrev pub binary_instr : BinOp → Instr
binary_instr bin.Add = Add
binary_instr bin.Sub = Sub
binary_instr bin.Mul = Mul
binary_instr bin.Div = Div
binary_instr bin.Mod = Mod
binary_instr bin.Min = Min
binary_instr bin.Max = Max
binary_instr bin.Eq = Eq
binary_instr bin.Ne = Ne
binary_instr bin.Lt = Lt
binary_instr bin.Le = Le
binary_instr bin.Gt = Gt
binary_instr bin.Ge = Ge
binary_instr bin.And = And
binary_instr bin.Or = Or

-- what stores the top of the stack in a scalar
abbrev pub set_instr : (site : ℕ) → Var → Instr
set_instr site (var.Slot k) = Setlocal k
set_instr site (var.Object k) = Store (var.Object k) site
set_instr site (var.Dummy k) = Store (var.Dummy k) site

-- what stores it in a scalar, or in an element whose number lies below it
abbrev pub store_instr : Ref → (subs : Exprs) → Instr
store_instr at Empty = set_instr at.site at.var
store_instr at (More e es) = Storee at.var at.site

-- `marks` has the mark of each site
module _ (marks : List Mark) where
  -- what pushes a scalar
  abbrev pub get_instr : (site : ℕ) → Var → Instr
  get_instr site (var.Slot k) = Local k
  get_instr site (var.Object k) = Load (var.Object k) site (mark_of marks site)
  get_instr site (var.Dummy k) = Load (var.Dummy k) site (mark_of marks site)

  -- ---- expressions
  abbrev mutual
    pub expr_code : (line : ℕ) → Expr → List Step
    expr_code line (Number n) = at_line line (Const n) ∷ []
    expr_code line (Scalar at) = at_line line (get_instr at.site at.var) ∷ []
    expr_code line (Element at subs) = exprs_code line subs ++ (at_line line (Index at.var) ∷ at_line line (Loade at.var at.site (mark_of marks at.site)) ∷ [])
    expr_code line (Un op e) = expr_code line e ++ (at_line line (unary_instr op) ∷ [])
    expr_code line (Bin op e f) = expr_code line e ++ (expr_code line f ++ (at_line line (binary_instr op) ∷ []))

    pub exprs_code : (line : ℕ) → Exprs → List Step
    exprs_code line Empty = []
    exprs_code line (More e es) = expr_code line e ++ exprs_code line es

  -- what leaves the number of an element on the stack, for an array
  abbrev pub located_code : (line : ℕ) → Ref → (subs : Exprs) → List Step
  located_code line at Empty = []
  located_code line at (More e es) = exprs_code line (More e es) ++ (at_line line (Index at.var) ∷ [])

  abbrev pub target_code : (line : ℕ) → Target → List Step
  target_code line t = located_code line t.at t.subs

  abbrev pub target_store : (line : ℕ) → Target → Step
  target_store line t = at_line line (store_instr t.at t.subs)

  -- ---- statements
  abbrev pub assign_code : (line : ℕ) → Target → (value : Expr) → List Step
  assign_code line t value = target_code line t ++ (expr_code line value ++ (target_store line t ∷ []))

  -- a jump past further statements, where there are any
  abbrev pub leave_code : (line : ℕ) → (other : List Step) → List Step
  leave_code line [] = []
  leave_code line (i ∷ is) = at_line line (Jump (pos (length (i ∷ is) + 1))) ∷ []

  -- what follows the condition of an arm: a jump past the arm, the arm, and the statements after it
  abbrev pub guarded_code : (line : ℕ) → (arm other : List Step) → List Step
  guarded_code line arm other = at_line line (Jumpz (pos (length arm + 1))) ∷ (arm ++ other)

  abbrev pub condition_code : (line : ℕ) → (cond : Expr) → (body other : List Step) → List Step
  condition_code line cond body other = expr_code line cond ++ guarded_code line (body ++ leave_code line other) other

  abbrev pub controls_code : Control → List Step
  controls_code k = expr_code k.line k.from ++ (expr_code k.line k.to ++ expr_code k.line k.by)

  -- what raises the variable of a loop after a turn, and goes back to the test
  abbrev pub raise_code : (line : ℕ) → (again bump : Ref) → (back : ℤ) → List Step
  raise_code line again bump back =
      at_line line (get_instr again.site again.var) ∷ at_line line Doadd ∷ at_line line (set_instr bump.site bump.var) ∷ at_line line (Jump back) ∷ []

  abbrev pub turns_code : (line : ℕ) → (again bump : Ref) → (body : List Step) → List Step
  turns_code line again bump body =
      at_line line (Dotest (pos (length body + 5))) ∷ (body ++ raise_code line again bump (negsuc (length body + 3)))

  abbrev pub do_code : Control → (first again bump : Ref) → (body : List Step) → List Step
  do_code k first again bump body =
      controls_code k ++ (at_line k.line Doinit ∷ at_line k.line (set_instr first.site first.var) ∷ turns_code k.line again bump body)

  abbrev pub doall_code : Control → (number : ℕ) → (body : List Step) → List Step
  doall_code k number body =
      controls_code k ++ (at_line k.line (Fork number (pos (length body + 2))) ∷ (body ++ (at_line k.line Join ∷ [])))

  abbrev pub with_gap : (first : Bool) → (line : ℕ) → List Step → List Step
  with_gap true line is = is
  with_gap false line is = at_line line Gap ∷ is

  abbrev pub items_code : (line : ℕ) → (first : Bool) → List Item → List Step
  items_code line first [] = at_line line Line ∷ []
  items_code line first (tree.Text number ∷ more) = with_gap first line (at_line line (Text number) ∷ items_code line false more)
  items_code line first (Value value ∷ more) = expr_code line value ++ with_gap first line (at_line line Put ∷ items_code line false more)

  abbrev pub reads_code : (line : ℕ) → List Target → List Step
  reads_code line [] = at_line line RecordEnd ∷ []
  reads_code line (t ∷ ts) = target_code line t ++ (at_line line Take ∷ target_store line t ∷ reads_code line ts)

  abbrev pub passed_code : (line : ℕ) → List Actual → List Step
  passed_code line [] = []
  passed_code line (Whole v ∷ more) = at_line line (Arg v) ∷ passed_code line more
  passed_code line (Copy at value ∷ more) = expr_code line value ++ (at_line line (set_instr at.site at.var) ∷ at_line line (Arg at.var) ∷ passed_code line more)

  abbrev pub stmt_code : Stmt → List Step
  stmt_code Skip = []
  stmt_code (Seq x y) = stmt_code x ++ stmt_code y
  stmt_code (Assign line t value) = assign_code line t value
  stmt_code (If arms) = stmt_code arms
  stmt_code (Arm line cond body other) = condition_code line cond (stmt_code body) (stmt_code other)
  stmt_code (Do k first body again bump) = do_code k first again bump (stmt_code body)
  stmt_code (Doall k number slots body) = doall_code k number (stmt_code body)
  stmt_code (tree.Call line number unit actuals) = passed_code line actuals ++ (at_line line (Call unit) ∷ [])
  stmt_code (Print line items) = items_code line true items
  stmt_code (Read line targets) = reads_code line targets

  -- ---- units
  abbrev pub end_instr : (is_main : Bool) → Instr
  end_instr is_main = if is_main then Halt else Return

  -- the unit of this number, where `main` is that of the main program
  abbrev pub unit_code : (main number : ℕ) → Stmt → List Step
  unit_code main number body = stmt_code body ++ (at_line 0 (end_instr (number == main)) ∷ [])

  -- units in order, from a number on
  abbrev pub units_code : (main number : ℕ) → List ProgramUnit → List Step
  units_code main number [] = []
  units_code main number (u ∷ us) = unit_code main number u.body ++ units_code main (number + 1) us

  -- where each of them begins, if the first begins at a place
  abbrev pub unit_starts : (main number : ℕ) → List ProgramUnit → (place : ℕ) → List ℕ
  unit_starts main number [] place = []
  unit_starts main number (u ∷ us) place = place ∷ unit_starts main (number + 1) us (place + length (unit_code main number u.body))

-- the code of a program with these marks
abbrev pub code_of : Program → Marks → Code
code_of p marks = record {
  steps = units_code marks.reads p.main 0 p.units;
  starts = unit_starts marks.reads p.main 0 p.units 0;
  main = p.main;
  shapes = map (λ u. map (λ d. d.dims) u.dummies) p.units;
  objects = p.objects;
  texts = p.texts;
  entries = marks.entries;
  exits = marks.exits;
  words = p.words;
}

-- the CALLs of a program have the numbers 1, 2 and so on, in the order of the text
abbrev pub HasCallNumbers : Program → Type 0
HasCallNumbers p = unit_call_numbers p.units ≡ range_with_len 1 (length (unit_call_numbers p.units))
