-- Numbers of CALLs, by the call instructions of the code.
use Rattle.std.proofs.Common.{◌≡◌, ℕ, zero, suc, ◌+◌, ◌<◌, ◌==◌, ℤ, negsuc, Bool, true, false, List, [], ◌∷◌, ◌++◌, length, get_or, Some, refl, sym, ap, ap₂, ◌∙◌, subst, arith, length-append}
use Rattle.std.specs.Prelude.{slice_get}
use Rattle.std.specs.List.{range_with_len}
use Rattle.std.proofs.lemmas.List.Sums.{count_by_more_no, count_by_more_yes}
use Rattle.std.proofs.lemmas.Option.{get_or_from_slice_get, slice_get_within}
use Rattle.cdc_prog.specs.declared.expr.Ref.{Ref}
use Rattle.cdc_prog.specs.declared.expr.Var.{Var}
use Rattle.cdc_prog.specs.declared.expr.Var.TheVariants as var
use Rattle.cdc_prog.specs.declared.expr.UnOp.{UnOp}
use Rattle.cdc_prog.specs.declared.expr.UnOp.TheVariants as un
use Rattle.cdc_prog.specs.declared.expr.BinOp.{BinOp}
use Rattle.cdc_prog.specs.declared.expr.BinOp.TheVariants as bin
use Rattle.cdc_prog.specs.declared.program.Mark.{Mark}
use Rattle.cdc_prog.specs.Plain as tree
use Rattle.cdc_prog.specs.Plain.{Expr, Number, Scalar, Element, Un, Bin, Exprs, Empty, More, Item, Text, Value, Target, Control, Stmt, Skip, Seq, Assign, If, Arm, Do, Doall, Print, Read, Actual, Whole, Copy, ProgramUnit}
use Rattle.cdc_prog.specs.Numbered.{call_numbers, unit_call_numbers}
use Rattle.cdc_prog.specs.Units.{body_in}
use Rattle.cdc_code.specs.declared.instr.Instr.TheVariants.{Jump, Doadd, Arg}
use Rattle.cdc_code.specs.declared.instr.Step.{Step}
use Rattle.cdc_code.specs.declared.code.Code.{Code}
use Rattle.cdc_code.specs.Rows.{is_call, call_number}
use Rattle.cdc_code.specs.Template.{at_line, unary_instr, binary_instr, set_instr, store_instr, get_instr, expr_code, exprs_code, located_code, target_code, leave_code, controls_code, raise_code, turns_code, items_code, reads_code, passed_code, stmt_code, end_instr, unit_code, units_code, unit_starts}
use Rattle.cdc_code.proofs.Placed.{HasAt, has_front, has_back}

-- ---- calls among instructions
abbrev pub adds : Bool → ℕ → ℕ
adds true n = suc n
adds false n = n

-- how many call instructions there are
abbrev pub calls_among : List Step → ℕ
calls_among [] = 0
calls_among (i ∷ is) = adds (is_call i) (calls_among is)

adds-+ : (b : Bool) (m n : ℕ) → adds b (m + n) ≡ adds b m + n
adds-+ true m n = omega arith
adds-+ false m n = refl

pub among-append : (a b : List Step) → calls_among (a ++ b) ≡ calls_among a + calls_among b
among-append [] b = omega arith
among-append (i ∷ a) b = ap (adds (is_call i)) (among-append a b) ∙ adds-+ (is_call i) (calls_among a) (calls_among b)

-- past an instruction there is a call more where it is one
pub past_one : (code : Code) (pc : ℕ) (i : Step) (b : Bool) → slice_get code.steps pc ≡ Some i → is_call i ≡ b → call_number code (pc + 1) ≡ adds b (call_number code pc)
past_one code pc i true h e =
    let lt = slice_get_within code.steps pc i h in
    let at : is_call (get_or code.steps pc i) ≡ true = ap is_call (get_or_from_slice_get code.steps pc i i h) ∙ e in
    ap suc (count_by_more_yes is_call code.steps pc i lt at ∙ omega arith)
past_one code pc i false h e =
    let lt = slice_get_within code.steps pc i h in
    let at : is_call (get_or code.steps pc i) ≡ false = ap is_call (get_or_from_slice_get code.steps pc i i h) ∙ e in
    ap suc (count_by_more_no is_call code.steps pc i lt at)

-- the number of a CALL past some instructions
pub number_past : (code : Code) (pc : ℕ) (is : List Step) → HasAt code.steps pc is → call_number code (pc + length is) ≡ call_number code pc + calls_among is
number_past code pc [] h = let e : pc + 0 ≡ pc = omega arith in ap (call_number code) e ∙ omega arith
number_past code pc (i ∷ is) h =
    let place : pc + length (i ∷ is) ≡ pc + 1 + length is = omega arith in
    let n = call_number code pc in
    ap (call_number code) place ∙ (number_past code (pc + 1) is h.1 ∙ (ap (λ m. m + calls_among is) (past_one code pc i (is_call i) h.0 refl) ∙ moved_in (is_call i) n (calls_among is)))
  where
    moved_in : (b : Bool) (n m : ℕ) → adds b n + m ≡ n + adds b m
    moved_in true n m = omega arith
    moved_in false n m = refl

pub set_is_none : (line site : ℕ) (v : Var) → is_call (at_line line (set_instr site v)) ≡ false
set_is_none line site (var.Slot k) = refl
set_is_none line site (var.Object k) = refl
set_is_none line site (var.Dummy k) = refl

-- ---- calls among the code of statements
module _ (marks : List Mark) where
  get_none : (line site : ℕ) (v : Var) (is : List Step) → calls_among (at_line line (get_instr marks site v) ∷ is) ≡ calls_among is
  get_none line site (var.Slot k) is = refl
  get_none line site (var.Object k) is = refl
  get_none line site (var.Dummy k) is = refl

  pub set_none : (line site : ℕ) (v : Var) (is : List Step) → calls_among (at_line line (set_instr site v) ∷ is) ≡ calls_among is
  set_none line site (var.Slot k) is = refl
  set_none line site (var.Object k) is = refl
  set_none line site (var.Dummy k) is = refl

  store_none : (line : ℕ) (at : Ref) (subs : Exprs) (is : List Step) → calls_among (at_line line (store_instr at subs) ∷ is) ≡ calls_among is
  store_none line at Empty is = set_none line at.site at.var is
  store_none line at (More e es) is = refl

  unary_none : (line : ℕ) (op : UnOp) → calls_among (at_line line (unary_instr op) ∷ []) ≡ 0
  unary_none line un.Neg = refl
  unary_none line un.Abs = refl
  unary_none line un.Not = refl

  binary_none : (line : ℕ) (op : BinOp) → calls_among (at_line line (binary_instr op) ∷ []) ≡ 0
  binary_none line bin.Add = refl
  binary_none line bin.Sub = refl
  binary_none line bin.Mul = refl
  binary_none line bin.Div = refl
  binary_none line bin.Mod = refl
  binary_none line bin.Min = refl
  binary_none line bin.Max = refl
  binary_none line bin.Eq = refl
  binary_none line bin.Ne = refl
  binary_none line bin.Lt = refl
  binary_none line bin.Le = refl
  binary_none line bin.Gt = refl
  binary_none line bin.Ge = refl
  binary_none line bin.And = refl
  binary_none line bin.Or = refl

  -- an expression has no call
  mutual
    pub expr_none : (line : ℕ) (e : Expr) → calls_among (expr_code marks line e) ≡ 0
    expr_none line (Number n) = refl
    expr_none line (Scalar at) = get_none line at.site at.var []
    expr_none line (Element at subs) = among-append (exprs_code marks line subs) _ ∙ ap (λ n. n + 0) (exprs_none line subs)
    expr_none line (Un op e) = among-append (expr_code marks line e) _ ∙ ap₂ (λ (m n : ℕ). m + n) (expr_none line e) (unary_none line op)
    expr_none line (Bin op e f) =
        among-append (expr_code marks line e) _ ∙ ap₂ (λ (m n : ℕ). m + n) (expr_none line e) (among-append (expr_code marks line f) _ ∙ ap₂ (λ (m n : ℕ). m + n) (expr_none line f) (binary_none line op))

    pub exprs_none : (line : ℕ) (es : Exprs) → calls_among (exprs_code marks line es) ≡ 0
    exprs_none line Empty = refl
    exprs_none line (More e es) = among-append (expr_code marks line e) _ ∙ ap₂ (λ (m n : ℕ). m + n) (expr_none line e) (exprs_none line es)

  -- an expression before other code
  before : (line : ℕ) (e : Expr) (is : List Step) → calls_among (expr_code marks line e ++ is) ≡ calls_among is
  before line e is = among-append (expr_code marks line e) is ∙ (ap (λ n. n + calls_among is) (expr_none line e) ∙ omega arith)

  target_before : (line : ℕ) (t : Target) (is : List Step) → calls_among (target_code marks line t ++ is) ≡ calls_among is
  target_before line t is = among-append (target_code marks line t) is ∙ (ap (λ n. n + calls_among is) (none t.subs) ∙ omega arith)
    where
      none : (subs : Exprs) → calls_among (located_code marks line t.at subs) ≡ 0
      none Empty = refl
      none (More e es) = among-append (exprs_code marks line (More e es)) _ ∙ ap (λ n. n + 0) (exprs_none line (More e es))

  pub controls_none : (k : Control) → calls_among (controls_code marks k) ≡ 0
  controls_none k = before k.line k.from _ ∙ (before k.line k.to _ ∙ expr_none k.line k.by)

  controls_before : (k : Control) (is : List Step) → calls_among (controls_code marks k ++ is) ≡ calls_among is
  controls_before k is = among-append (controls_code marks k) is ∙ (ap (λ n. n + calls_among is) (controls_none k) ∙ omega arith)

  pub leave_none : (line : ℕ) (other : List Step) → calls_among (leave_code marks line other) ≡ 0
  leave_none line [] = refl
  leave_none line (i ∷ is) = refl

  items_none : (line : ℕ) (first : Bool) (items : List Item) → calls_among (items_code marks line first items) ≡ 0
  items_none line first [] = refl
  items_none line true (Text number ∷ more) = items_none line false more
  items_none line false (Text number ∷ more) = items_none line false more
  items_none line true (Value value ∷ more) = before line value _ ∙ items_none line false more
  items_none line false (Value value ∷ more) = before line value _ ∙ items_none line false more

  reads_none : (line : ℕ) (targets : List Target) → calls_among (reads_code marks line targets) ≡ 0
  reads_none line [] = refl
  reads_none line (t ∷ ts) = target_before line t _ ∙ (store_none line t.at t.subs (reads_code marks line ts) ∙ reads_none line ts)

  pub passed_none : (line : ℕ) (actuals : List Actual) → calls_among (passed_code marks line actuals) ≡ 0
  passed_none line [] = refl
  passed_none line (Whole v ∷ more) = passed_none line more
  passed_none line (Copy at value ∷ more) = before line value _ ∙ (set_none line at.site at.var (at_line line (Arg at.var) ∷ passed_code marks line more) ∙ passed_none line more)

  raise_none : (line : ℕ) (again bump : Ref) (back : ℤ) → calls_among (raise_code marks line again bump back) ≡ 0
  raise_none line again bump back =
      get_none line again.site again.var (at_line line Doadd ∷ at_line line (set_instr bump.site bump.var) ∷ at_line line (Jump back) ∷ []) ∙ set_none line bump.site bump.var (at_line line (Jump back) ∷ [])

  -- each CALL has one call instruction
  pub stmt_calls : (t : Stmt) → calls_among (stmt_code marks t) ≡ length (call_numbers t)
  stmt_calls Skip = refl
  stmt_calls (Seq x y) =
      among-append (stmt_code marks x) (stmt_code marks y) ∙ (ap₂ (λ (m n : ℕ). m + n) (stmt_calls x) (stmt_calls y) ∙ sym (length-append (call_numbers x) (call_numbers y)))
  stmt_calls (Assign line t value) = target_before line t _ ∙ (before line value _ ∙ store_none line t.at t.subs [])
  stmt_calls (If arms) = stmt_calls arms
  stmt_calls (Arm line cond body other) =
      let cb = stmt_code marks body in
      let co = stmt_code marks other in
      let leave = leave_code marks line co in
      before line cond _ ∙ (among-append (cb ++ leave) co ∙ (ap (λ n. n + calls_among co) (among-append cb leave)
      ∙ omega (arith, stmt_calls body, stmt_calls other, leave_none line co, length-append (call_numbers body) (call_numbers other))))
  stmt_calls (Do k first body again bump) =
      let cb = stmt_code marks body in
      let back = negsuc (length cb + 3) in
      let tail = raise_code marks k.line again bump back in
      controls_before k _ ∙ (set_none k.line first.site first.var (turns_code marks k.line again bump cb) ∙ (among-append cb tail ∙ omega (arith, stmt_calls body, raise_none k.line again bump back)))
  stmt_calls (Doall k number slots body) =
      controls_before k _ ∙ (among-append (stmt_code marks body) _ ∙ omega (arith, stmt_calls body))
  stmt_calls (tree.Call line number unit actuals) = among-append (passed_code marks line actuals) _ ∙ ap (λ n. n + 1) (passed_none line actuals)
  stmt_calls (Print line items) = items_none line true items
  stmt_calls (Read line targets) = reads_none line targets

-- ---- numbers in order
-- numbers from n on, in order
abbrev pub InOrder : (n : ℕ) → List ℕ → Type 0
InOrder n numbers = numbers ≡ range_with_len n (length numbers)

pub order_front : (a b : List ℕ) (n : ℕ) → InOrder n (a ++ b) → InOrder n a
order_front [] b n h = refl
order_front (x ∷ a) b n h =
    let here : x ≡ n = cc in
    let rest : InOrder (n + 1) (a ++ b) = cc in
    ap₂ (λ (y : ℕ) (ys : List ℕ). y ∷ ys) here (order_front a b (n + 1) rest)

pub order_back : (a b : List ℕ) (n : ℕ) → InOrder n (a ++ b) → InOrder (n + length a) b
order_back [] b n h = let e : n ≡ n + 0 = omega arith in subst (λ m. InOrder m b) e h
order_back (x ∷ a) b n h =
    let rest : InOrder (n + 1) (a ++ b) = cc in
    let e : n + 1 + length a ≡ n + length (x ∷ a) = omega arith in
    subst (λ m. InOrder m b) e (order_back a b (n + 1) rest)

-- ---- units
unit_end : (marks : List Mark) (main number : ℕ) (b : Bool) → calls_among (at_line 0 (end_instr marks b) ∷ []) ≡ 0
unit_end marks main number true = refl
unit_end marks main number false = refl

-- a unit stands where it begins, and its CALLs have the numbers of their instructions
pub record Begins (code : Code) (marks : List Mark) (main number : ℕ) (body : Stmt) (pc : ℕ) : Type 0 where
  pub has : HasAt code.steps pc (unit_code marks main number body)
  pub numbers : InOrder (call_number code pc) (call_numbers body)

pub unit_begins : (code : Code) (marks : List Mark) (main : ℕ) (us : List ProgramUnit) (number k pc : ℕ) → HasAt code.steps pc (units_code marks main number us) → InOrder (call_number code pc) (unit_call_numbers us) → k < length us → Begins code marks main (number + k) (body_in (slice_get us k)) (get_or (unit_starts marks main number us pc) k 0)
unit_begins code marks main [] number k pc h o lt = absurd (omega (arith, lt))
unit_begins code marks main (u ∷ us) number zero pc h o lt =
    let e : number ≡ number + 0 = omega arith in
    subst (λ n. Begins code marks main n u.body pc) e (record {
      has = has_front code.steps pc (unit_code marks main number u.body) (units_code marks main (number + 1) us) h;
      numbers = order_front (call_numbers u.body) (unit_call_numbers us) (call_number code pc) o;
    })
unit_begins code marks main (u ∷ us) number (suc k) pc h o lt =
    let mine = unit_code marks main number u.body in
    let here = has_front code.steps pc mine (units_code marks main (number + 1) us) h in
    let many : calls_among mine ≡ length (call_numbers u.body) =
    among-append (stmt_code marks u.body) _ ∙ omega (arith, stmt_calls marks u.body, unit_end marks main number (number == main)) in
    let next : call_number code pc + length (call_numbers u.body) ≡ call_number code (pc + length mine) = ap (λ n. call_number code pc + n) (sym many) ∙ sym (number_past code pc mine here) in
    let e : number + 1 + k ≡ number + suc k = omega arith in
    let rest = unit_begins code marks main us (number + 1) k (pc + length mine) (has_back code.steps pc mine (units_code marks main (number + 1) us) h)
    (subst (λ n. InOrder n (unit_call_numbers us)) next (order_back (call_numbers u.body) (unit_call_numbers us) (call_number code pc) o)) (omega (arith, lt)) in
    subst (λ n. Begins code marks main n (body_in (slice_get us k)) (get_or (unit_starts marks main (number + 1) us (pc + length mine)) k 0)) e rest
