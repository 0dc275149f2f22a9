-- Code does what its trees do.
use Rattle.std.proofs.Common.{◌≡◌, ◌≢◌, ℕ, zero, suc, ◌+◌, ◌-◌, ◌<◌, ◌≤◌, if◌then◌else◌, Bool, true, false, ℤ, pos, negsuc, List, [], ◌∷◌, ◌++◌, length, get_or, Some, Ok, Err, refl, sym, ap, ap₂, ◌∙◌, subst, arith, length-append}
use Rattle.std.specs.Prelude.{slice_get}
use Rattle.std.specs.List.{All}
use Rattle.std.proofs.lemmas.List.Elements.{All-head, All-tail}
use Rattle.cdc_prog.specs.declared.expr.Ref.{Ref}
use Rattle.cdc_prog.specs.declared.expr.Var.{Var}
use Rattle.cdc_prog.specs.declared.expr.Var.TheVariants as var
use Rattle.cdc_prog.specs.declared.expr.BinOp.TheVariants as bin
use Rattle.cdc_prog.specs.declared.program.Dim.{Dim}
use Rattle.cdc_prog.specs.declared.program.Object.{Object}
use Rattle.cdc_prog.specs.declared.program.Mark.{Mark}
use Rattle.cdc_prog.specs.Plain as tree
use Rattle.cdc_prog.specs.Plain.{Expr, Number, Scalar, Element, Un, Bin, Exprs, Empty, More, Target, Item, Value, Control, Stmt, Skip, Seq, Assign, If, Arm, Do, Doall, Actual, Whole, Copy, Call, Print, Read, Program}
use Rattle.cdc_prog.specs.Value.{Got, unary, binary, is_zero, trips, few}
use Rattle.cdc_prog.specs.Data.{Binding, put, base_of, dims_of, element, object_of}
use Rattle.cdc_prog.specs.declared.piece.Piece.TheVariants as piece
use Rattle.cdc_prog.specs.Process as process
use Rattle.cdc_prog.specs.Process.{Process, Save, Say, Tick, Fail, or_fail}
use Rattle.cdc_prog.specs.Marked.{mark_of}
use Rattle.cdc_prog.specs.Input.{Input, take, end_record}
use Rattle.cdc_prog.specs.Numbered.{call_numbers}
use Rattle.cdc_prog.specs.Expressions.{Surroundings, Cell, InWord, scalar_of, scalar, fetch, keep, expr, exprs, located}
use Rattle.cdc_prog.specs.Statements.{Work, Calls, branch, controls, raise, turns, beginning, gap, items, reads, passed, stmt}
use Rattle.cdc_prog.specs.Units.{shapes_in, body_of, binding_of, unit}
use Rattle.cdc_prog.specs.Resolved.{ExprFits, SubsFit, SpotFits, TargetFits, ControlFits, ItemFits, ActualsFit, StmtFits, IsResolved}
use Rattle.cdc_code.specs.declared.instr.Instr.{Instr}
use Rattle.cdc_code.specs.declared.instr.Instr.TheVariants as instr
use Rattle.cdc_code.specs.declared.instr.Instr.TheVariants.{Arg, Return, Index, Loade, Jump, Doinit, Take, Put, Text, Fork, Join, Halt}
use Rattle.cdc_code.specs.declared.instr.Step.{Step}
use Rattle.cdc_code.specs.declared.code.Code.{Code}
use Rattle.cdc_code.specs.Act.{Goes, Forks, or_fault}
use Rattle.cdc_code.specs.Frames.{Loop, Caller, Kept, Frame, stands, with_args, caller_at, calling}
use Rattle.cdc_code.specs.Rows.{binding_at, is_call, call_number, act_at, act_of, act}
use Rattle.cdc_code.specs.Template.{at_line, unary_instr, binary_instr, set_instr, store_instr, get_instr, expr_code, exprs_code, located_code, target_code, target_store, assign_code, leave_code, guarded_code, controls_code, raise_code, turns_code, with_gap, items_code, reads_code, passed_code, stmt_code}
use Rattle.cdc_code.specs.Room.{ExprRoom, ExprsRoom, ValueRoom, ControlRoom, ItemRoom, ActualsRoom, StmtRoom}
use Rattle.cdc_code.specs.Does.{here, after, Reach, Does}
use Rattle.cdc_code.proofs.Placed.{HasAt, has_front, has_back}
use Rattle.cdc_code.proofs.Rows.{onto, ordered, pops_all, unary_row, binary_row}
use Rattle.cdc_code.proofs.CallNumbers.{calls_among, among-append, past_one, number_past, set_is_none, expr_none, leave_none, controls_none, passed_none, stmt_calls, InOrder, order_front, order_back}

-- the code has the objects of the program, and the dimensions of its dummies
pub record Holds (p : Program) (code : Code) : Type 0 where
  pub objects : code.objects ≡ p.objects
  pub shapes : (u : ℕ) → get_or code.shapes u [] ≡ shapes_in (slice_get p.units u)

-- where statements of one unit stand: the open loops and the callers
pub record Within : Type 0 where
  pub loops : List Loop
  pub callers : List Caller

abbrev pub outermost : Within
outermost = record { loops = []; callers = [] }

abbrev pub nested : Loop → Within → Within
nested loop l = record { loops = loop ∷ l.loops; callers = l.callers }

-- how much room a task has: what may lie on the stack, be open and be gathered, and where statements of a unit of some rank may stand, some DO loops of which are open
pub record Rooms : Type 1 where
  pub stack : ℕ → Type 0
  pub loops : ℕ → Type 0
  pub args : ℕ → Type 0
  pub Fits : Frame → Type 0
  pub Inside : (rank opened : ℕ) → Within → Type 0
  pub two : stack 2
  pub lower : (k : ℕ) → stack (suc k) → stack k
  pub no_args : args 0
  pub fits : (rank opened pc : ℕ) (s : List ℤ) (l : Within) (held path : List ℕ) (u : ℕ) (bound : List ℕ) (c : Surroundings) → stack (length s) → args (length held) → Inside rank opened l →
      Fits (stands pc s (record { loops = l.loops; args = held; path = path; unit = u; bound = bound; callers = l.callers }) c)
  pub inner : (rank opened : ℕ) (loop : Loop) (l : Within) → loops (suc opened) → Inside rank opened l → Inside rank (suc opened) (nested loop l)
  pub called : (rank opened below : ℕ) (k : Caller) (l : Within) → below < rank → Inside rank opened l → Inside below 0 (record { loops = l.loops; callers = k ∷ l.callers })
  pub forked : (rank opened : ℕ) (l : Within) → Inside rank opened l → Inside rank opened outermost

module _ (p : Program) (code : Code) (marks : List Mark) (holds : Holds p code) (room : Rooms) where
  -- the heights of the stack
  single : room.stack 1
  single = room.lower 1 room.two

  pub bare : room.stack 0
  bare = room.lower 0 single

  -- a task that keeps this has room for a stack of an allowed height
  abbrev pub KeptFits : Kept → Type 0
  KeptFits l = (pc : ℕ) (s : List ℤ) (c : Surroundings) → room.stack (length s) → room.Fits (stands pc s l c)

  abbrev HasE : ℕ → Expr → Type 0
  HasE = ExprRoom room.stack room.loops room.args

  abbrev HasEs : ℕ → Exprs → Type 0
  HasEs = ExprsRoom room.stack room.loops room.args

  -- an expression has room for its value
  above : (e : Expr) (k : ℕ) → HasE k e → room.stack (suc k)
  above (Number n) k h = h
  above (Scalar at) k h = h
  above (Element at subs) k h = h.1
  above (Un op e) k h = above e k h
  above (Bin op e f) k h = above e k h.0

  under : (e : Expr) (k : ℕ) → HasE k e → room.stack k
  under e k h = room.lower k (above e k h)

  abbrev shapes : Kept → List (List Dim)
  shapes l = shapes_in (slice_get p.units l.unit)

  abbrev bind : Kept → Binding
  bind l = binding_of p l.path l.unit l.bound

  abbrev Done : ℕ → Process → Frame → Type 0
  Done n q f = Does code marks room.Fits n q f

  -- at once
  pub now : {P : ℕ → Frame → Type 0} {price : ℕ} (m n : ℕ) (f : Frame) → m + price ≤ n → room.Fits f → P m f → Reach code marks room.Fits price n f P
  now m n f le ok q = record { steps = 0; left = m; within = omega (arith, le); place = f; comes = here f ok; does = q }

  reach_more : {P : ℕ → Frame → Type 0} {price : ℕ} (m n : ℕ) (f : Frame) → m ≤ n → Reach code marks room.Fits price m f P → Reach code marks room.Fits price n f P
  reach_more m n f le r = record { steps = r.steps; left = r.left; within = omega (arith, le, r.within); place = r.place; comes = r.comes; does = r.does }

  reach_after : {P : ℕ → Frame → Type 0} {price : ℕ} (m n : ℕ) (f g : Frame) → m + 1 ≤ n → room.Fits f → act code f ≡ Goes g → Reach code marks room.Fits price m g P → Reach code marks room.Fits price n f P
  reach_after m n f g le ok q r = record { steps = suc r.steps; left = r.left; within = omega (arith, le, r.within); place = r.place; comes = after r.steps f g r.place ok q r.comes; does = r.does }

  -- a larger budget
  more : (q : Process) (m n : ℕ) (f : Frame) → m ≤ n → Done m q f → Done n q f
  more (Tick next) m n f le d = more next (m + 8) (n + 8) f (omega (arith, le)) d
  more (process.Load path site w next) m n f le d = reach_more m n f le d
  more (Save path site w v next) m n f le d = reach_more m n f le d
  more (Say piece next) m n f le d = reach_more m n f le d
  more (process.Fork path number count from by body next) m n f le d = reach_more m n f le d
  more process.Join m n f le d = reach_more m n f le d
  more process.Halt m n f le d = reach_more m n f le d
  more (Fail kind line) m n f le d = reach_more m n f le d

  -- one instruction that touches only the frame
  goes : (q : Process) (m n : ℕ) (f g : Frame) → m + 1 ≤ n → room.Fits f → act code f ≡ Goes g → Done m q g → Done n q f
  goes (Tick next) m n f g le ok a d = goes next (m + 8) (n + 8) f g (omega (arith, le)) ok a d
  goes (process.Load path site w next) m n f g le ok a d = reach_after m n f g le ok a d
  goes (Save path site w v next) m n f g le ok a d = reach_after m n f g le ok a d
  goes (Say piece next) m n f g le ok a d = reach_after m n f g le ok a d
  goes (process.Fork path number count from by body next) m n f g le ok a d = reach_after m n f g le ok a d
  goes process.Join m n f g le ok a d = reach_after m n f g le ok a d
  goes process.Halt m n f g le ok a d = reach_after m n f g le ok a d
  goes (Fail kind line) m n f g le ok a d = reach_after m n f g le ok a d

  -- one that goes on or faults
  goes_or_fails : {A : Type 0} (line : ℕ) (got : Got A) (rest : A → Process) (m n : ℕ) (f : Frame) (g : A → Frame) → m + 1 ≤ n → 2 ≤ n → room.Fits f → act code f ≡ or_fault line got (λ a. Goes (g a)) → ((a : A) → Done m (rest a) (g a)) → Done n (or_fail line got rest) f
  goes_or_fails line (Ok a) rest m n f g le two ok q d = goes (rest a) m n f (g a) le ok q (d a)
  goes_or_fails line (Err kind) rest m n f g le two ok q d = now 0 n f two ok q

  -- what is done at a place is done at an equal one
  at_place : (q : Process) (n pc pc1 : ℕ) (s : List ℤ) (l : Kept) (c : Surroundings) → pc ≡ pc1 → Done n q (stands pc1 s l c) → Done n q (stands pc s l c)
  at_place q n pc pc1 s l c e d = subst (λ k. Done n q (stands k s l c)) (sym e) d

  same_binding : (l : Kept) → binding_at code l ≡ bind l
  same_binding l =
      ap₂ (λ (os : List Object) (shapes : List (List Dim)). let b : Binding = record { path = l.path; objects = os; shapes = shapes; bound = l.bound } in b) holds.objects (holds.shapes l.unit)

  pub at : (pc : ℕ) (s : List ℤ) (l : Kept) (c : Surroundings) (i : Step) → slice_get code.steps pc ≡ Some i → act code (stands pc s l c) ≡ act_at code (bind l) i.instr i.line pc s l c
  at pc s l c i h = ap (λ o. act_of code o (stands pc s l c)) h ∙ ap (λ b. act_at code b i.instr i.line pc s l c) (same_binding l)

  fetch_does : (v : Var) (site line : ℕ) (c : Surroundings) (rest : ℤ → Process) (m n pc : ℕ) (s : List ℤ) (l : Kept) → m + 1 ≤ n → room.Fits (stands pc s l c) → slice_get code.steps pc ≡ Some (at_line line (get_instr marks site v)) → ((x : ℤ) → Done m (rest x) (stands (pc + 1) (x ∷ s) l c)) → Done n (fetch (scalar_of (bind l) site v) c rest) (stands pc s l c)
  fetch_does (var.Slot k) site line c rest m n pc s l le ok h go = goes (rest (c.slots k)) m n _ _ le ok (at pc s l c _ h) (go (c.slots k))
  fetch_does (var.Object k) site line c rest m n pc s l le ok h go = now m n _ le ok (_, at pc s l c _ h, go)
  fetch_does (var.Dummy k) site line c rest m n pc s l le ok h go = now m n _ le ok (_, at pc s l c _ h, go)

  subs_fit : (l : Kept) (at : Ref) (subs : Exprs) (slots : ℕ) → ExprFits p.objects (shapes l) slots (Element at subs) → SubsFit p.objects (shapes l) slots (dims_of (bind l) at.var) subs
  subs_fit l at Empty slots h = absurd h
  subs_fit l at (More e es) slots h = h.1

  index_row : (v : Var) (line k : ℕ) (vs s : List ℤ) (l : Kept) (c : Surroundings) → length vs ≡ length (dims_of (bind l) v) → slice_get code.steps k ≡ Some (at_line line (Index v)) → act code (stands k (onto vs s) l c) ≡ or_fault line (element (dims_of (bind l) v) vs) (λ i. Goes (stands (k + 1) (pos i ∷ s) l c))
  index_row v line k vs s l c e h =
      at k (onto vs s) l c _ h ∙ pops_all vs s (length (dims_of (bind l) v)) (λ subs s. or_fault line (element (dims_of (bind l) v) subs) (λ i. Goes (stands (k + 1) (pos i ∷ s) l c))) e

  -- ---- expressions
  -- an expression leaves six instructions of what its nodes allow
  mutual
    expr_does : (e : Expr) (slots line : ℕ) (c : Surroundings) (rest : ℤ → Process) (n pc : ℕ) (s : List ℤ) (l : Kept) → KeptFits l → HasE (length s) e → ExprFits p.objects (shapes l) slots e → HasAt code.steps pc (expr_code marks line e) → ((v : ℤ) → Done (n + 6) (rest v) (stands (pc + length (expr_code marks line e)) (v ∷ s) l c)) → Done n (expr (bind l) line e c rest) (stands pc s l c)
    expr_does (Number x) slots line c rest n pc s l kf ok fits has go = goes (rest x) (n + 6) (n + 8) _ _ (omega arith) (kf pc s c (room.lower (length s) ok)) (at pc s l c _ has.0) (go x)
    expr_does (Scalar r) slots line c rest n pc s l kf ok fits has go = fetch_does r.var r.site line c rest (n + 6) (n + 8) pc s l (omega arith) (kf pc s c (room.lower (length s) ok)) has.0 go
    expr_does (Element r subs) slots line c rest n pc s l kf ok fits has go =
        let cs = exprs_code marks line subs in
        let two = at_line line (Index r.var) ∷ at_line line (Loade r.var r.site (mark_of marks r.site)) ∷ [] in
        let k = pc + length cs in
        let there = has_back code.steps pc cs two has in
        let end : k + 1 + 1 ≡ pc + length (cs ++ two) = omega (arith, length-append cs two) in
        let on = λ (i : ℕ). process.Load l.path r.site (base_of (bind l) r.var + i) rest in
        exprs_does subs (dims_of (bind l) r.var) slots line c (λ vs. or_fail line (element (dims_of (bind l) r.var) vs) on) (n + 8) pc s l kf (room.lower (length s) ok.1) ok.0 (subs_fit l r subs slots fits) (has_front code.steps pc cs two has) (λ vs q high.
        goes_or_fails line (element (dims_of (bind l) r.var) vs) on (n + 7) (n + 8) (stands k (onto vs s) l c) (λ i. stands (k + 1) (pos i ∷ s) l c) (omega arith) (omega arith) (kf k (onto vs s) c high) (index_row r.var line k vs s l c q there.0) (λ i.
        now (n + 6) (n + 7) _ (omega arith) (kf (k + 1) (pos i ∷ s) c ok.1) (_, at (k + 1) (pos i ∷ s) l c _ there.1.0, λ v. at_place (rest v) (n + 6) _ _ (v ∷ s) l c end (go v))))
    expr_does (Un op e) slots line c rest n pc s l kf ok fits has go =
        let ce = expr_code marks line e in
        let one = at_line line (unary_instr op) ∷ [] in
        let k = pc + length ce in
        let end : k + 1 ≡ pc + length (ce ++ one) = omega (arith, length-append ce one) in
        expr_does e slots line c (λ x. or_fail line (unary op x) rest) (n + 8) pc s l kf ok fits (has_front code.steps pc ce one has) (λ x.
        goes_or_fails line (unary op x) rest (n + 6) (n + 8 + 6) (stands k (x ∷ s) l c) (λ v. stands (k + 1) (v ∷ s) l c) (omega arith) (omega arith) (kf k (x ∷ s) c (above e (length s) ok)) (at k (x ∷ s) l c _ (has_back code.steps pc ce one has).0 ∙ unary_row code (bind l) op line k (x ∷ s) l c) (λ v.
        at_place (rest v) (n + 6) _ _ (v ∷ s) l c end (go v)))
    expr_does (Bin op e f) slots line c rest n pc s l kf ok fits has go =
        let ce = expr_code marks line e in
        let cf = expr_code marks line f in
        let one = at_line line (binary_instr op) ∷ [] in
        let j = pc + length ce in
        let k = j + length cf in
        let has_f = has_back code.steps pc ce (cf ++ one) has in
        let end : k + 1 ≡ pc + length (ce ++ (cf ++ one)) = omega (arith, length-append ce (cf ++ one), length-append cf one) in
        expr_does e slots line c (λ x. expr (bind l) line f c (λ y. or_fail line (binary op x y) rest)) (n + 8) pc s l kf ok.0 fits.0 (has_front code.steps pc ce _ has) (λ x.
        expr_does f slots line c (λ y. or_fail line (binary op x y) rest) (n + 8 + 6) j (x ∷ s) l kf ok.1 fits.1 (has_front code.steps j cf one has_f) (λ y.
        goes_or_fails line (binary op x y) rest (n + 6) (n + 8 + 6 + 6) (stands k (y ∷ x ∷ s) l c) (λ v. stands (k + 1) (v ∷ s) l c) (omega arith) (omega arith) (kf k (y ∷ x ∷ s) c (above f (suc (length s)) ok.1)) (at k (y ∷ x ∷ s) l c _ (has_back code.steps j cf one has_f).0 ∙ binary_row code (bind l) op line k (y ∷ x ∷ s) l c) (λ v.
        at_place (rest v) (n + 6) _ _ (v ∷ s) l c end (go v))))

    exprs_does : (es : Exprs) (ds : List Dim) (slots line : ℕ) (c : Surroundings) (rest : List ℤ → Process) (n pc : ℕ) (s : List ℤ) (l : Kept) → KeptFits l → room.stack (length s) → HasEs (length s) es → SubsFit p.objects (shapes l) slots ds es → HasAt code.steps pc (exprs_code marks line es) → ((vs : List ℤ) → length vs ≡ length ds → room.stack (length (onto vs s)) → Done n (rest vs) (stands (pc + length (exprs_code marks line es)) (onto vs s) l c)) → Done n (exprs (bind l) line es c rest) (stands pc s l c)
    exprs_does Empty [] slots line c rest n pc s l kf low ok fits has go = at_place (rest []) n _ _ s l c (omega arith) (go [] refl low)
    exprs_does Empty (d ∷ ds) slots line c rest n pc s l kf low ok fits has go = absurd fits
    exprs_does (More e es) [] slots line c rest n pc s l kf low ok fits has go = absurd fits
    exprs_does (More e es) (d ∷ ds) slots line c rest n pc s l kf low ok fits has go =
        let ce = expr_code marks line e in
        let cs = exprs_code marks line es in
        let j = pc + length ce in
        let end : j + length cs ≡ pc + length (ce ++ cs) = omega (arith, length-append ce cs) in
        let on = λ (v : ℤ) (vs : List ℤ). rest (v ∷ vs) in
        expr_does e slots line c (λ v. exprs (bind l) line es c (on v)) n pc s l kf ok.0 fits.0 (has_front code.steps pc ce cs has) (λ v.
        more (exprs (bind l) line es c (on v)) n (n + 6) (stands j (v ∷ s) l c) (omega arith)
        (exprs_does es ds slots line c (on v) n j (v ∷ s) l kf (above e (length s) ok.0) ok.1 fits.1 (has_back code.steps pc ce cs has) (λ vs q high.
        at_place (rest (v ∷ vs)) n _ _ (onto vs (v ∷ s)) l c end (go (v ∷ vs) (ap suc q) high))))

  -- ---- stores
  keep_does : (v : Var) (site line : ℕ) (x : ℤ) (c : Surroundings) (rest : Surroundings → Process) (m n pc : ℕ) (s : List ℤ) (l : Kept) → m + 1 ≤ n → room.Fits (stands pc (x ∷ s) l c) → slice_get code.steps pc ≡ Some (at_line line (set_instr site v)) → ((d : Surroundings) → Done m (rest d) (stands (pc + 1) s l d)) → Done n (keep (scalar_of (bind l) site v) x c rest) (stands pc (x ∷ s) l c)
  keep_does (var.Slot k) site line x c rest m n pc s l le ok h go =
      let d : Surroundings = record { slots = put c.slots k x; input = c.input } in
      goes (rest d) m n (stands pc (x ∷ s) l c) (stands (pc + 1) s l d) le ok (at pc (x ∷ s) l c _ h) (go d)
  keep_does (var.Object k) site line x c rest m n pc s l le ok h go = now m n _ le ok (_, at pc (x ∷ s) l c _ h, go c)
  keep_does (var.Dummy k) site line x c rest m n pc s l le ok h go = now m n _ le ok (_, at pc (x ∷ s) l c _ h, go c)

  -- the instruction stores the top of the stack in the cell, where `over` lies below it
  abbrev Stores : Kept → (line : ℕ) → Instr → Cell → (over : List ℤ) → Type 0
  Stores l line i cell over = (x : ℤ) (c : Surroundings) (rest : Surroundings → Process) (m n pc : ℕ) → m + 1 ≤ n → slice_get code.steps pc ≡ Some (at_line line i) → ((d : Surroundings) → Done m (rest d) (stands (pc + 1) [] l d)) → Done n (keep cell x c rest) (stands pc (x ∷ over) l c)

  -- what lies below a value that is stored: the number of an element, where there is one
  abbrev Lies : Exprs → List ℤ → Type 0
  Lies Empty over = length over ≡ 0
  Lies (More e es) over = length over ≡ 1

  value_room : (subs : Exprs) (value : Expr) (over : List ℤ) → Lies subs over → ValueRoom room.stack room.loops room.args subs value → HasE (length over) value
  value_room Empty value over e h = subst (λ k. HasE k value) (sym e) h
  value_room (More _ _) value over e h = subst (λ k. HasE k value) (sym e) h

  over_room : (subs : Exprs) (over : List ℤ) → Lies subs over → room.stack (length over)
  over_room Empty over e = subst room.stack (sym e) bare
  over_room (More _ _) over e = subst room.stack (sym e) single

  located_does : (r : Ref) (subs : Exprs) (slots line : ℕ) (c : Surroundings) (rest : Cell → Process) (m n pc : ℕ) (l : Kept) → KeptFits l → HasEs 0 subs → m + 1 ≤ n → 2 ≤ n → SpotFits p.objects (shapes l) slots r.var subs → HasAt code.steps pc (located_code marks line r subs) → ((cell : Cell) (over : List ℤ) → Lies subs over → Stores l line (store_instr r subs) cell over → Done m (rest cell) (stands (pc + length (located_code marks line r subs)) over l c)) → Done n (located (bind l) line r subs c rest) (stands pc [] l c)
  located_does r Empty slots line c rest m n pc l kf ok le two fits has go =
      let cell = scalar_of (bind l) r.site r.var in
      more (rest cell) m n (stands pc [] l c) (omega (arith, le))
      (at_place (rest cell) m _ _ [] l c (omega arith) (go cell [] refl (λ x d rest m n pc le h o. keep_does r.var r.site line x d rest m n pc [] l le (kf pc (x ∷ []) d single) h o)))
  located_does r (More e es) slots line c rest m n pc l kf ok le two fits has go =
      let cs = exprs_code marks line (More e es) in
      let here_index = at_line line (Index r.var) ∷ [] in
      let k = pc + length cs in
      let end : k + 1 ≡ pc + length (cs ++ here_index) = omega (arith, length-append cs here_index) in
      let cell = λ (i : ℕ). InWord l.path r.site (base_of (bind l) r.var + i) in
      exprs_does (More e es) (dims_of (bind l) r.var) slots line c (λ vs. or_fail line (element (dims_of (bind l) r.var) vs) (λ i. rest (cell i))) n pc [] l kf bare ok fits.1 (has_front code.steps pc cs here_index has) (λ vs q high.
      goes_or_fails line (element (dims_of (bind l) r.var) vs) (λ i. rest (cell i)) m n (stands k (onto vs []) l c) (λ i. stands (k + 1) (pos i ∷ []) l c) le two (kf k (onto vs []) c high) (index_row r.var line k vs [] l c q (has_back code.steps pc cs here_index has).0) (λ i.
      at_place (rest (cell i)) m _ _ (pos i ∷ []) l c end (go (cell i) (pos i ∷ []) refl (λ x d rest m n pc le h o. now m n _ le (kf pc (x ∷ pos i ∷ []) d room.two) (_, at pc (x ∷ pos i ∷ []) l d _ h, o d)))))

  -- ---- actuals
  -- a task has room however many arguments are gathered that are allowed
  abbrev pub ArgsFit : Kept → Type 0
  ArgsFit l = (held : List ℕ) → room.args (length held) → KeptFits (with_args held l)

  passed_does : (actuals : List Actual) (wanted : List (List Dim)) (line : ℕ) (c : Surroundings) (rest : List ℕ → Surroundings → Process) (n pc : ℕ) (l : Kept) → ArgsFit l → room.args (length l.args) → ActualsRoom room.stack room.loops room.args (length l.args) actuals → ActualsFit p.objects (shapes l) wanted actuals → HasAt code.steps pc (passed_code marks line actuals) → ((objects : List ℕ) (d : Surroundings) → room.args (length (onto objects l.args)) → Done n (rest objects d) (stands (pc + length (passed_code marks line actuals)) [] (with_args (onto objects l.args) l) d)) → Done n (passed (bind l) line actuals c rest) (stands pc [] l c)
  passed_does [] wanted line c rest n pc l af some ok fits has go = at_place (rest [] c) n _ _ [] l c (omega arith) (go [] c some)
  passed_does (a ∷ others) [] line c rest n pc l af some ok fits has go = absurd fits
  passed_does (Whole v ∷ others) (w ∷ wanted) line c rest n pc l af some ok fits has go =
      let x = object_of (bind l) v in
      let l' = with_args (x ∷ l.args) l in
      let cm = passed_code marks line others in
      let end : pc + 1 + length cm ≡ pc + length (passed_code marks line (Whole v ∷ others)) = omega arith in
      let on = λ (objects : List ℕ) (d : Surroundings). rest (x ∷ objects) d in
      goes (passed (bind l) line others c on) n (n + 8) (stands pc [] l c) (stands (pc + 1) [] l' c) (omega arith) (af l.args some pc [] c bare) (at pc [] l c _ has.0)
      (passed_does others wanted line c on n (pc + 1) l' af ok.0 ok.1 fits.1 has.1 (λ objects d more_args. at_place (rest (x ∷ objects) d) n _ _ [] (with_args (onto objects (x ∷ l.args)) l) d end (go (x ∷ objects) d more_args)))
  passed_does (Copy r value ∷ others) (w ∷ wanted) line c rest n pc l af some ok fits has go =
      let x = object_of (bind l) r.var in
      let l' = with_args (x ∷ l.args) l in
      let cv = expr_code marks line value in
      let cm = passed_code marks line others in
      let tail = at_line line (set_instr r.site r.var) ∷ at_line line (Arg r.var) ∷ cm in
      let k = pc + length cv in
      let there = has_back code.steps pc cv tail has in
      let end : k + 1 + 1 + length cm ≡ pc + length (cv ++ tail) = omega (arith, length-append cv tail) in
      let on = λ (objects : List ℕ) (d : Surroundings). rest (x ∷ objects) d in
      let after_copy = λ (d : Surroundings). passed (bind l) line others d on in
      expr_does value 0 line c (λ v. keep (scalar (bind l) r) v c after_copy) (n + 8) pc [] l (af l.args some) ok.0 fits.0.2 (has_front code.steps pc cv tail has) (λ v.
      keep_does r.var r.site line v c after_copy (n + 1) (n + 8 + 6) k [] l (omega arith) (af l.args some k (v ∷ []) c single) there.0 (λ d.
      goes (after_copy d) n (n + 1) (stands (k + 1) [] l d) (stands (k + 1 + 1) [] l' d) (omega arith) (af l.args some (k + 1) [] d bare) (at (k + 1) [] l d _ there.1.0)
      (passed_does others wanted line d on n (k + 1 + 1) l' af ok.1 ok.2 fits.1 there.1.1 (λ objects e more_args. at_place (rest (x ∷ objects) e) n _ _ [] (with_args (onto objects (x ∷ l.args)) l) e end (go (x ∷ objects) e more_args)))))

  -- ---- numbers of CALLs past instructions
  order_past : (pc k : ℕ) (is : List Step) (numbers : List ℕ) → HasAt code.steps pc is → calls_among is ≡ k → InOrder (call_number code pc + k) numbers → InOrder (call_number code (pc + length is)) numbers
  order_past pc k is numbers has e o = subst (λ n. InOrder n numbers) (ap (λ m. call_number code pc + m) (sym e) ∙ sym (number_past code pc is has)) o

  order_same : (pc : ℕ) (is : List Step) (numbers : List ℕ) → HasAt code.steps pc is → calls_among is ≡ 0 → InOrder (call_number code pc) numbers → InOrder (call_number code (pc + length is)) numbers
  order_same pc is numbers has e o =
      let n : call_number code pc ≡ call_number code pc + 0 = omega arith in
      order_past pc 0 is numbers has e (subst (λ m. InOrder m numbers) n o)

  order_next : (pc : ℕ) (i : Step) (numbers : List ℕ) → slice_get code.steps pc ≡ Some i → is_call i ≡ false → InOrder (call_number code pc) numbers → InOrder (call_number code (pc + 1)) numbers
  order_next pc i numbers h e o = subst (λ n. InOrder n numbers) (sym (past_one code pc i false h e)) o

  -- ---- statements of one unit under a call path
  module _ (path : List ℕ) (u : ℕ) (bound : List ℕ) where
    abbrev unit_shapes : List (List Dim)
    unit_shapes = shapes_in (slice_get p.units u)

    abbrev mine : Binding
    mine = binding_of p path u bound

    abbrev kept : Within → Kept
    kept l = record { loops = l.loops; args = []; path = path; unit = u; bound = bound; callers = l.callers }

    abbrev standing : ℕ → List ℤ → Within → Surroundings → Frame
    standing pc s l c = stands pc s (kept l) c

    place_in : (q : Process) (n pc pc1 : ℕ) (s : List ℤ) (l : Within) (c : Surroundings) → pc ≡ pc1 → Done n q (standing pc1 s l c) → Done n q (standing pc s l c)
    place_in q n pc pc1 s l c e d = at_place q n pc pc1 s (kept l) c e d

    at_in : (pc : ℕ) (s : List ℤ) (l : Within) (c : Surroundings) (i : Step) → slice_get code.steps pc ≡ Some i → act code (standing pc s l c) ≡ act_at code mine i.instr i.line pc s (kept l) c
    at_in pc s l c i h = at pc s (kept l) c i h

    pub inside_fits : (rank opened : ℕ) (l : Within) → room.Inside rank opened l → ArgsFit (kept l)
    inside_fits rank opened l ins held some pc s c h = room.fits rank opened pc s l held path u bound c h some ins

    -- what is known of calls: the called unit is done, and comes back
    abbrev pub CallsDo : (ranks : ℕ → ℕ) → (rank : ℕ) → Calls → Type 0
    CallsDo ranks rank calls = (number v : ℕ) (objects : List ℕ) → v < length p.units → ranks v < rank → (c : Surroundings) (rest : Surroundings → Process) (n back opened : ℕ) (l : Within) → room.Inside rank opened l → ((d : Surroundings) → Done n (rest d) (standing back [] l d)) → Done (n + 1) (calls number v objects c rest) (stands (get_or code.starts v 0) [] (calling number v objects back (kept l)) c)

    -- what the instructions from a place on do, whatever follows and stands before
    abbrev pub FollowsAt : (rank opened pc : ℕ) → Work → List Step → Type 0
    FollowsAt rank opened pc work is = (c : Surroundings) (rest : Surroundings → Process) (n : ℕ) (l : Within) → room.Inside rank opened l → ((d : Surroundings) → Done n (rest d) (standing (pc + length is) [] l d)) → Done n (work c rest) (standing pc [] l c)

    assign_does : (slots line pc rank opened : ℕ) (t : Target) (value : Expr) → HasEs 0 t.subs → ValueRoom room.stack room.loops room.args t.subs value → TargetFits p.objects unit_shapes slots t → ExprFits p.objects unit_shapes slots value → HasAt code.steps pc (assign_code marks line t value) → (calls : Calls) → FollowsAt rank opened pc (stmt calls mine (Assign line t value)) (assign_code marks line t value)
    assign_does slots line pc rank opened t value ok_subs ok_value ft fv has calls c rest n l ins go =
        let kf = inside_fits rank opened l ins [] room.no_args in
        let ct = target_code marks line t in
        let cv = expr_code marks line value in
        let one = target_store marks line t ∷ [] in
        let j = pc + length ct in
        let k = j + length cv in
        let has_v = has_back code.steps pc ct (cv ++ one) has in
        let end : k + 1 ≡ pc + length (ct ++ (cv ++ one)) = omega (arith, length-append ct (cv ++ one), length-append cv one) in
        located_does t.at t.subs slots line c (λ cell. expr mine line value c (λ v. keep cell v c rest)) (n + 7) (n + 8) pc (kept l) kf ok_subs (omega arith) (omega arith) ft (has_front code.steps pc ct (cv ++ one) has) (λ cell over lies stores.
        expr_does value slots line c (λ v. keep cell v c rest) (n + 7) j over (kept l) kf (value_room t.subs value over lies ok_value) fv (has_front code.steps j cv one has_v) (λ v.
        stores v c rest n (n + 7 + 6) k (omega arith) (has_back code.steps j cv one has_v).0 (λ d. place_in (rest d) n _ _ [] l d end (go d))))

    -- ---- conditions
    if_does : (z : Bool) (a b : Process) (m n i j : ℕ) (f : Frame) (l : Within) (c : Surroundings) → m + 1 ≤ n → room.Fits f → act code f ≡ Goes (standing (if z then i else j) [] l c) → Done m a (standing i [] l c) → Done m b (standing j [] l c) → Done n (if z then a else b) f
    if_does true a b m n i j f l c le ok q da db = goes a m n f (standing i [] l c) le ok q da
    if_does false a b m n i j f l c le ok q da db = goes b m n f (standing j [] l c) le ok q db

    -- the jump past further statements, where there are any
    leave_does : (line : ℕ) (other : List Step) (q : Process) (n pc pc1 : ℕ) (l : Within) (d : Surroundings) → KeptFits (kept l) → HasAt code.steps pc (leave_code marks line other) → pc + length (leave_code marks line other) + length other ≡ pc1 → Done n q (standing pc1 [] l d) → Done (n + 1) q (standing pc [] l d)
    leave_does line [] q n pc pc1 l d kf has e done = more q n (n + 1) (standing pc [] l d) (omega arith) (place_in q n pc pc1 [] l d (omega (arith, e)) done)
    leave_does line (i ∷ is) q n pc pc1 l d kf has e done =
        let e' : pc + (length (i ∷ is) + 1) ≡ pc1 = omega (arith, e) in
        goes q n (n + 1) (standing pc [] l d) (standing (pc + (length (i ∷ is) + 1)) [] l d) (omega arith) (kf pc [] d bare) (at_in pc [] l d _ has.0) (place_in q n _ _ [] l d e' done)

    guarded_does : (line pc rank opened : ℕ) (body other : Work) (cb co : List Step) → HasAt code.steps pc (guarded_code marks line (cb ++ leave_code marks line co) co) → FollowsAt rank opened (pc + 1) body cb → FollowsAt rank opened (pc + 1 + length (cb ++ leave_code marks line co)) other co → (v : ℤ) (c : Surroundings) (rest : Surroundings → Process) (n : ℕ) (l : Within) → room.Inside rank opened l → ((d : Surroundings) → Done n (rest d) (standing (pc + length (guarded_code marks line (cb ++ leave_code marks line co) co)) [] l d)) → Done (n + 2) (branch v (body c rest) (other c rest)) (standing pc (v ∷ []) l c)
    guarded_does line pc rank opened body other cb co has fb fo v c rest n l ins go =
        let kf = inside_fits rank opened l ins [] room.no_args in
        let leave = leave_code marks line co in
        let arm = cb ++ leave in
        let there = has_front code.steps (pc + 1) arm co has.1 in
        let all = guarded_code marks line arm co in
        let past : pc + (length arm + 1) ≡ pc + 1 + length arm = omega arith in
        let end : pc + 1 + length arm + length co ≡ pc + length all = omega (arith, length-append arm co) in
        let end' : pc + 1 + length cb + length leave + length co ≡ pc + length all = omega (arith, end, length-append cb leave) in
        if_does (is_zero v) (other c rest) (body c rest) (n + 1) (n + 2) (pc + (length arm + 1)) (pc + 1) (standing pc (v ∷ []) l c) l c (omega arith) (kf pc (v ∷ []) c single) (at_in pc (v ∷ []) l c _ has.0)
        (more (other c rest) n (n + 1) _ (omega arith) (place_in (other c rest) n _ _ [] l c past (fo c rest n l ins (λ d. place_in (rest d) n _ _ [] l d end (go d)))))
        (fb c rest (n + 1) l ins (λ d. leave_does line co (rest d) n (pc + 1 + length cb) (pc + length all) l d kf (has_back code.steps (pc + 1) cb leave there) end' (go d)))

    -- ---- loops
    controls_do : (k : Control) (slots : ℕ) (c : Surroundings) (rest : ℤ → ℤ → ℕ → Process) (n pc : ℕ) (l : Within) → KeptFits (kept l) → ControlRoom room.stack room.loops room.args k → ControlFits p.objects unit_shapes slots k → HasAt code.steps pc (controls_code marks k) → ((m1 m2 m3 : ℤ) → Done n (or_fail k.line (trips m1 m2 m3) (λ t. rest m1 m3 t)) (standing (pc + length (controls_code marks k)) (m3 ∷ m2 ∷ m1 ∷ []) l c)) → Done n (controls mine k c rest) (standing pc [] l c)
    controls_do k slots c rest n pc l kf ok fits has go =
        let cf = expr_code marks k.line k.from in
        let ct = expr_code marks k.line k.to in
        let cb = expr_code marks k.line k.by in
        let i = pc + length cf in
        let j = i + length ct in
        let has_t = has_back code.steps pc cf (ct ++ cb) has in
        let end : j + length cb ≡ pc + length (cf ++ (ct ++ cb)) = omega (arith, length-append cf (ct ++ cb), length-append ct cb) in
        let last = λ (m1 m2 m3 : ℤ). or_fail k.line (trips m1 m2 m3) (λ t. rest m1 m3 t) in
        expr_does k.from slots k.line c (λ m1. expr mine k.line k.to c (λ m2. expr mine k.line k.by c (λ m3. last m1 m2 m3))) n pc [] (kept l) kf ok.0 fits.0 (has_front code.steps pc cf (ct ++ cb) has) (λ m1.
        expr_does k.to slots k.line c (λ m2. expr mine k.line k.by c (λ m3. last m1 m2 m3)) (n + 6) i (m1 ∷ []) (kept l) kf ok.1 fits.1 (has_front code.steps i ct cb has_t) (λ m2.
        expr_does k.by slots k.line c (λ m3. last m1 m2 m3) (n + 6 + 6) j (m2 ∷ m1 ∷ []) (kept l) kf ok.2 fits.2 (has_back code.steps i ct cb has_t) (λ m3.
        more (last m1 m2 m3) n (n + 6 + 6 + 6) (standing (j + length cb) (m3 ∷ m2 ∷ m1 ∷ []) l c) (omega arith) (place_in (last m1 m2 m3) n _ _ (m3 ∷ m2 ∷ m1 ∷ []) l c end (go m1 m2 m3)))))

    turns_do : (t line pc rank opened : ℕ) (again bump : Ref) (by : ℤ) (body : Work) (cb : List Step) → HasAt code.steps pc (turns_code marks line again bump cb) → FollowsAt rank (suc opened) (pc + 1) body cb → room.loops (suc opened) → (c : Surroundings) (rest : Surroundings → Process) (n : ℕ) (l : Within) → room.Inside rank opened l → ((d : Surroundings) → Done n (rest d) (standing (pc + length (turns_code marks line again bump cb)) [] l d)) → Done n (turns t body (raise mine line again bump by) c rest) (standing pc [] (nested (t, by) l) c)
    turns_do zero line pc rank opened again bump by body cb has fb ok c rest n l ins go =
        let kf = inside_fits rank (suc opened) (nested (zero, by) l) (room.inner rank opened (zero, by) l ok ins) [] room.no_args in
        let end : pc + (length cb + 5) ≡ pc + length (turns_code marks line again bump cb) = omega (arith, length-append cb (raise_code marks line again bump (negsuc (length cb + 3)))) in
        goes (rest c) n (n + 8) (standing pc [] (nested (zero, by) l) c) _ (omega arith) (kf pc [] c bare) (at_in pc [] (nested (zero, by) l) c _ has.0) (place_in (rest c) n _ _ [] l c end (go c))
    turns_do (suc t) line pc rank opened again bump by body cb has fb ok c rest n l ins go =
        let tail = raise_code marks line again bump (negsuc (length cb + 3)) in
        let there = has_back code.steps (pc + 1) cb tail has.1 in
        let k = pc + 1 + length cb in
        let back : k + 1 + 1 + 1 - suc (length cb + 3) ≡ pc = omega arith in
        let l' = nested (t, by) l in
        let ins' = room.inner rank opened (t, by) l ok ins in
        let kf = inside_fits rank (suc opened) l' ins' [] room.no_args in
        let kf_before = inside_fits rank (suc opened) (nested (suc t, by) l) (room.inner rank opened (suc t, by) l ok ins) [] room.no_args in
        let raised = raise mine line again bump by in
        let on = λ (d : Surroundings). turns t body raised d rest in
        goes (body c (λ d. raised d on)) (n + 7) (n + 8) (standing pc [] (nested (suc t, by) l) c) (standing (pc + 1) [] l' c) (omega arith) (kf_before pc [] c bare) (at_in pc [] (nested (suc t, by) l) c _ has.0)
        (fb c (λ d. raised d on) (n + 7) l' ins' (λ d.
        fetch_does again.var again.site line d (λ x. or_fail line (binary bin.Add x by) (λ y. keep (scalar mine bump) y d on)) (n + 6) (n + 7) k [] (kept l') (omega arith) (kf k [] d bare) there.0 (λ x.
        goes_or_fails line (binary bin.Add x by) (λ y. keep (scalar mine bump) y d on) (n + 5) (n + 6) (standing (k + 1) (x ∷ []) l' d) (λ y. standing (k + 1 + 1) (y ∷ []) l' d) (omega arith) (omega arith) (kf (k + 1) (x ∷ []) d single) (at_in (k + 1) (x ∷ []) l' d _ there.1.0) (λ y.
        keep_does bump.var bump.site line y d on (n + 4) (n + 5) (k + 1 + 1) [] (kept l') (omega arith) (kf (k + 1 + 1) (y ∷ []) d single) there.1.1.0 (λ e.
        goes (on e) n (n + 4) (standing (k + 1 + 1 + 1) [] l' e) _ (omega arith) (kf (k + 1 + 1 + 1) [] e bare) (at_in (k + 1 + 1 + 1) [] l' e _ there.1.1.1.0)
        (place_in (on e) n _ _ [] l' e back (turns_do t line pc rank opened again bump by body cb has fb ok e rest n l ins go)))))))

    forks_few : (line number : ℕ) (got : Got ℕ) (from by : ℤ) (body : ℕ → Process) (next : Process) (m n : ℕ) (f : Frame) (e : ℕ → Frame) (h : Frame) → m + 4 ≤ n → room.Fits f → act code f ≡ or_fault line got (λ count. Forks path number count from by e h) → ((i : ℕ) → Done 0 (body i) (e i)) → Done m next h → Done n (or_fail line got (λ count. process.Fork path number count from by body next)) f
    forks_few line number (Ok count) from by body next m n f e h le ok q db dn = now m n f le ok (e, h, q, db, dn)
    forks_few line number (Err kind) from by body next m n f e h le ok q db dn = now m n f (omega (arith, le)) ok q

    forks : (line number : ℕ) (got : Got ℕ) (from by : ℤ) (body : ℕ → Process) (next : Process) (m n : ℕ) (f : Frame) (e : ℕ → Frame) (h : Frame) → m + 4 ≤ n → room.Fits f → act code f ≡ or_fault line got (λ t. or_fault line (few t) (λ count. Forks path number count from by e h)) → ((i : ℕ) → Done 0 (body i) (e i)) → Done m next h → Done n (or_fail line got (λ t. or_fail line (few t) (λ count. process.Fork path number count from by body next))) f
    forks line number (Ok t) from by body next m n f e h le ok q db dn = forks_few line number (few t) from by body next m n f e h le ok q db dn
    forks line number (Err kind) from by body next m n f e h le ok q db dn = now m n f (omega (arith, le)) ok q

    -- ---- output and input
    gap_does : (first : Bool) (line : ℕ) (is : List Step) (rest : Process) (m n pc : ℕ) (s : List ℤ) (l : Within) (c : Surroundings) → m + 1 ≤ n → room.Fits (standing pc s l c) → HasAt code.steps pc (with_gap marks first line is) → ((k : ℕ) → k + length is ≡ pc + length (with_gap marks first line is) → HasAt code.steps k is → Done m rest (standing k s l c)) → Done n (gap first rest) (standing pc s l c)
    gap_does true line is rest m n pc s l c le ok has go = more rest m n (standing pc s l c) (omega (arith, le)) (go pc refl has)
    gap_does false line is rest m n pc s l c le ok has go = now m n _ le ok (_, at_in pc s l c _ has.0, go (pc + 1) (omega arith) has.1)

    items_do : (shown : List Item) (first : Bool) (slots texts line : ℕ) (c : Surroundings) (rest : Process) (n pc : ℕ) (l : Within) → KeptFits (kept l) → All (ItemRoom room.stack room.loops room.args) shown → All (ItemFits p.objects unit_shapes slots texts) shown → HasAt code.steps pc (items_code marks line first shown) → Done n rest (standing (pc + length (items_code marks line first shown)) [] l c) → Done (n + 1) (items mine line first shown c rest) (standing pc [] l c)
    items_do [] first slots texts line c rest n pc l kf ok fits has go = now n (n + 1) _ (omega arith) (kf pc [] c bare) (_, at_in pc [] l c _ has.0, go)
    items_do (tree.Text number ∷ more_items) first slots texts line c rest n pc l kf ok fits has go =
        let ok_on = All-tail (ItemRoom room.stack room.loops room.args) (tree.Text number) more_items ok in
        let fits_on = All-tail (ItemFits p.objects unit_shapes slots texts) (tree.Text number) more_items fits in
        let one = at_line line (Text number) in
        let cm = items_code marks line false more_items in
        let on = items mine line false more_items c rest in
        gap_does first line (one ∷ cm) (Say (piece.Text number) on) (n + 8) (n + 1 + 8) pc [] l c (omega arith) (kf pc [] c bare) has (λ k q has'.
        let end : k + 1 + length cm ≡ pc + length (with_gap marks first line (one ∷ cm)) = omega (arith, q) in
        now (n + 1) (n + 8) _ (omega arith) (kf k [] c bare) (_, at_in k [] l c _ has'.0, items_do more_items false slots texts line c rest n (k + 1) l kf ok_on fits_on has'.1 (place_in rest n _ _ [] l c end go)))
    items_do (Value value ∷ more_items) first slots texts line c rest n pc l kf ok fits has go =
        let ok_first = All-head (ItemRoom room.stack room.loops room.args) (Value value) more_items ok in
        let ok_on = All-tail (ItemRoom room.stack room.loops room.args) (Value value) more_items ok in
        let cv = expr_code marks line value in
        let fits_first = All-head (ItemFits p.objects unit_shapes slots texts) (Value value) more_items fits in
        let fits_on = All-tail (ItemFits p.objects unit_shapes slots texts) (Value value) more_items fits in
        let one = at_line line Put in
        let cm = items_code marks line false more_items in
        let tail = with_gap marks first line (one ∷ cm) in
        let on = items mine line false more_items c rest in
        expr_does value slots line c (λ v. gap first (Say (piece.Number v) on)) (n + 1) pc [] (kept l) kf ok_first fits_first (has_front code.steps pc cv tail has) (λ v.
        gap_does first line (one ∷ cm) (Say (piece.Number v) on) (n + 6) (n + 1 + 6) (pc + length cv) (v ∷ []) l c (omega arith) (kf (pc + length cv) (v ∷ []) c single) (has_back code.steps pc cv tail has) (λ k q has'.
        let end : k + 1 + length cm ≡ pc + length (cv ++ tail) = omega (arith, q, length-append cv tail) in
        now (n + 1) (n + 6) _ (omega arith) (kf k (v ∷ []) c single) (_, at_in k (v ∷ []) l c _ has'.0, items_do more_items false slots texts line c rest n (k + 1) l kf ok_on fits_on has'.1 (place_in rest n _ _ [] l c end go))))

    reads_do : (targets : List Target) (slots line : ℕ) (c : Surroundings) (rest : Surroundings → Process) (n pc : ℕ) (l : Within) → KeptFits (kept l) → All (λ t. HasEs 0 t.subs) targets → All (TargetFits p.objects unit_shapes slots) targets → HasAt code.steps pc (reads_code marks line targets) → ((d : Surroundings) → Done n (rest d) (standing (pc + length (reads_code marks line targets)) [] l d)) → Done (n + 2) (reads mine line targets c rest) (standing pc [] l c)
    reads_do [] slots line c rest n pc l kf ok fits has go =
        let left_with = λ (left : Input). let d : Surroundings = record { slots = c.slots; input = left } in d in
        goes_or_fails line (end_record c.input) (λ left. rest (left_with left)) n (n + 2) (standing pc [] l c) (λ left. standing (pc + 1) [] l (left_with left)) (omega arith) (omega arith) (kf pc [] c bare) (at_in pc [] l c _ has.0) (λ left. go (left_with left))
    reads_do (t ∷ ts) slots line c rest n pc l kf ok fits has go =
        let ok_first = All-head (λ (t : Target). HasEs 0 t.subs) t ts ok in
        let ok_on = All-tail (λ (t : Target). HasEs 0 t.subs) t ts ok in
        let fits_first = All-head (TargetFits p.objects unit_shapes slots) t ts fits in
        let fits_on = All-tail (TargetFits p.objects unit_shapes slots) t ts fits in
        let ct = target_code marks line t in
        let tail = at_line line Take ∷ target_store marks line t ∷ reads_code marks line ts in
        let k = pc + length ct in
        let there = has_back code.steps pc ct tail has in
        let end : k + 1 + 1 + length (reads_code marks line ts) ≡ pc + length (ct ++ tail) = omega (arith, length-append ct tail) in
        let left_with = λ (left : Input). let d : Surroundings = record { slots = c.slots; input = left } in d in
        let on = λ (d : Surroundings). reads mine line ts d rest in
        located_does t.at t.subs slots line c (λ cell. or_fail line (take c.input) (λ got. keep cell got.0 (left_with got.1) on)) (n + 8) (n + 2 + 8) pc (kept l) kf ok_first (omega arith) (omega arith) fits_first (has_front code.steps pc ct tail has) (λ cell over lies stores.
        goes_or_fails line (take c.input) (λ got. keep cell got.0 (left_with got.1) on) (n + 7) (n + 8) (standing k over l c) (λ got. standing (k + 1) (got.0 ∷ over) l (left_with got.1)) (omega arith) (omega arith) (kf k over c (over_room t.subs over lies)) (at_in k over l c _ there.0) (λ got.
        stores got.0 (left_with got.1) on (n + 2) (n + 7) (k + 1) (omega arith) there.1.0 (λ d.
        reads_do ts slots line d rest n (k + 1 + 1) l kf ok_on fits_on there.1.1 (λ e. place_in (rest e) n _ _ [] l e end (go e)))))

    -- ---- statements
    pub stmt_does : (t : Stmt) (calls : Calls) (ranks : ℕ → ℕ) (rank slots opened pc : ℕ) → CallsDo ranks rank calls → StmtRoom room.stack room.loops room.args opened t → StmtFits p ranks rank unit_shapes slots t → HasAt code.steps pc (stmt_code marks t) → InOrder (call_number code pc) (call_numbers t) → FollowsAt rank opened pc (stmt calls mine t) (stmt_code marks t)
    stmt_does Skip calls ranks rank slots opened pc does ok fits has order c rest n l ins go = place_in (rest c) n _ _ [] l c (omega arith) (go c)
    stmt_does (Seq x y) calls ranks rank slots opened pc does ok fits has order c rest n l ins go =
        let cx = stmt_code marks x in
        let cy = stmt_code marks y in
        let has_x = has_front code.steps pc cx cy has in
        let end : pc + length cx + length cy ≡ pc + length (cx ++ cy) = omega (arith, length-append cx cy) in
        let order_x = order_front (call_numbers x) (call_numbers y) (call_number code pc) order in
        let order_y = order_past pc (length (call_numbers x)) cx (call_numbers y) has_x (stmt_calls marks x) (order_back (call_numbers x) (call_numbers y) (call_number code pc) order) in
        stmt_does x calls ranks rank slots opened pc does ok.0 fits.0 has_x order_x c (λ d. stmt calls mine y d rest) n l ins (λ d.
        stmt_does y calls ranks rank slots opened (pc + length cx) does ok.1 fits.1 (has_back code.steps pc cx cy has) order_y d rest n l ins (λ e. place_in (rest e) n _ _ [] l e end (go e)))
    stmt_does (Assign line t value) calls ranks rank slots opened pc does ok fits has order c rest n l ins go =
        assign_does slots line pc rank opened t value ok.0 ok.1 fits.0 fits.1 has calls c rest n l ins go
    stmt_does (If arms) calls ranks rank slots opened pc does ok fits has order c rest n l ins go =
        more (stmt calls mine arms c rest) n (n + 8) (standing pc [] l c) (omega arith) (stmt_does arms calls ranks rank slots opened pc does ok fits has order c rest n l ins go)
    stmt_does (Arm line cond body other) calls ranks rank slots opened pc does ok fits has order c rest n l ins go =
        let cc' = expr_code marks line cond in
        let cb = stmt_code marks body in
        let co = stmt_code marks other in
        let arm = cb ++ leave_code marks line co in
        let cg = guarded_code marks line arm co in
        let k = pc + length cc' in
        let has_g = has_back code.steps pc cc' cg has in
        let has_arm = has_front code.steps (k + 1) arm co has_g.1 in
        let end : k + length cg ≡ pc + length (cc' ++ cg) = omega (arith, length-append cc' cg) in
        let order_k = order_same pc cc' (call_numbers body ++ call_numbers other) (has_front code.steps pc cc' cg has) (expr_none marks line cond) order in
        let order_g = order_next k _ (call_numbers body ++ call_numbers other) has_g.0 refl order_k in
        let many : calls_among arm ≡ length (call_numbers body) = among-append cb _ ∙ omega (arith, stmt_calls marks body, leave_none marks line co) in
        let order_other = order_past (k + 1) (length (call_numbers body)) arm (call_numbers other) has_arm many (order_back (call_numbers body) (call_numbers other) (call_number code (k + 1)) order_g) in
        let body_does = stmt_does body calls ranks rank slots opened (k + 1) does ok.1 fits.1 (has_front code.steps (k + 1) cb _ has_arm) (order_front (call_numbers body) (call_numbers other) (call_number code (k + 1)) order_g) in
        let other_does = stmt_does other calls ranks rank slots opened (k + 1 + length arm) does ok.2 fits.2 (has_back code.steps (k + 1) arm co has_g.1) order_other in
        let on = λ (v : ℤ). branch v (stmt calls mine body c rest) (stmt calls mine other c rest) in
        expr_does cond slots line c on (n + 8) pc [] (kept l) (inside_fits rank opened l ins [] room.no_args) ok.0 fits.0 (has_front code.steps pc cc' cg has) (λ v.
        more (on v) (n + 2) (n + 8 + 6) (standing k (v ∷ []) l c) (omega arith)
        (guarded_does line k rank opened (stmt calls mine body) (stmt calls mine other) cb co has_g body_does other_does v c rest n l ins (λ d. place_in (rest d) n _ _ [] l d end (go d))))
    stmt_does (Do k first body again bump) calls ranks rank slots opened pc does ok fits has order c rest n l ins go =
        let cc' = controls_code marks k in
        let cb = stmt_code marks body in
        let loop = turns_code marks k.line again bump cb in
        let tail = at_line k.line Doinit ∷ at_line k.line (set_instr first.site first.var) ∷ loop in
        let j = pc + length cc' in
        let there = has_back code.steps pc cc' tail has in
        let end : j + 1 + 1 + length loop ≡ pc + length (cc' ++ tail) = omega (arith, length-append cc' tail) in
        let numbers = call_numbers body in
        let order_j = order_same pc cc' numbers (has_front code.steps pc cc' tail has) (controls_none marks k) order in
        let order_body = order_next (j + 1 + 1) _ numbers there.1.1.0 refl (order_next (j + 1) _ numbers there.1.0 (set_is_none k.line first.site first.var) (order_next j _ numbers there.0 refl order_j)) in
        let kf = inside_fits rank opened l ins [] room.no_args in
        let body_does = stmt_does body calls ranks rank slots (suc opened) (j + 1 + 1 + 1) does ok.2 fits.4 (has_front code.steps (j + 1 + 1 + 1) cb _ there.1.1.1) order_body in
        let raised = λ (m3 : ℤ). raise mine k.line again bump m3 in
        let on = λ (m1 m3 : ℤ) (t : ℕ). keep (scalar mine first) m1 c (λ d. turns t (stmt calls mine body) (raised m3) d rest) in
        controls_do k slots c on (n + 8) pc l kf ok.0 fits.0 (has_front code.steps pc cc' tail has) (λ m1 m2 m3.
        goes_or_fails k.line (trips m1 m2 m3) (λ t. on m1 m3 t) (n + 7) (n + 8) (standing j (m3 ∷ m2 ∷ m1 ∷ []) l c) (λ t. standing (j + 1) (m1 ∷ []) (nested (t, m3) l) c) (omega arith) (omega arith) (kf j (m3 ∷ m2 ∷ m1 ∷ []) c (above k.by 2 ok.0.2)) (at_in j (m3 ∷ m2 ∷ m1 ∷ []) l c _ there.0) (λ t.
        keep_does first.var first.site k.line m1 c (λ d. turns t (stmt calls mine body) (raised m3) d rest) n (n + 7) (j + 1) [] (kept (nested (t, m3) l)) (omega arith) (inside_fits rank (suc opened) (nested (t, m3) l) (room.inner rank opened (t, m3) l ok.1 ins) [] room.no_args (j + 1) (m1 ∷ []) c single) there.1.0 (λ d.
        turns_do t k.line (j + 1 + 1) rank opened again bump m3 (stmt calls mine body) cb there.1.1 body_does ok.1 d rest n l ins (λ e. place_in (rest e) n _ _ [] l e end (go e)))))
    stmt_does (Doall k number own body) calls ranks rank slots opened pc does ok fits has order c rest n l ins go =
        let cc' = controls_code marks k in
        let cb = stmt_code marks body in
        let one = at_line k.line Join ∷ [] in
        let tail = at_line k.line (Fork number (pos (length cb + 2))) ∷ (cb ++ one) in
        let j = pc + length cc' in
        let there = has_back code.steps pc cc' tail has in
        let end : j + (length cb + 2) ≡ pc + length (cc' ++ tail) = omega (arith, length-append cc' tail, length-append cb one) in
        let numbers = call_numbers body in
        let order_j = order_same pc cc' numbers (has_front code.steps pc cc' tail has) (controls_none marks k) order in
        let kf = inside_fits rank opened l ins [] room.no_args in
        let ins' = room.forked rank opened l ins in
        let body_does = stmt_does body calls ranks rank own opened (j + 1) does ok.1 fits.4 (has_front code.steps (j + 1) cb one there.1) (order_next j _ numbers there.0 refl order_j) in
        let iteration = λ (m1 m3 : ℤ) (i : ℕ). Tick (stmt calls mine body (beginning m1 m3 i c) (λ d. process.Join)) in
        controls_do k 0 c (λ m1 m3 t. or_fail k.line (few t) (λ count. process.Fork path number count m1 m3 (iteration m1 m3) (rest c))) (n + 8) pc l kf ok.0 fits.1 (has_front code.steps pc cc' tail has) (λ m1 m2 m3.
        forks k.line number (trips m1 m2 m3) m1 m3 (iteration m1 m3) (rest c) n (n + 8) (standing j (m3 ∷ m2 ∷ m1 ∷ []) l c) (λ i. standing (j + 1) [] outermost (beginning m1 m3 i c)) (standing (j + (length cb + 2)) [] l c) (omega arith) (kf j (m3 ∷ m2 ∷ m1 ∷ []) c (above k.by 2 ok.0.2)) (at_in j (m3 ∷ m2 ∷ m1 ∷ []) l c _ there.0)
        (λ i. body_does (beginning m1 m3 i c) (λ d. process.Join) (0 + 8) outermost ins' (λ d.
        now 0 (0 + 8) _ (omega arith) (inside_fits rank opened outermost ins' [] room.no_args (j + 1 + length cb) [] d bare) (at_in (j + 1 + length cb) [] outermost d _ (has_back code.steps (j + 1) cb one there.1).0)))
        (place_in (rest c) n _ _ [] l c end (go c)))
    stmt_does (Call line number v actuals) calls ranks rank slots opened pc does ok fits has order c rest n l ins go =
        let cp = passed_code marks line actuals in
        let one = at_line line (instr.Call v) ∷ [] in
        let k = pc + length cp in
        let end : k + 1 ≡ pc + length (cp ++ one) = omega (arith, length-append cp one) in
        let order_k = order_same pc cp (number ∷ []) (has_front code.steps pc cp one has) (passed_none marks line actuals) order in
        let same : call_number code k ≡ number = cc in
        passed_does actuals (shapes_in (slice_get p.units v)) line c (λ objects d. calls number v objects d rest) (n + 8) pc (kept l) (inside_fits rank opened l ins) room.no_args ok fits.3 (has_front code.steps pc cp one has) (λ objects d some.
        goes (calls number v objects d rest) (n + 1) (n + 8) (stands k [] (with_args (onto objects []) (kept l)) d) (stands (get_or code.starts v 0) [] (calling number v objects (k + 1) (kept l)) d) (omega arith) (inside_fits rank opened l ins (onto objects []) some k [] d bare)
        (at k [] (with_args (onto objects []) (kept l)) d _ (has_back code.steps pc cp one has).0 ∙ ap₂ (λ (m : ℕ) (os : List ℕ). Goes (stands (get_or code.starts v 0) [] (calling m v os (k + 1) (kept l)) d)) same (ordered objects))
        (does number v objects fits.1 fits.2 d rest n (k + 1) opened l ins (λ e. place_in (rest e) n _ _ [] l e end (go e))))
    stmt_does (Print line shown) calls ranks rank slots opened pc does ok fits has order c rest n l ins go =
        more (items mine line true shown c (rest c)) (n + 1) (n + 8) (standing pc [] l c) (omega arith) (items_do shown true slots (length p.texts) line c (rest c) n pc l (inside_fits rank opened l ins [] room.no_args) ok fits has (go c))
    stmt_does (Read line targets) calls ranks rank slots opened pc does ok fits has order c rest n l ins go =
        more (reads mine line targets c rest) (n + 2) (n + 8) (standing pc [] l c) (omega arith) (reads_do targets slots line c rest n pc l (inside_fits rank opened l ins [] room.no_args) ok fits has go)

  -- ---- units
  -- a called unit ranks below the main unit, so it is another one, and its code ends in a return
  pub unit_does : (r : IsResolved p) → ((v : ℕ) → StmtRoom room.stack room.loops room.args 0 (body_of p v)) → ((v : ℕ) → v < length p.units → v ≢ p.main → HasAt code.steps (get_or code.starts v 0) (stmt_code marks (body_of p v) ++ (at_line 0 Return ∷ [])) × InOrder (call_number code (get_or code.starts v 0)) (call_numbers (body_of p v))) → (deep number v : ℕ) (objects : List ℕ) → v < length p.units → r.ranks v < deep → r.ranks v < r.ranks p.main → (path : List ℕ) (u : ℕ) (bound : List ℕ) (rank : ℕ) → r.ranks v < rank → (c : Surroundings) (rest : Surroundings → Process) (n back opened : ℕ) (l : Within) → room.Inside rank opened l → ((d : Surroundings) → Done n (rest d) (standing path u bound back [] l d)) → Done (n + 1) (unit p deep (number ∷ path) v objects c rest) (stands (get_or code.starts v 0) [] (calling number v objects back (kept path u bound l)) c)
  unit_does r rooms placed zero number v objects lt lower below path u bound rank ranked c rest n back opened l ins go = absurd (omega (arith, lower))
  unit_does r rooms placed (suc deep) number v objects lt lower below path u bound rank ranked c rest n back opened l ins go =
      let is = stmt_code marks (body_of p v) in
      let one = at_line 0 Return ∷ [] in
      let start = get_or code.starts v 0 in
      let other : v ≢ p.main = λ q. omega (arith, below, ap r.ranks q) in
      let there = placed v lt other in
      let l' : Within = record { loops = l.loops; callers = caller_at back (kept path u bound l) ∷ l.callers } in
      let ins' = room.called rank opened (r.ranks v) (caller_at back (kept path u bound l)) l ranked ins in
      stmt_does (number ∷ path) v objects (body_of p v) (λ m. unit p deep (m ∷ number ∷ path)) r.ranks (r.ranks v) 0 0 start (λ m w os w_lt w_lower. unit_does r rooms placed deep m w os w_lt (omega (arith, w_lower, lower)) (omega (arith, w_lower, below)) (number ∷ path) v objects (r.ranks v) w_lower) (rooms v) (r.fits v lt) (has_front code.steps start is one there.0) there.1 c rest (n + 1) l' ins' (λ d.
      goes (rest d) n (n + 1) (stands (start + length is) [] (calling number v objects back (kept path u bound l)) d) (standing path u bound back [] l d) (omega arith) (inside_fits (number ∷ path) v objects (r.ranks v) 0 l' ins' [] room.no_args (start + length is) [] d bare) (at (start + length is) [] (calling number v objects back (kept path u bound l)) d _ (has_back code.steps start is one there.0).0) (go d))
