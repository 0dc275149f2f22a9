-- The code of a program does what the program does.
use Rattle.std.proofs.Common.{◌≡◌, ◌≢◌, ℕ, zero, suc, ◌+◌, ◌*◌, ◌<◌, ◌≤◌, List, [], ◌∷◌, ◌++◌, length, get_or, map, refl, subst, arith}
use Rattle.std.specs.Prelude.{slice_get, slice_index_or}
use Rattle.std.proofs.lemmas.Bool.{eq-eqb, ne_eqb}
use Rattle.cdc_prog.specs.declared.program.Marks.{Marks}
use Rattle.cdc_prog.specs.Plain.{Expr, Number, Scalar, Element, Un, Bin, Exprs, Empty, More, Item, Text, Value, Stmt, Skip, Seq, Assign, If, Arm, Do, Doall, Call, Print, Read, Actual, Whole, Copy, ProgramUnit, Program}
use Rattle.cdc_prog.specs.Data.{zeros}
use Rattle.cdc_prog.specs.Input.{Input}
use Rattle.cdc_prog.specs.Numbered.{call_numbers}
use Rattle.cdc_prog.specs.Process.{Halt as Halted}
use Rattle.cdc_prog.specs.Units.{shapes_in, body_of, unit}
use Rattle.cdc_prog.specs.Resolved.{IsResolved}
use Rattle.cdc_code.specs.declared.instr.Instr.TheVariants.{Return, Halt}
use Rattle.cdc_code.specs.declared.code.Code.{Code}
use Rattle.cdc_code.specs.Rows.{call_number, main_kept, first_frame}
use Rattle.cdc_code.specs.Template.{at_line, end_instr, stmt_code, code_of, HasCallNumbers}
use Rattle.cdc_code.specs.declared.room.TheConstants.{STACK, NEST, DEPTH, ARGUMENTS}
use Rattle.cdc_code.specs.Room.{ExprRoom, ExprsRoom, ValueRoom, ItemRoom, ActualsRoom, StmtRoom, IsWithin}
use Rattle.cdc_code.specs.Does.{Does}
use Rattle.cdc_code.specs.Laws.{Anywhere, CodeFollows}
use Rattle.cdc_code.proofs.Placed.{HasAt, has_front, has_back, has_all}
use Rattle.cdc_code.proofs.CallNumbers.{InOrder, Begins, unit_begins}
use Rattle.cdc_code.proofs.Follows.{Holds, Within, outermost, Rooms, bare, inside_fits, now, at, stmt_does, unit_does}

shapes_kept : (us : List ProgramUnit) (u : ℕ) → get_or (map (λ (v : ProgramUnit). map (λ d. d.dims) v.dummies) us) u [] ≡ shapes_in (slice_get us u)
shapes_kept [] u = refl
shapes_kept (v ∷ us) zero = refl
shapes_kept (v ∷ us) (suc u) = shapes_kept us u

pub holds : (p : Program) (marks : Marks) → Holds p (code_of p marks)
holds p marks = record { objects = refl; shapes = shapes_kept p.units }

-- each unit stands where it begins
pub begins : (p : Program) (marks : Marks) → HasCallNumbers p → (v : ℕ) → v < length p.units → Begins (code_of p marks) marks.reads p.main v (body_of p v) (get_or (code_of p marks).starts v 0)
begins p marks numbered v lt =
    let code = code_of p marks in
    let e : 0 + v ≡ v = omega arith in
    subst (λ n. Begins code marks.reads p.main n (body_of p v) (get_or code.starts v 0)) e (unit_begins code marks.reads p.main p.units 0 v 0 (has_all code.steps) numbered lt)

-- in any room that the statements keep to
module _ (room : Rooms) (p : Program) (marks : Marks) (records : Input) (r : IsResolved p) (numbered : HasCallNumbers p) (rooms : (v : ℕ) → StmtRoom room.stack room.loops room.args 0 (body_of p v)) (start_room : room.Inside (r.ranks p.main) 0 outermost) where
  abbrev code : Code
  code = code_of p marks

  abbrev start : ℕ → ℕ
  start v = get_or code.starts v 0

  placed : (v : ℕ) → v < length p.units → v ≢ p.main → HasAt code.steps (start v) (stmt_code marks.reads (body_of p v) ++ (at_line 0 Return ∷ [])) × InOrder (call_number code (start v)) (call_numbers (body_of p v))
  placed v lt ne =
      let there = begins p marks numbered v lt in
      (subst (λ is_main. HasAt code.steps (start v) (stmt_code marks.reads (body_of p v) ++ (at_line 0 (end_instr marks.reads is_main) ∷ []))) (ne_eqb v p.main ne) there.has, there.numbers)

  in_room : (deep : ℕ) → length p.units ≡ deep → Does code marks.reads room.Fits 8 (unit p deep [] p.main [] (record { slots = zeros; input = records }) (λ c. Halted)) (first_frame code records)
  in_room zero e = absurd (omega (arith, e, r.main))
  in_room (suc deep) e =
      let is = stmt_code marks.reads (body_of p p.main) in
      let last = at_line 0 Halt ∷ [] in
      let there = begins p marks numbered p.main r.main in
      let has = subst (λ is_main. HasAt code.steps (start p.main) (is ++ (at_line 0 (end_instr marks.reads is_main) ∷ []))) (eq-eqb p.main p.main refl) there.has in
      stmt_does p code marks.reads (holds p marks) room [] p.main [] (body_of p p.main) (λ m. unit p deep (m ∷ [])) r.ranks (r.ranks p.main) 0 0 (start p.main) (λ m v os v_lt v_lower. unit_does p code marks.reads (holds p marks) room r rooms placed deep m v os v_lt (omega (arith, v_lower, e, r.ranked p.main r.main)) v_lower [] p.main [] (r.ranks p.main) v_lower) (rooms p.main) (r.fits p.main r.main) (has_front code.steps (start p.main) is last has) there.numbers (record { slots = zeros; input = records }) (λ c. Halted) 8 outermost start_room (λ d.
      now p code marks.reads (holds p marks) room 0 8 _ (omega arith) (inside_fits p code marks.reads (holds p marks) room [] p.main [] (r.ranks p.main) 0 outermost start_room [] room.no_args (start p.main + length is) [] d (bare p code marks.reads (holds p marks) room)) (at p code marks.reads (holds p marks) room (start p.main + length is) [] (main_kept code) d _ (has_back code.steps (start p.main) is last has).0))

-- ---- any room
abbrev anywhere : Rooms
anywhere = record {
  stack = λ k. Unit {0};
  loops = λ k. Unit {0};
  args = λ k. Unit {0};
  Fits = Anywhere;
  Inside = λ rank opened l. Unit {0};
  two = tt;
  lower = λ k h. tt;
  no_args = tt;
  fits = λ rank opened pc s l held path u bound c h some ins. tt;
  inner = λ rank opened loop l h ins. tt;
  called = λ rank opened below k l lower ins. tt;
  forked = λ rank opened l ins. tt;
}

abbrev Free : ℕ → Type 0
Free k = Unit {0}

mutual
  free_expr : (e : Expr) (k : ℕ) → ExprRoom Free Free Free k e
  free_expr (Number n) k = tt
  free_expr (Scalar at) k = tt
  free_expr (Element at subs) k = (free_exprs subs k, tt)
  free_expr (Un op e) k = free_expr e k
  free_expr (Bin op e f) k = (free_expr e k, free_expr f (suc k))

  free_exprs : (es : Exprs) (k : ℕ) → ExprsRoom Free Free Free k es
  free_exprs Empty k = tt
  free_exprs (More e es) k = (free_expr e k, free_exprs es (suc k))

free_value : (subs : Exprs) (value : Expr) → ValueRoom Free Free Free subs value
free_value Empty value = free_expr value 0
free_value (More _ _) value = free_expr value 1

free_item : (item : Item) → ItemRoom Free Free Free item
free_item (Text number) = tt
free_item (Value value) = free_expr value 0

free_actuals : (actuals : List Actual) (n : ℕ) → ActualsRoom Free Free Free n actuals
free_actuals [] n = tt
free_actuals (Whole v ∷ more) n = (tt, free_actuals more (suc n))
free_actuals (Copy at value ∷ more) n = (free_expr value 0, tt, free_actuals more (suc n))

free_stmt : (t : Stmt) (n : ℕ) → StmtRoom Free Free Free n t
free_stmt Skip n = tt
free_stmt (Seq x y) n = (free_stmt x n, free_stmt y n)
free_stmt (Assign line t value) n = (free_exprs t.subs 0, free_value t.subs value)
free_stmt (If arms) n = free_stmt arms n
free_stmt (Arm line cond body other) n = (free_expr cond 0, free_stmt body n, free_stmt other n)
free_stmt (Do k first body again bump) n = ((free_expr k.from 0, free_expr k.to 1, free_expr k.by 2), tt, free_stmt body (suc n))
free_stmt (Doall k number slots body) n = ((free_expr k.from 0, free_expr k.to 1, free_expr k.by 2), free_stmt body n)
free_stmt (Call line number unit actuals) n = free_actuals actuals 0
free_stmt (Print line items) n = λ i d lt. free_item (slice_index_or items i d)
free_stmt (Read line targets) n = λ i d lt. free_exprs (slice_index_or targets i d).subs 0

-- ---- the room of a task
-- a unit of this rank stands below as many units as its rank leaves, and each of them has no more DO loops open than a unit can
record IsInside (rank opened : ℕ) (l : Within) : Type 0 where
  loops : length l.loops ≤ NEST * length l.callers + opened
  nest : opened ≤ NEST
  callers : length l.callers + rank < DEPTH

abbrev in_task : Rooms
in_task = record {
  stack = λ k. k ≤ STACK;
  loops = λ k. k ≤ NEST;
  args = λ k. k ≤ ARGUMENTS;
  Fits = IsWithin;
  Inside = IsInside;
  two = omega arith;
  lower = λ k h. omega (arith, h);
  no_args = omega arith;
  fits = λ rank opened pc s l held path u bound c h some ins.
      record { stack = h; loops = omega (arith, ins.loops, ins.nest, ins.callers); args = some; callers = omega (arith, ins.callers) };
  inner = λ rank opened loop l h ins. record { loops = omega (arith, ins.loops); nest = h; callers = ins.callers };
  called = λ rank opened below k l lower ins. record { loops = omega (arith, ins.loops, ins.nest); nest = omega arith; callers = omega (arith, lower, ins.callers) };
  forked = λ rank opened l ins. record { loops = omega arith; nest = ins.nest; callers = omega (arith, ins.callers) };
}

pub follows : CodeFollows
follows = record {
  follows = λ p marks records r numbered. in_room anywhere p marks records r numbered (λ v. free_stmt (body_of p v) 0) tt (length p.units) refl;
  within = λ p marks records r numbered h.
      let start : IsInside (r.ranks p.main) 0 outermost = record { loops = omega arith; nest = omega arith; callers = omega (arith, r.ranked p.main r.main, h.units) } in
      in_room in_task p marks records r numbered h.bodies start (length p.units) refl;
}
