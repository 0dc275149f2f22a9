-- What holds of every way in which a program can go, whatever its loads give.
use Rattle.std.proofs.Common.{◌≡◌, ℕ, zero, suc, ◌+◌, ◌<◌, ℤ, Bool, true, false, if◌then◌else◌, List, [], ◌∷◌, Some, None, Ok, Err, refl, subst, length}
use Rattle.std.proofs.lemmas.Option.{slice_get_within}
use Rattle.std.specs.Prelude.{slice_get, Option}
use Rattle.cdc_prog.specs.declared.expr.Ref.{Ref}
use Rattle.cdc_prog.specs.declared.program.Dim.{Dim}
use Rattle.cdc_prog.specs.declared.expr.BinOp.TheVariants.{Add}
use Rattle.cdc_prog.specs.declared.piece.Piece.{Piece}
use Rattle.cdc_prog.specs.declared.program.FaultKind.{FaultKind}
use Rattle.cdc_prog.specs.Plain.{Expr, Number, Scalar, Element, Un, Bin, Exprs, Empty, More, Target, Item, Text, Value, Actual, Whole, Copy, Control, Stmt, Skip, Seq, Assign, If, Arm, Do, Doall, Call, Print, Read, ProgramUnit, Program}
use Rattle.cdc_prog.specs.Value.{Got, unary, binary, is_zero, trips, few}
use Rattle.cdc_prog.specs.Data.{Binding, base_of, dims_of, element}
use Rattle.cdc_prog.specs.Input.{Input, take, end_record}
use Rattle.cdc_prog.specs.Process.{Process, Load, Save, Say, Tick, Fork, Join, Halt, Fail, or_fail}
use Rattle.cdc_prog.specs.Expressions.{Surroundings, Cell, InSlot, InWord, scalar, fetch, keep, expr, exprs, located}
use Rattle.cdc_prog.specs.Statements.{Work, Calls, controls, raise, turns, branch, beginning, gap, items, reads, passed, stmt}
use Rattle.cdc_prog.specs.Units.{binding_of, body_in, body_of, shapes_in, unit, process_of}
use Rattle.cdc_prog.specs.Bodies.{HasOnly}
use Rattle.cdc_prog.specs.Resolved.{StmtFits, IsResolved}

-- a property that a process has where what follows its first node has it
pub record IsWay (P : Process → Type 0) : Type 0 where
  pub load : (path : List ℕ) (site w : ℕ) (next : ℤ → Process) → ((v : ℤ) → P (next v)) → P (Load path site w next)
  pub save : (path : List ℕ) (site w : ℕ) (v : ℤ) (next : Process) → P next → P (Save path site w v next)
  pub say : (piece : Piece) (next : Process) → P next → P (Say piece next)
  pub tick : (next : Process) → P next → P (Tick next)
  pub fail : (kind : FaultKind) (line : ℕ) → P (Fail kind line)

-- the body of each DOALL has this
abbrev pub Bodies : (Stmt → Type 0) → Stmt → Type 0
Bodies B Skip = Unit {0}
Bodies B (Seq x y) = Bodies B x × Bodies B y
Bodies B (Assign line target value) = Unit {0}
Bodies B (If arms) = Bodies B arms
Bodies B (Arm line cond body other) = Bodies B body × Bodies B other
Bodies B (Do k first body again bump) = Bodies B body
Bodies B (Doall k number slots body) = B body
Bodies B (Call line number u actuals) = Unit {0}
Bodies B (Print line items) = Unit {0}
Bodies B (Read line targets) = Unit {0}

module _ (P : Process → Type 0) (way : IsWay P) where
  or_fail_way : {A : Type 0} (line : ℕ) (g : Got A) (rest : A → Process) → ((a : A) → P (rest a)) → P (or_fail line g rest)
  or_fail_way line (Ok a) rest h = h a
  or_fail_way line (Err kind) rest h = way.fail kind line

  fetch_way : (cell : Cell) (c : Surroundings) (rest : ℤ → Process) → ((v : ℤ) → P (rest v)) → P (fetch cell c rest)
  fetch_way (InSlot k) c rest h = h _
  fetch_way (InWord path site w) c rest h = way.load path site w rest h

  keep_way : (cell : Cell) (v : ℤ) (c : Surroundings) (rest : Surroundings → Process) → ((d : Surroundings) → P (rest d)) → P (keep cell v c rest)
  keep_way (InSlot k) v c rest h = h _
  keep_way (InWord path site w) v c rest h = way.save path site w v (rest c) (h c)

  mutual
    expr_way : (b : Binding) (line : ℕ) (e : Expr) (c : Surroundings) (rest : ℤ → Process) → ((v : ℤ) → P (rest v)) → P (expr b line e c rest)
    expr_way b line (Number n) c rest h = way.tick _ (h n)
    expr_way b line (Scalar at) c rest h = way.tick _ (fetch_way (scalar b at) c rest h)
    expr_way b line (Element at subs) c rest h =
        let load = λ (n : ℕ). Load b.path at.site (base_of b at.var + n) rest in
        let found = λ (vs : List ℤ). or_fail line (element (dims_of b at.var) vs) load in
        way.tick _ (exprs_way b line subs c found (λ vs. or_fail_way line (element (dims_of b at.var) vs) load (λ n. way.load b.path at.site (base_of b at.var + n) rest h)))
    expr_way b line (Un op e) c rest h = way.tick _ (expr_way b line e c _ (λ x. or_fail_way line (unary op x) rest h))
    expr_way b line (Bin op e f) c rest h =
        way.tick _ (expr_way b line e c _ (λ x. expr_way b line f c _ (λ y. or_fail_way line (binary op x y) rest h)))

    exprs_way : (b : Binding) (line : ℕ) (es : Exprs) (c : Surroundings) (rest : List ℤ → Process) → ((vs : List ℤ) → P (rest vs)) → P (exprs b line es c rest)
    exprs_way b line Empty c rest h = h []
    exprs_way b line (More e es) c rest h = expr_way b line e c _ (λ v. exprs_way b line es c _ (λ vs. h (v ∷ vs)))

  located_way : (b : Binding) (line : ℕ) (at : Ref) (subs : Exprs) (c : Surroundings) (rest : Cell → Process) → ((cell : Cell) → P (rest cell)) → P (located b line at subs c rest)
  located_way b line at Empty c rest h = h (scalar b at)
  located_way b line at (More e es) c rest h =
      let cell = λ (n : ℕ). InWord b.path at.site (base_of b at.var + n) in
      let found = λ (vs : List ℤ). or_fail line (element (dims_of b at.var) vs) (λ n. rest (cell n)) in
      exprs_way b line (More e es) c found (λ vs. or_fail_way line (element (dims_of b at.var) vs) (λ n. rest (cell n)) (λ n. h (cell n)))

  controls_way : (b : Binding) (k : Control) (c : Surroundings) (rest : ℤ → ℤ → ℕ → Process) → ((m1 m3 : ℤ) (n : ℕ) → P (rest m1 m3 n)) → P (controls b k c rest)
  controls_way b k c rest h =
      expr_way b k.line k.from c _ (λ m1. expr_way b k.line k.to c _ (λ m2. expr_way b k.line k.by c _ (λ m3.
      or_fail_way k.line (trips m1 m2 m3) _ (λ n. h m1 m3 n))))

  -- what has the property where what follows has it
  abbrev pub WorkWay : Work → Type 0
  WorkWay f = (c : Surroundings) (rest : Surroundings → Process) → ((d : Surroundings) → P (rest d)) → P (f c rest)

  raise_way : (b : Binding) (line : ℕ) (again bump : Ref) (by : ℤ) → WorkWay (raise b line again bump by)
  raise_way b line again bump by c rest h =
      fetch_way (scalar b again) c _ (λ x. or_fail_way line (binary Add x by) _ (λ y. keep_way (scalar b bump) y c rest h))

  turns_way : (n : ℕ) (body raised : Work) → WorkWay body → WorkWay raised → WorkWay (turns n body raised)
  turns_way zero body raised f g c rest h = way.tick _ (h c)
  turns_way (suc n) body raised f g c rest h = way.tick _ (f c _ (λ d. g d _ (λ e. turns_way n body raised f g e rest h)))

  branch_way : (v : ℤ) (p q : Process) → P p → P q → P (branch v p q)
  branch_way v p q f g = go (is_zero v)
    where
      go : (t : Bool) → P (if t then q else p)
      go true = g
      go false = f

  gap_way : (first : Bool) (p : Process) → P p → P (gap first p)
  gap_way true p f = f
  gap_way false p f = way.say _ _ f

  items_way : (b : Binding) (line : ℕ) (first : Bool) (shown : List Item) (c : Surroundings) (rest : Process) → P rest → P (items b line first shown c rest)
  items_way b line first [] c rest h = way.say _ _ h
  items_way b line first (Text number ∷ more) c rest h = way.tick _ (gap_way first _ (way.say _ _ (items_way b line false more c rest h)))
  items_way b line first (Value value ∷ more) c rest h =
      expr_way b line value c _ (λ v. gap_way first _ (way.say _ _ (items_way b line false more c rest h)))

  reads_way : (b : Binding) (line : ℕ) (ts : List Target) → WorkWay (reads b line ts)
  reads_way b line [] c rest h = or_fail_way line (end_record c.input) _ (λ left. h _)
  reads_way b line (t ∷ ts) c rest h =
      way.tick _ (located_way b line t.at t.subs c _ (λ cell. or_fail_way line (take c.input) _ (λ got.
      keep_way cell got.0 _ _ (λ d. reads_way b line ts d rest h))))

  passed_way : (b : Binding) (line : ℕ) (actuals : List Actual) (c : Surroundings) (rest : List ℕ → Surroundings → Process) → ((objects : List ℕ) (d : Surroundings) → P (rest objects d)) → P (passed b line actuals c rest)
  passed_way b line [] c rest h = h [] c
  passed_way b line (Whole v ∷ more) c rest h = way.tick _ (passed_way b line more c _ (λ objects d. h _ d))
  passed_way b line (Copy at value ∷ more) c rest h =
      way.tick _ (expr_way b line value c _ (λ v. keep_way (scalar b at) v c _ (λ d. passed_way b line more d _ (λ objects e. h _ e))))

  module _ (B : Stmt → Type 0) (fork : (calls : Calls) (b : Binding) (number count : ℕ) (from by : ℤ) (body : Stmt) (c : Surroundings) (next : Process) → B body → P next → P (Fork b.path number count from by (λ i. Tick (stmt calls b body (beginning from by i c) (λ d. Join))) next)) where
    stmt_way : (calls : Calls) → ((number u : ℕ) (bound : List ℕ) → WorkWay (calls number u bound)) → (b : Binding) (s : Stmt) → Bodies B s → WorkWay (stmt calls b s)
    stmt_way calls called b Skip has c rest h = h c
    stmt_way calls called b (Seq x y) has c rest h = stmt_way calls called b x has.0 c _ (λ d. stmt_way calls called b y has.1 d rest h)
    stmt_way calls called b (Assign line t value) has c rest h =
        way.tick _ (located_way b line t.at t.subs c _ (λ cell. expr_way b line value c _ (λ v. keep_way cell v c rest h)))
    stmt_way calls called b (If arms) has c rest h = way.tick _ (stmt_way calls called b arms has c rest h)
    stmt_way calls called b (Arm line cond body other) has c rest h =
        way.tick _ (expr_way b line cond c _ (λ v. branch_way v _ _ (stmt_way calls called b body has.0 c rest h) (stmt_way calls called b other has.1 c rest h)))
    stmt_way calls called b (Do k first body again bump) has c rest h =
        way.tick _ (controls_way b k c _ (λ m1 m3 n. keep_way (scalar b first) m1 c _ (λ d.
        turns_way n (stmt calls b body) (raise b k.line again bump m3) (stmt_way calls called b body has) (raise_way b k.line again bump m3) d rest h)))
    stmt_way calls called b (Doall k number slots body) has c rest h =
        way.tick _ (controls_way b k c _ (λ m1 m3 n. or_fail_way k.line (few n) _ (λ count. fork calls b number count m1 m3 body c (rest c) has (h c))))
    stmt_way calls called b (Call line number u actuals) has c rest h = way.tick _ (passed_way b line actuals c _ (λ objects d. called number u objects d rest h))
    stmt_way calls called b (Print line shown) has c rest h = way.tick _ (items_way b line true shown c (rest c) (h c))
    stmt_way calls called b (Read line targets) has c rest h = way.tick _ (reads_way b line targets c rest h)

    unit_way : (p : Program) → ((u : ℕ) → Bodies B (body_of p u)) → P Halt → (deep : ℕ) (path : List ℕ) (u : ℕ) (bound : List ℕ) → WorkWay (unit p deep path u bound)
    unit_way p has halt zero path u bound c rest h = halt
    unit_way p has halt (suc deep) path u bound c rest h =
        stmt_way (λ number. unit p deep (number ∷ path)) (λ number x taken. unit_way p has halt deep (number ∷ path) x taken) (binding_of p path u bound) (body_of p u) (has u) c rest h

    pub program_way : (p : Program) (records : Input) → ((u : ℕ) → Bodies B (body_of p u)) → P Halt → P (process_of p records)
    program_way p records has halt = unit_way p has halt (length p.units) [] p.main [] _ (λ c. Halt) (λ d. halt)

-- what is resolved has bodies that only assign, choose and count
abbrev pub Plainly : Stmt → Type 0
Plainly = HasOnly ⊥ ⊥ ⊥

bodies_fit : (p : Program) (ranks : ℕ → ℕ) (rank : ℕ) (shapes : List (List Dim)) (slots : ℕ) (s : Stmt) → StmtFits p ranks rank shapes slots s → Bodies Plainly s
bodies_fit p ranks rank shapes slots Skip f = tt
bodies_fit p ranks rank shapes slots (Seq x y) f = (bodies_fit p ranks rank shapes slots x f.0, bodies_fit p ranks rank shapes slots y f.1)
bodies_fit p ranks rank shapes slots (Assign line target value) f = tt
bodies_fit p ranks rank shapes slots (If arms) f = bodies_fit p ranks rank shapes slots arms f
bodies_fit p ranks rank shapes slots (Arm line cond body other) f = (bodies_fit p ranks rank shapes slots body f.1, bodies_fit p ranks rank shapes slots other f.2)
bodies_fit p ranks rank shapes slots (Do k first body again bump) f = bodies_fit p ranks rank shapes slots body f.4
bodies_fit p ranks rank shapes slots (Doall k number own body) f = f.3
bodies_fit p ranks rank shapes slots (Call line number u actuals) f = tt
bodies_fit p ranks rank shapes slots (Print line items) f = tt
bodies_fit p ranks rank shapes slots (Read line targets) f = tt

there : (us : List ProgramUnit) (u : ℕ) → (u < length us → Bodies Plainly (body_in (slice_get us u))) → Bodies Plainly (body_in (slice_get us u))
there us u h = go (slice_get us u) refl
  where
    go : (o : Option ProgramUnit) → slice_get us u ≡ o → Bodies Plainly (body_in o)
    go None e = tt
    go (Some x) e = subst (λ o. Bodies Plainly (body_in o)) e (h (slice_get_within us u x e))

pub resolved_bodies : (p : Program) → IsResolved p → (u : ℕ) → Bodies Plainly (body_of p u)
resolved_bodies p r u = there p.units u (λ lt. bodies_fit p r.ranks (r.ranks u) (shapes_in (slice_get p.units u)) 0 (body_of p u) (r.fits u lt))
