-- What the trees of a program do goes along the paths through them.
use Rattle.std.proofs.Common.{◌≡◌, ℕ, zero, suc, ◌+◌, ◌<◌, ℤ, pos, Bool, true, false, if◌then◌else◌, List, [], ◌∷◌, Ok, Err, refl, sym, subst, inl, inr, length, slice_get, arith}
use Rattle.cdc_prog.specs.declared.expr.Ref.{Ref}
use Rattle.cdc_prog.specs.declared.expr.Var.{Var}
use Rattle.cdc_prog.specs.declared.expr.Var.TheVariants as var
use Rattle.cdc_prog.specs.declared.expr.BinOp.TheVariants.{Add}
use Rattle.cdc_prog.specs.Plain.{Expr, Number, Scalar, Element, Un, Bin, Exprs, Empty, More, Target, Item, Text, Value, Actual, Whole, Copy, Control, Stmt, Skip, Seq, Assign, If, Arm, Do, Doall, Call, Print, Read, Program}
use Rattle.cdc_prog.specs.Value.{Got, unary, binary, is_zero, trips, few}
use Rattle.cdc_prog.specs.Data.{Store, put, zeros, Binding, base_of, dims_of, element}
use Rattle.cdc_prog.specs.Input.{Input, take, end_record}
use Rattle.cdc_prog.specs.Process.{Process, Load, Join, Halt, or_fail}
use Rattle.cdc_prog.specs.Expressions.{Surroundings, Cell, InWord, scalar, fetch, keep, expr, exprs, located}
use Rattle.cdc_prog.specs.Statements.{Work, Calls, controls, raise, turns, branch, gap, items, reads, passed, stmt}
use Rattle.cdc_prog.specs.Units.{shapes_in, body_of, binding_of, unit, process_of}
use Rattle.cdc_prog.specs.Resolved.{StmtFits, IsResolved}
use Rattle.cdc_path.specs.declared.point.Point.TheVariants as point
use Rattle.cdc_path.specs.PathExpr.{PathExpr, Nothing, Then, Either, Repeat, Visit, Turns, Passes}
use Rattle.cdc_path.specs.Marks.{visit}
use Rattle.cdc_path.specs.Courses.{at_var, expr_course, exprs_course, store_course, controls_course, items_course, reads_course, actuals_course, course, expanded, IsPath}
use Rattle.cdc_along.specs.Along.{Along}
use Rattle.cdc_along.proofs.Along.{begins}

-- what is left of the input, and the slots, where nothing is known of them
nowhere : Surroundings
nowhere = record { slots = zeros; input = [] }

-- a cell into which a target is stored
abbrev Stores : Binding → Ref → Exprs → Cell → Type 0
Stores b r Empty cell = cell ≡ scalar b r
Stores b r (More e es) cell = (n : ℕ) × (cell ≡ InWord b.path r.site (base_of b r.var + n))

-- what raises the variable of a DO
abbrev raised_course : List ℕ → (again bump : Ref) → PathExpr
raised_course path again bump = Then (at_var path again.var (point.Read again.site)) (at_var path bump.var (point.Write bump.site))

module _ (Ends : List Visit → Type 0) where
  -- what follows goes along paths from the points t on, whatever is handed to it, on every store
  abbrev From : {A : Type 0} → List Visit → (A → Process) → Type 0
  From {A} t rest = (a : A) (s : Store) → Along Ends t (rest a) s

  -- what follows does so wherever the way leads
  abbrev After : {A : Type 0} → PathExpr → List Visit → (A → Process) → Type 0
  After e t rest = (u : List Visit) → Passes e t u → From u rest

  -- a fault comes on the way that leads on from any value
  or_fail_along : {A : Type 0} (some : A) (line : ℕ) (g : Got A) (rest : A → Process) (t : List Visit) → From t rest → (s : Store) → Along Ends t (or_fail line g rest) s
  or_fail_along some line (Ok a) rest t h s = h a s
  or_fail_along some line (Err kind) rest t h s = begins Ends t (rest some) s (h some s)

  fetch_along : (b : Binding) (r : Ref) (c : Surroundings) (rest : ℤ → Process) (t : List Visit) → After (at_var b.path r.var (point.Read r.site)) t rest → (s : Store) → Along Ends t (fetch (scalar b r) c rest) s
  fetch_along b r c rest t h s = go r.var h
    where
      go : (v : Var) → After (at_var b.path v (point.Read r.site)) t rest → Along Ends t (fetch (scalar b (record { var = v; site = r.site; place = r.place })) c rest) s
      go (var.Object k) h = h (visit b.path (point.Read r.site) ∷ t) refl _ s
      go (var.Dummy k) h = h (visit b.path (point.Read r.site) ∷ t) refl _ s
      go (var.Slot k) h = h t refl _ s

  keep_along : (b : Binding) (r : Ref) (v : ℤ) (c : Surroundings) (rest : Surroundings → Process) (t : List Visit) → After (at_var b.path r.var (point.Write r.site)) t rest → (s : Store) → Along Ends t (keep (scalar b r) v c rest) s
  keep_along b r v c rest t h s = go r.var h
    where
      go : (w : Var) → After (at_var b.path w (point.Write r.site)) t rest → Along Ends t (keep (scalar b (record { var = w; site = r.site; place = r.place })) v c rest) s
      go (var.Object k) h = h (visit b.path (point.Write r.site) ∷ t) refl c _
      go (var.Dummy k) h = h (visit b.path (point.Write r.site) ∷ t) refl c _
      go (var.Slot k) h = h t refl _ s

  mutual
    expr_along : (b : Binding) (line : ℕ) (e : Expr) (c : Surroundings) (rest : ℤ → Process) (t : List Visit) → After (expr_course b.path e) t rest → (s : Store) → Along Ends t (expr b line e c rest) s
    expr_along b line (Number n) c rest t h s = h t refl n s
    expr_along b line (Scalar r) c rest t h s = fetch_along b r c rest t h s
    expr_along b line (Element r subs) c rest t h s =
        exprs_along b line subs c _ t (λ u p vs. or_fail_along 0 line (element (dims_of b r.var) vs) (λ n. Load b.path r.site (base_of b r.var + n) rest) u (λ n s'. h (visit b.path (point.Read r.site) ∷ u) (u, p, refl) _ s')) s
    expr_along b line (Un op e) c rest t h s = expr_along b line e c _ t (λ u p x. or_fail_along (pos 0) line (unary op x) rest u (h u p)) s
    expr_along b line (Bin op e f) c rest t h s =
        expr_along b line e c _ t (λ m p x. expr_along b line f c _ m (λ u q y. or_fail_along (pos 0) line (binary op x y) rest u (h u (m, p, q)))) s

    exprs_along : (b : Binding) (line : ℕ) (es : Exprs) (c : Surroundings) (rest : List ℤ → Process) (t : List Visit) → After (exprs_course b.path es) t rest → (s : Store) → Along Ends t (exprs b line es c rest) s
    exprs_along b line Empty c rest t h s = h t refl [] s
    exprs_along b line (More e es) c rest t h s = expr_along b line e c _ t (λ m p v. exprs_along b line es c _ m (λ u q vs. h u (m, p, q) (v ∷ vs))) s

  -- a target: its subscripts, and then, when its value is there, the store
  target_along : (b : Binding) (line : ℕ) (r : Ref) (subs : Exprs) (c : Surroundings) (rest : Cell → Process) (t : List Visit)
      → ((u : List Visit) → Passes (exprs_course b.path subs) t u → (cell : Cell) → Stores b r subs cell → (s : Store) → Along Ends u (rest cell) s) → (s : Store) → Along Ends t (located b line r subs c rest) s
  target_along b line r Empty c rest t h s = h t refl (scalar b r) refl s
  target_along b line r (More e es) c rest t h s =
      let cell = λ (n : ℕ). InWord b.path r.site (base_of b r.var + n) in
      exprs_along b line (More e es) c (λ vs. or_fail line (element (dims_of b r.var) vs) (λ n. rest (cell n))) t (λ u p vs.
      or_fail_along 0 line (element (dims_of b r.var) vs) (λ n. rest (cell n)) u (λ n. h u p (cell n) (n, refl))) s

  store_along : (b : Binding) (r : Ref) (subs : Exprs) (cell : Cell) → Stores b r subs cell → (v : ℤ) (c : Surroundings) (rest : Surroundings → Process) (t : List Visit) → After (store_course b.path r subs) t rest → (s : Store)
      → Along Ends t (keep cell v c rest) s
  store_along b r Empty cell is v c rest t h s = subst (λ x. Along Ends t (keep x v c rest) s) (sym is) (keep_along b r v c rest t h s)
  store_along b r (More e es) cell (n, is) v c rest t h s =
      subst (λ x. Along Ends t (keep x v c rest) s) (sym is) (h (visit b.path (point.Write r.site) ∷ t) refl c (put s (base_of b r.var + n) v))

  controls_along : (b : Binding) (k : Control) (c : Surroundings) (rest : ℤ → ℤ → ℕ → Process) (t : List Visit)
      → ((u : List Visit) → Passes (controls_course b.path k) t u → (m1 m3 : ℤ) (n : ℕ) (s : Store) → Along Ends u (rest m1 m3 n) s) → (s : Store) → Along Ends t (controls b k c rest) s
  controls_along b k c rest t h s =
      expr_along b k.line k.from c _ t (λ l p m1. expr_along b k.line k.to c _ l (λ m q m2. expr_along b k.line k.by c _ m (λ u r m3.
      or_fail_along 0 k.line (trips m1 m2 m3) (λ n. rest m1 m3 n) u (h u (l, p, (m, q, r)) m1 m3)))) s

  -- what goes on along the paths of an expression, whatever follows
  abbrev GoesOn : PathExpr → Work → Type 0
  GoesOn e f = (c : Surroundings) (rest : Surroundings → Process) (t : List Visit) → After e t rest → (s : Store) → Along Ends t (f c rest) s

  raise_along : (b : Binding) (line : ℕ) (again bump : Ref) (by : ℤ) → GoesOn (raised_course b.path again bump) (raise b line again bump by)
  raise_along b line again bump by c rest t h s =
      fetch_along b again c _ t (λ m p x. or_fail_along (pos 0) line (binary Add x by) _ m (λ y. keep_along b bump y c rest m (λ u q. h u (m, p, q)))) s

  -- some turns are made, and n are left
  turns_along : (n made : ℕ) (e f : PathExpr) (body raised : Work) → GoesOn e body → GoesOn f raised → (c : Surroundings) (rest : Surroundings → Process) (t m : List Visit)
      → Turns made (Passes (Then e f)) t m → After (Repeat (Then e f)) t rest → (s : Store) → Along Ends m (turns n body raised c rest) s
  turns_along zero made e f body raised goes raises c rest t m at h s = h m (made, at) c s
  turns_along (suc n) made e f body raised goes raises c rest t m at h s =
      goes c _ m (λ l p d. raises d _ l (λ u q d'. turns_along n (suc made) e f body raised goes raises d' rest t u (m, at, (l, p, q)) h)) s

  branch_along : (v : ℤ) (p q : Process) (t : List Visit) (s : Store) → Along Ends t p s → Along Ends t q s → Along Ends t (branch v p q) s
  branch_along v p q t s f g = go (is_zero v)
    where
      go : (b : Bool) → Along Ends t (if b then q else p) s
      go true = g
      go false = f

  gap_along : (first : Bool) (p : Process) (t : List Visit) (s : Store) → Along Ends t p s → Along Ends t (gap first p) s
  gap_along true p t s h = h
  gap_along false p t s h = h

  items_along : (b : Binding) (line : ℕ) (first : Bool) (shown : List Item) (c : Surroundings) (rest : Process) (t : List Visit)
      → ((u : List Visit) → Passes (items_course b.path shown) t u → (s : Store) → Along Ends u rest s) → (s : Store) → Along Ends t (items b line first shown c rest) s
  items_along b line first [] c rest t h s = h t refl s
  items_along b line first (Text number ∷ more) c rest t h s = gap_along first _ t s (items_along b line false more c rest t h s)
  items_along b line first (Value value ∷ more) c rest t h s =
      expr_along b line value c _ t (λ m p v s'. gap_along first _ m s' (items_along b line false more c rest m (λ u q. h u (m, p, q)) s')) s

  reads_along : (b : Binding) (line : ℕ) (ts : List Target) → GoesOn (reads_course b.path ts) (reads b line ts)
  reads_along b line [] c rest t h s = or_fail_along [] line (end_record c.input) _ t (λ left. h t refl _) s
  reads_along b line (x ∷ more) c rest t h s =
      target_along b line x.at x.subs c _ t (λ l p cell is. or_fail_along (pos 0, []) line (take c.input) _ l (λ got.
      store_along b x.at x.subs cell is got.0 _ _ l (λ m q d. reads_along b line more d rest m (λ u r. h u (l, p, (m, q, r)))))) s

  passed_along : (b : Binding) (line : ℕ) (actuals : List Actual) (c : Surroundings) (rest : List ℕ → Surroundings → Process) (t : List Visit)
      → ((u : List Visit) → Passes (actuals_course b.path actuals) t u → (objects : List ℕ) (d : Surroundings) (s : Store) → Along Ends u (rest objects d) s) → (s : Store) → Along Ends t (passed b line actuals c rest) s
  passed_along b line [] c rest t h s = h t refl [] c s
  passed_along b line (Whole v ∷ more) c rest t h s = passed_along b line more c _ t (λ u p objects d. h u p _ d) s
  passed_along b line (Copy r value ∷ more) c rest t h s =
      expr_along b line value c _ t (λ l p v. keep_along b r v c _ l (λ m q d. passed_along b line more d _ m (λ u r objects. h u (l, p, (m, q, r)) _))) s

-- ---- statements
-- whatever follows and however it ends, the work of a CALL goes along the paths of its CALL, where the unit ranks below this
abbrev CallsGoOn : Program → (ranks : ℕ → ℕ) → (rank : ℕ) → (courses : (number unit : ℕ) → PathExpr) → Calls → Type 1
CallsGoOn p ranks rank courses calls =
    (Ends : List Visit → Type 0) (number u : ℕ) (bound : List ℕ) → u < length p.units → ranks u < rank → GoesOn Ends (courses number u) (calls number u bound)

stmt_along : (p : Program) (ranks : ℕ → ℕ) (rank : ℕ) (courses : (number unit : ℕ) → PathExpr) (calls : Calls) → CallsGoOn p ranks rank courses calls → (b : Binding) (shapes : _) (slots : ℕ) (x : Stmt) → StmtFits p ranks rank shapes slots x
    → (Ends : List Visit → Type 0) → GoesOn Ends (course courses b.path x) (stmt calls b x)
stmt_along p ranks rank courses calls called b shapes slots Skip fits Ends c rest t h s = h t refl c s
stmt_along p ranks rank courses calls called b shapes slots (Seq x y) fits Ends c rest t h s =
    stmt_along p ranks rank courses calls called b shapes slots x fits.0 Ends c _ t (λ m f d. stmt_along p ranks rank courses calls called b shapes slots y fits.1 Ends d rest m (λ u g. h u (m, f, g))) s
stmt_along p ranks rank courses calls called b shapes slots (Assign line x value) fits Ends c rest t h s =
    target_along Ends b line x.at x.subs c _ t (λ l f cell is. expr_along Ends b line value c _ l (λ m g v. store_along Ends b x.at x.subs cell is v c rest m (λ u i. h u (l, f, (m, g, i))))) s
stmt_along p ranks rank courses calls called b shapes slots (If arms) fits Ends c rest t h s = stmt_along p ranks rank courses calls called b shapes slots arms fits Ends c rest t h s
stmt_along p ranks rank courses calls called b shapes slots (Arm line cond body other) fits Ends c rest t h s =
    expr_along Ends b line cond c _ t (λ m f v s'. branch_along Ends v _ _ m s'
    (stmt_along p ranks rank courses calls called b shapes slots body fits.1 Ends c rest m (λ u g. h u (m, f, inl g)) s')
    (stmt_along p ranks rank courses calls called b shapes slots other fits.2 Ends c rest m (λ u g. h u (m, f, inr g)) s')) s
stmt_along p ranks rank courses calls called b shapes slots (Do k first body again bump) fits Ends c rest t h s =
    let goes = stmt_along p ranks rank courses calls called b shapes slots body fits.4 Ends in
    controls_along Ends b k c _ t (λ l f m1 m3 n. keep_along Ends b first m1 c _ l (λ m g d.
    turns_along Ends n 0 (course courses b.path body) (raised_course b.path again bump) _ _ goes (raise_along Ends b k.line again bump m3) d rest m m refl (λ u i. h u (l, f, (m, g, i))))) s
stmt_along p ranks rank courses calls called b shapes slots (Doall k number own body) fits Ends c rest t h s =
    controls_along Ends b k c _ t (λ l f m1 m3 n. or_fail_along Ends 0 k.line (few n) _ l (λ count s'.
    let entry = visit b.path (point.Entry number) in
    let exit = visit b.path (point.Exit number) in
    let Left : List Visit → Type 0 = λ u. (r : Store) → Along Ends (exit ∷ u) (rest c) r in
    let leaves : (u : List Visit) → Passes (Either (course courses b.path body) Nothing) (entry ∷ l) u → Left u = λ u g. h (exit ∷ u) (l, f, (entry ∷ l, refl, (u, g, refl))) c in (
      leaves (entry ∷ l) (inr refl),
      λ i below r. stmt_along p ranks rank courses calls called b shapes own body fits.4 Left _ (λ d. Join) (entry ∷ l) (λ u g d s''. leaves u (inl g)) r,
    ))) s
stmt_along p ranks rank courses calls called b shapes slots (Call line number u actuals) fits Ends c rest t h s =
    passed_along Ends b line actuals c _ t (λ m f objects d. called Ends number u objects fits.1 fits.2 d rest m (λ w g. h w (m, f, g))) s
stmt_along p ranks rank courses calls called b shapes slots (Print line shown) fits Ends c rest t h s = items_along Ends b line true shown c (rest c) t (λ u f. h u f c) s
stmt_along p ranks rank courses calls called b shapes slots (Read line targets) fits Ends c rest t h s = reads_along Ends b line targets c rest t h s

-- ---- units
-- a unit that ranks below the number of CALLs in one another that are left goes along its expanded flow graph
unit_along : (p : Program) (r : IsResolved p) (deep : ℕ) (path : List ℕ) (Ends : List Visit → Type 0) (u : ℕ) (bound : List ℕ) → u < length p.units → r.ranks u < deep → GoesOn Ends (expanded p deep path u) (unit p deep path u bound)
unit_along p r zero path Ends u bound there low = absurd (omega (arith, low))
unit_along p r (suc deep) path Ends u bound there low =
    let called : CallsGoOn p r.ranks (r.ranks u) (λ number. expanded p deep (number ∷ path)) (λ number. unit p deep (number ∷ path)) =
    λ Ends' number v bound' there' below. unit_along p r deep (number ∷ path) Ends' v bound' there' (omega (arith, low, below)) in
    stmt_along p r.ranks (r.ranks u) (λ number. expanded p deep (number ∷ path)) (λ number. unit p deep (number ∷ path)) called (binding_of p path u bound) (shapes_in (slice_get p.units u)) 0 (body_of p u) (r.fits u there) Ends

pub program_along : (p : Program) (records : Input) (s : Store) → IsResolved p → Along (IsPath p) [] (process_of p records) s
program_along p records s r =
    unit_along p r (length p.units) [] (IsPath p) p.main [] r.main (r.ranked p.main r.main) (record { slots = zeros; input = records }) (λ c. Halt) [] (λ u f d s'. f) s
