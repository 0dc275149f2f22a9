-- Each access of a resolved program is of an element of a reference under its call path, and each fork of a DOALL; so it stays in its memory.
use Rattle.std.proofs.Common.{◌≡◌, ◌⊎◌, inl, inr, map, ℕ, zero, suc, ◌+◌, ◌<◌, ℤ, Bool, true, false, if◌then◌else◌, List, [], ◌∷◌, length, Ok, Err, refl, sym, ap, ◌∙◌, subst, arith}
use Rattle.std.specs.Prelude.{slice_get}
use Rattle.std.specs.List.{All, Any}
use Rattle.cdc_prog.specs.declared.expr.Ref.{Ref}
use Rattle.cdc_prog.specs.declared.expr.Var.{Var}
use Rattle.cdc_prog.specs.declared.expr.Var.TheVariants as var
use Rattle.cdc_prog.specs.declared.expr.BinOp.TheVariants.{Add}
use Rattle.cdc_prog.specs.declared.program.Dim.{Dim}
use Rattle.cdc_prog.specs.Plain.{Expr, Number, Scalar, Element, Un, Bin, Exprs, Empty, More, Target, Item, Text, Value, Actual, Whole, Copy, Control, Stmt, Skip, Seq, Assign, If, Arm, Do, Doall, Call, Print, Read, Program}
use Rattle.cdc_prog.specs.Value.{Got, unary, binary, is_zero, trips, few}
use Rattle.cdc_prog.specs.Data.{Binding, object_of, base_of, dims_in, dims_of, element}
use Rattle.cdc_prog.specs.Input.{Input, take, end_record}
use Rattle.cdc_prog.specs.Process.{Process, Load, Save, Say, Tick, Fork, Join, Halt, Fail, or_fail}
use Rattle.cdc_prog.specs.Expressions.{Surroundings, Cell, InSlot, InWord, scalar_of, scalar, fetch, keep, expr, exprs, located}
use Rattle.cdc_prog.specs.Statements.{Work, Calls, controls, raise, turns, branch, beginning, gap, items, reads, passed, stmt}
use Rattle.cdc_prog.specs.Units.{shapes_in, body_of, binding_of, unit, process_of}
use Rattle.cdc_prog.specs.Bodies.{EachStep, StaysBelow}
use Rattle.cdc_prog.specs.Uses.{ExprMentions, SubsMention, ItemMentions, TargetMentions, ActualMentions, ControlMentions, UsesAt, HasCall, HasDoall}
use Rattle.cdc_prog.specs.Paths.{passed_var, IsUnder, IsOfReference, IsOfDoall}
use Rattle.cdc_prog.specs.Resolved.{AreLaidOut, IsWordOf, AreBound, extents, IsVar, IsScalar, ExprFits, SubsFit, SpotFits, TargetFits, ControlFits, ItemFits, ActualsFit, StmtFits, IsResolved}
use Rattle.cdc_prog.proofs.Lists.{all_first, all_rest, any_here, any_later}
use Rattle.cdc_prog.proofs.Words.{object_within, bound_to}
use Rattle.cdc_prog.proofs.Owners.{word_of_variable}

-- a reference at a site to a variable
abbrev At : (site : ℕ) → Var → Ref → Type 0
At site v at = (at.site ≡ site) × (at.var ≡ v)

module _ (P : List ℕ → ℕ → ℕ → Type 0) (Q : List ℕ → ℕ → Type 0) where
  abbrev Fine : Process → Type 0
  Fine = EachStep P Q

  or_fail_fine : {A : Type 0} (line : ℕ) (g : Got A) (rest : A → Process) → ((a : A) → g ≡ Ok a → Fine (rest a)) → Fine (or_fail line g rest)
  or_fail_fine line (Ok a) rest h = h a refl
  or_fail_fine line (Err kind) rest h = tt

  abbrev CellFine : Cell → Type 0
  CellFine (InSlot k) = Unit {0}
  CellFine (InWord path site w) = P path site w

  fetch_fine : (cell : Cell) → CellFine cell → (c : Surroundings) (rest : ℤ → Process) → ((v : ℤ) → Fine (rest v)) → Fine (fetch cell c rest)
  fetch_fine (InSlot k) f c rest h = h _
  fetch_fine (InWord path site w) f c rest h = (f, h)

  keep_fine : (cell : Cell) → CellFine cell → (v : ℤ) (c : Surroundings) (rest : Surroundings → Process) → ((d : Surroundings) → Fine (rest d)) → Fine (keep cell v c rest)
  keep_fine (InSlot k) f v c rest h = h _
  keep_fine (InWord path site w) f v c rest h = (f, h c)

  branch_fine : (v : ℤ) (p q : Process) → Fine p → Fine q → Fine (branch v p q)
  branch_fine v p q f g = go (is_zero v)
    where
      go : (t : Bool) → Fine (if t then q else p)
      go true = g
      go false = f

  gap_fine : (first : Bool) (p : Process) → Fine p → Fine (gap first p)
  gap_fine true p f = f
  gap_fine false p f = f

  abbrev WorkFine : Work → Type 0
  WorkFine f = (c : Surroundings) (rest : Surroundings → Process) → ((d : Surroundings) → Fine (rest d)) → Fine (f c rest)

  turns_fine : (n : ℕ) (body raised : Work) → WorkFine body → WorkFine raised → WorkFine (turns n body raised)
  turns_fine zero body raised f g c rest h = h c
  turns_fine (suc n) body raised f g c rest h = f c _ (λ d. g d _ (λ e. turns_fine n body raised f g e rest h))

  module _ (b : Binding) (words : ℕ) (laid : AreLaidOut 0 b.objects words) (bound : AreBound b.objects b.shapes b.bound) where
    -- the words of the object for which a variable stands may be accessed at a site
    abbrev Reach : (site : ℕ) → Var → Type 0
    Reach site v = (n : ℕ) → IsWordOf b.objects (object_of b v) n (base_of b v + n) → P b.path site (base_of b v + n)

    -- so may those of each reference
    abbrev Allowed : ((site : ℕ) → Var → Type 0) → Type 0
    Allowed refers = (site : ℕ) (v : Var) → refers site v → Reach site v

    element_word : (slots : ℕ) (v : Var) (s : ℤ) (subs : List ℤ) (n : ℕ) → IsVar b.objects b.shapes slots v → element (dims_of b v) (s ∷ subs) ≡ Ok n → IsWordOf b.objects (object_of b v) n (base_of b v + n)
    element_word slots (var.Object k) s subs n is e = word_of_variable b words (var.Object k) (s ∷ subs) n laid bound is e
    element_word slots (var.Dummy k) s subs n is e = word_of_variable b words (var.Dummy k) (s ∷ subs) n laid bound is e
    element_word slots (var.Slot k) s subs n is e = cc

    first_word : (site : ℕ) (v : Var) → IsVar b.objects b.shapes 0 v → dims_of b v ≡ [] → Reach site v → P b.path site (base_of b v)
    first_word site v is scalar ok =
        let none : base_of b v + 0 ≡ base_of b v = omega arith in
        subst (λ w. P b.path site w) none (ok 0 (word_of_variable b words v [] 0 laid bound is (ap (λ ds. element ds []) scalar)))

    scalar_fine : (slots site : ℕ) (v : Var) → IsScalar b.objects b.shapes slots v → Reach site v → CellFine (scalar_of b site v)
    scalar_fine slots site (var.Object k) is ok = first_word site (var.Object k) is.0 is.1 ok
    scalar_fine slots site (var.Dummy k) is ok = first_word site (var.Dummy k) is.0 is.1 ok
    scalar_fine slots site (var.Slot k) is ok = tt

    -- as many values as subscripts
    abbrev Values : Exprs → List ℤ → Type 0
    Values Empty [] = Unit {0}
    Values (More e es) (v ∷ vs) = Values es vs
    Values _ _ = ⊥

    subscripted_word : (slots : ℕ) (v : Var) (e : Expr) (es : Exprs) (vs : List ℤ) (n : ℕ) → IsVar b.objects b.shapes slots v → Values (More e es) vs → element (dims_of b v) vs ≡ Ok n → IsWordOf b.objects (object_of b v) n (base_of b v + n)
    subscripted_word slots v e es [] n is some q = absurd some
    subscripted_word slots v e es (x ∷ xs) n is some q = element_word slots v x xs n is q

    mutual
      expr_fine : (slots line : ℕ) (e : Expr) → ExprFits b.objects b.shapes slots e → Allowed (λ site v. ExprMentions (At site v) e) → (c : Surroundings) (rest : ℤ → Process) → ((v : ℤ) → Fine (rest v)) → Fine (expr b line e c rest)
      expr_fine slots line (Number n) f ok c rest h = h n
      expr_fine slots line (Scalar at) f ok c rest h = fetch_fine (scalar b at) (scalar_fine slots at.site at.var f (ok at.site at.var (refl, refl))) c rest h
      expr_fine slots line (Element at Empty) f ok c rest h = absurd f
      expr_fine slots line (Element at (More e es)) f ok c rest h =
          let load = λ (n : ℕ). Load b.path at.site (base_of b at.var + n) rest in
          let found = λ (vs : List ℤ). or_fail line (element (dims_of b at.var) vs) load in
          exprs_fine slots line (dims_of b at.var) (More e es) f.1 (λ site v m. ok site v (inr m)) c found (λ vs some.
          or_fail_fine line (element (dims_of b at.var) vs) load (λ n is. (ok at.site at.var (inl (refl, refl)) n (subscripted_word slots at.var e es vs n f.0 some is), h)))
      expr_fine slots line (Un op e) f ok c rest h = expr_fine slots line e f ok c _ (λ x. or_fail_fine line (unary op x) rest (λ v is. h v))
      expr_fine slots line (Bin op e g) f ok c rest h =
          expr_fine slots line e f.0 (λ site v m. ok site v (inl m)) c _ (λ x. expr_fine slots line g f.1 (λ site v m. ok site v (inr m)) c _ (λ y. or_fail_fine line (binary op x y) rest (λ v is. h v)))

      exprs_fine : (slots line : ℕ) (dims : List Dim) (es : Exprs) → SubsFit b.objects b.shapes slots dims es → Allowed (λ site v. SubsMention (At site v) es) → (c : Surroundings) (rest : List ℤ → Process) → ((vs : List ℤ) → Values es vs → Fine (rest vs)) → Fine (exprs b line es c rest)
      exprs_fine slots line [] Empty f ok c rest h = h [] tt
      exprs_fine slots line [] (More e es) f ok c rest h = absurd f
      exprs_fine slots line (d ∷ ds) Empty f ok c rest h = absurd f
      exprs_fine slots line (d ∷ ds) (More e es) f ok c rest h =
          expr_fine slots line e f.0 (λ site v m. ok site v (inl m)) c _ (λ v. exprs_fine slots line ds es f.1 (λ site w m. ok site w (inr m)) c _ (λ vs some. h (v ∷ vs) some))

    located_fine : (slots line : ℕ) (at : Ref) (subs : Exprs) → SpotFits b.objects b.shapes slots at.var subs → Allowed (λ site v. At site v at ⊎ SubsMention (At site v) subs) → (c : Surroundings) (rest : Cell → Process) → ((cell : Cell) → CellFine cell → Fine (rest cell)) → Fine (located b line at subs c rest)
    located_fine slots line at Empty f ok c rest h = h (scalar b at) (scalar_fine slots at.site at.var f (ok at.site at.var (inl (refl, refl))))
    located_fine slots line at (More e es) f ok c rest h =
        let cell = λ (n : ℕ). InWord b.path at.site (base_of b at.var + n) in
        let found = λ (vs : List ℤ). or_fail line (element (dims_of b at.var) vs) (λ n. rest (cell n)) in
        exprs_fine slots line (dims_of b at.var) (More e es) f.1 (λ site v m. ok site v (inr m)) c found (λ vs some.
        or_fail_fine line (element (dims_of b at.var) vs) (λ n. rest (cell n)) (λ n is.
        h (cell n) (ok at.site at.var (inl (refl, refl)) n (subscripted_word slots at.var e es vs n f.0 some is))))

    controls_fine : (slots : ℕ) (k : Control) → ControlFits b.objects b.shapes slots k → Allowed (λ site v. ControlMentions (At site v) k) → (c : Surroundings) (rest : ℤ → ℤ → ℕ → Process) → ((m1 m3 : ℤ) (n : ℕ) → Fine (rest m1 m3 n)) → Fine (controls b k c rest)
    controls_fine slots k f ok c rest h =
        expr_fine slots k.line k.from f.0 (λ site v m. ok site v (inl m)) c _ (λ m1.
        expr_fine slots k.line k.to f.1 (λ site v m. ok site v (inr (inl m))) c _ (λ m2.
        expr_fine slots k.line k.by f.2 (λ site v m. ok site v (inr (inr m))) c _ (λ m3.
        or_fail_fine k.line (trips m1 m2 m3) _ (λ n is. h m1 m3 n))))

    raise_fine : (slots line : ℕ) (again bump : Ref) (by : ℤ) → IsScalar b.objects b.shapes slots again.var → IsScalar b.objects b.shapes slots bump.var → Reach again.site again.var → Reach bump.site bump.var → WorkFine (raise b line again bump by)
    raise_fine slots line again bump by f g ok also c rest h =
        fetch_fine (scalar b again) (scalar_fine slots again.site again.var f ok) c _ (λ x. or_fail_fine line (binary Add x by) _ (λ y is.
        keep_fine (scalar b bump) (scalar_fine slots bump.site bump.var g also) y c rest h))

    items_fine : (slots texts line : ℕ) (first : Bool) (shown : List Item) → All (ItemFits b.objects b.shapes slots texts) shown → Allowed (λ site v. Any (ItemMentions (At site v)) shown) → (c : Surroundings) (rest : Process) → Fine rest → Fine (items b line first shown c rest)
    items_fine slots texts line first [] f ok c rest h = h
    items_fine slots texts line first (Text number ∷ more) f ok c rest h =
        let later = λ (site : ℕ) (v : Var) (m : Any (ItemMentions (At site v)) more). ok site v (any_later (ItemMentions (At site v)) (Text number) more m) in
        gap_fine first _ (items_fine slots texts line false more (all_rest (ItemFits b.objects b.shapes slots texts) (Text number) more f) later c rest h)
    items_fine slots texts line first (Value value ∷ more) f ok c rest h =
        let here = λ (site : ℕ) (v : Var) (m : ItemMentions (At site v) (Value value)). ok site v (any_here (ItemMentions (At site v)) (Value value) more m) in
        let later = λ (site : ℕ) (v : Var) (m : Any (ItemMentions (At site v)) more). ok site v (any_later (ItemMentions (At site v)) (Value value) more m) in
        expr_fine slots line value (all_first (ItemFits b.objects b.shapes slots texts) (Value value) more f) here c _ (λ v.
        gap_fine first _ (items_fine slots texts line false more (all_rest (ItemFits b.objects b.shapes slots texts) (Value value) more f) later c rest h))

    reads_fine : (slots line : ℕ) (ts : List Target) → All (TargetFits b.objects b.shapes slots) ts → Allowed (λ site v. Any (TargetMentions (At site v)) ts) → WorkFine (reads b line ts)
    reads_fine slots line [] f ok c rest h = or_fail_fine line (end_record c.input) _ (λ left is. h _)
    reads_fine slots line (t ∷ ts) f ok c rest h =
        let here = λ (site : ℕ) (v : Var) (m : TargetMentions (At site v) t). ok site v (any_here (TargetMentions (At site v)) t ts m) in
        let later = λ (site : ℕ) (v : Var) (m : Any (TargetMentions (At site v)) ts). ok site v (any_later (TargetMentions (At site v)) t ts m) in
        located_fine slots line t.at t.subs (all_first (TargetFits b.objects b.shapes slots) t ts f) here c _ (λ cell fine. or_fail_fine line (take c.input) _ (λ got is.
        keep_fine cell fine got.0 _ _ (λ d. reads_fine slots line ts (all_rest (TargetFits b.objects b.shapes slots) t ts f) later d rest h)))

    -- the object of a variable in serial code, with its extents
    pub record IsObject (v : Var) : Type 0 where
      pub there : object_of b v < length b.objects
      pub extents : extents (dims_of b v) ≡ extents (dims_in (slice_get b.objects (object_of b v)))

    is_object : (v : Var) → IsVar b.objects b.shapes 0 v → IsObject v
    is_object (var.Object k) is = record { there = is; extents = refl }
    is_object (var.Dummy k) is =
        let at = bound_to b.objects b.shapes b.bound k bound is in record { there = at.there; extents = at.extents }
    is_object (var.Slot k) is = absurd (omega (arith, is))

    abbrev passes : Actual → ℕ
    passes a = object_of b (passed_var a)

    passed_fine : (line : ℕ) (shapes : List (List Dim)) (actuals : List Actual) → ActualsFit b.objects b.shapes shapes actuals → Allowed (λ site v. Any (ActualMentions (At site v) (λ w. ⊥)) actuals) → (c : Surroundings) (rest : List ℕ → Surroundings → Process) → ((objects : List ℕ) (d : Surroundings) → AreBound b.objects shapes objects → objects ≡ map passes actuals → Fine (rest objects d)) → Fine (passed b line actuals c rest)
    passed_fine line [] [] f ok c rest h = h [] c tt refl
    passed_fine line [] (a ∷ more) f ok c rest h = absurd f
    passed_fine line (shape ∷ shapes) [] f ok c rest h = absurd f
    passed_fine line (shape ∷ shapes) (Whole v ∷ more) f ok c rest h =
        let o = is_object v f.0.0 in
        let later = λ (site : ℕ) (w : Var) (m : Any (ActualMentions (At site w) (λ x. ⊥)) more). ok site w (any_later (ActualMentions (At site w) (λ x. ⊥)) (Whole v) more m) in
        passed_fine line shapes more f.1 later c _ (λ objects d are same. h _ d (o.there, f.0.1 ∙ o.extents, are) (ap (λ l. object_of b v ∷ l) same))
    passed_fine line (shape ∷ shapes) (Copy at value ∷ more) f ok c rest h =
        let o = is_object at.var f.0.1.0 in
        let alike : extents shape ≡ extents (dims_of b at.var) = ap extents (f.0.0 ∙ sym f.0.1.1) in
        let here = λ (site : ℕ) (w : Var) (m : ActualMentions (At site w) (λ x. ⊥) (Copy at value)). ok site w (any_here (ActualMentions (At site w) (λ x. ⊥)) (Copy at value) more m) in
        let later = λ (site : ℕ) (w : Var) (m : Any (ActualMentions (At site w) (λ x. ⊥)) more). ok site w (any_later (ActualMentions (At site w) (λ x. ⊥)) (Copy at value) more m) in
        expr_fine 0 line value f.0.2 (λ site w m. here site w (inr m)) c _ (λ v.
        keep_fine (scalar b at) (scalar_fine 0 at.site at.var f.0.1 (here at.site at.var (inl (refl, refl)))) v c _ (λ d.
        passed_fine line shapes more f.1 later d _ (λ objects e are same. h _ e (o.there, alike ∙ o.extents, are) (ap (λ l. object_of b at.var ∷ l) same))))

  module _ (p : Program) (laid : AreLaidOut 0 p.objects p.words) (ranks : ℕ → ℕ) where
    abbrev bind : List ℕ → List (List Dim) → List ℕ → Binding
    bind path shapes bound = record { path = path; objects = p.objects; shapes = shapes; bound = bound }

    -- what the CALLs of statements do, with objects that fit the dummies
    abbrev CallsFine : Calls → (rank : ℕ) → Binding → Stmt → Type 0
    CallsFine calls rank b s = (number u : ℕ) (actuals : List Actual) → HasCall number u actuals s → u < length p.units → ranks u < rank
        → AreBound p.objects (shapes_in (slice_get p.units u)) (map (λ a. object_of b (passed_var a)) actuals) → WorkFine (calls number u (map (λ a. object_of b (passed_var a)) actuals))

    module _ (calls : Calls) (rank : ℕ) (path : List ℕ) (shapes : List (List Dim)) (bound : List ℕ) (are : AreBound p.objects shapes bound) where
      abbrev b : Binding
      b = bind path shapes bound

      stmt_fine : (slots : ℕ) (s : Stmt) → StmtFits p ranks rank shapes slots s → Allowed b p.words laid are (λ site v. UsesAt site v s) → ((number : ℕ) → HasDoall number s → Q path number) → CallsFine calls rank b s → WorkFine (stmt calls b s)
      stmt_fine slots Skip f ok forks called c rest h = h c
      stmt_fine slots (Seq x y) f ok forks called c rest h =
          stmt_fine slots x f.0 (λ site v m. ok site v (inl m)) (λ number has. forks number (inl has)) (λ number u list has. called number u list (inl has)) c _ (λ d.
          stmt_fine slots y f.1 (λ site v m. ok site v (inr m)) (λ number has. forks number (inr has)) (λ number u list has. called number u list (inr has)) d rest h)
      stmt_fine slots (Assign line t value) f ok forks called c rest h =
          located_fine b p.words laid are slots line t.at t.subs f.0 (λ site v m. ok site v (inl m)) c _ (λ cell fine.
          expr_fine b p.words laid are slots line value f.1 (λ site v m. ok site v (inr m)) c _ (λ v. keep_fine cell fine v c rest h))
      stmt_fine slots (If arms) f ok forks called c rest h = stmt_fine slots arms f ok forks called c rest h
      stmt_fine slots (Arm line cond body other) f ok forks called c rest h = expr_fine b p.words laid are slots line cond f.0 (λ site v m. ok site v (inl m)) c _ (λ v.
          branch_fine v _ _
          (stmt_fine slots body f.1 (λ site w m. ok site w (inr (inl m))) (λ number has. forks number (inl has)) (λ number u list has. called number u list (inl has)) c rest h)
          (stmt_fine slots other f.2 (λ site w m. ok site w (inr (inr m))) (λ number has. forks number (inr has)) (λ number u list has. called number u list (inr has)) c rest h))
      stmt_fine slots (Do k first body again bump) f ok forks called c rest h =
          let again_fits = subst (IsScalar p.objects shapes slots) (sym f.2) f.1 in
          let bump_fits = subst (IsScalar p.objects shapes slots) (sym f.3) f.1 in
          let work = stmt_fine slots body f.4 (λ site v m. ok site v (inr (inr (inl m)))) forks called in
          let raised = λ (m3 : ℤ). raise_fine b p.words laid are slots k.line again bump m3 again_fits bump_fits
          (ok again.site again.var (inr (inr (inr (inl (refl, refl)))))) (ok bump.site bump.var (inr (inr (inr (inr (refl, refl)))))) in
          controls_fine b p.words laid are slots k f.0 (λ site v m. ok site v (inl m)) c _ (λ m1 m3 n.
          keep_fine (scalar b first) (scalar_fine b p.words laid are slots first.site first.var f.1 (ok first.site first.var (inr (inl (refl, refl))))) m1 c _ (λ d.
          turns_fine n (stmt calls b body) (raise b k.line again bump m3) work (raised m3) d rest h))
      stmt_fine slots (Doall k number own body) f ok forks called c rest h =
          controls_fine b p.words laid are 0 k f.1 (λ site v m. ok site v (inl m)) c _ (λ m1 m3 n. or_fail_fine k.line (few n) _ (λ count is.
          (forks number (inl refl), λ i. stmt_fine own body f.4 (λ site v m. ok site v (inr m)) (λ n has. forks n (inr has)) called (beginning m1 m3 i c) (λ d. Join) (λ d. tt), h c)))
      stmt_fine slots (Call line number u actuals) f ok forks called c rest h =
          passed_fine b p.words laid are line (shapes_in (slice_get p.units u)) actuals f.3 ok c _ (λ objects d ready same.
          let ready' = subst (AreBound p.objects (shapes_in (slice_get p.units u))) same ready in
          subst (λ l. Fine (calls number u l d rest)) (sym same) (called number u actuals (refl, refl, refl) f.1 f.2 ready' d rest h))
      stmt_fine slots (Print line shown) f ok forks called c rest h = items_fine b p.words laid are slots (length p.texts) line true shown f ok c (rest c) (h c)
      stmt_fine slots (Read line targets) f ok forks called c rest h = reads_fine b p.words laid are slots line targets f ok c rest h

    module _ (fits : (u : ℕ) → u < length p.units → StmtFits p ranks (ranks u) (shapes_in (slice_get p.units u)) 0 (body_of p u))
        (allowed : (path : List ℕ) (u : ℕ) (bound : List ℕ) → IsUnder p path u bound → (site : ℕ) (v : Var) → UsesAt site v (body_of p u) → (n : ℕ) → IsWordOf p.objects (object_of (binding_of p path u bound) v) n (base_of (binding_of p path u bound) v + n) → P path site (base_of (binding_of p path u bound) v + n))
        (forked : (path : List ℕ) (u : ℕ) (bound : List ℕ) → IsUnder p path u bound → (number : ℕ) → HasDoall number (body_of p u) → Q path number) where
      units_fine : (deep : ℕ) (path : List ℕ) (u : ℕ) (bound : List ℕ) → u < length p.units → IsUnder p path u bound → AreBound p.objects (shapes_in (slice_get p.units u)) bound → WorkFine (unit p deep path u bound)
      units_fine zero path u bound lt under are c rest h = tt
      units_fine (suc deep) path u bound lt under are c rest h =
          stmt_fine (λ number. unit p deep (number ∷ path)) (ranks u) path (shapes_in (slice_get p.units u)) bound are 0 (body_of p u) (fits u lt) (allowed path u bound under) (forked path u bound under)
          (λ number v actuals has vl below ready. units_fine deep (number ∷ path) v _ vl (u, bound, actuals, under, has, refl) ready) c rest h

pub steps_stand_in_units : (p : Program) (records : Input) → IsResolved p → EachStep (IsOfReference p) (IsOfDoall p) (process_of p records)
steps_stand_in_units p records is =
    units_fine (IsOfReference p) (IsOfDoall p) p is.laid_out is.ranks is.fits (λ path u bound under site v uses n word. (u, bound, v, n, under, uses, word)) (λ path u bound under number has. (u, bound, under, has))
    (length p.units) [] p.main [] is.main (refl, refl) (subst (λ shapes. AreBound p.objects shapes []) (sym is.main_alone) tt) _ (λ c. Halt) (λ d. tt)

each_below : (P : List ℕ → ℕ → ℕ → Type 0) (Q : List ℕ → ℕ → Type 0) (n : ℕ) → ((path : List ℕ) (site word : ℕ) → P path site word → word < n) → (p : Process) → EachStep P Q p → StaysBelow n p
each_below P Q n f (Load path site w next) h = (f path site w h.0, λ v. each_below P Q n f (next v) (h.1 v))
each_below P Q n f (Save path site w v next) h = (f path site w h.0, each_below P Q n f next h.1)
each_below P Q n f (Say piece next) h = each_below P Q n f next h
each_below P Q n f (Tick next) h = each_below P Q n f next h
each_below P Q n f (Fork path number count from by body next) h = (tt, λ k. each_below P Q n f (body k) (h.1 k), each_below P Q n f next h.2)
each_below P Q n f Join h = tt
each_below P Q n f Halt h = tt
each_below P Q n f (Fail kind line) h = tt

in_memory : (p : Program) → IsResolved p → (path : List ℕ) (site word : ℕ) → IsOfReference p path site word → word < p.words
in_memory p is path site word (u, bound, v, n, under, uses, of) =
    omega (arith, of.1, of.2, object_within 0 p.objects p.words (object_of (binding_of p path u bound) v) is.laid_out of.0)

pub stays_in_memory : (p : Program) (records : Input) → IsResolved p → StaysBelow p.words (process_of p records)
stays_in_memory p records is =
    each_below (IsOfReference p) (IsOfDoall p) p.words (in_memory p is) (process_of p records) (steps_stand_in_units p records is)
