-- Where the DOALLs of a program iterate apart, iterations are apart at every fork that is reached.
use Rattle.std.proofs.Common.{◌≡◌, inl, inr, ℕ, zero, suc, ◌+◌, ◌^◌, ◌≤◌, ℤ, Bool, true, false, if◌then◌else◌, List, [], ◌∷◌, map, length, Ok, Err, refl, subst}
use Rattle.std.specs.Prelude.{nat_lt}
use Rattle.cdc_prog.specs.declared.program.FaultKind.TheVariants.{TripTooLarge}
use Rattle.cdc_prog.specs.declared.expr.Ref.{Ref}
use Rattle.cdc_prog.specs.declared.expr.Var.{Var}
use Rattle.cdc_prog.specs.declared.expr.Var.TheVariants as var
use Rattle.cdc_prog.specs.declared.expr.BinOp.TheVariants.{Add}
use Rattle.cdc_prog.specs.Plain.{Expr, Number, Scalar, Element, Un, Bin, Exprs, Empty, More, Target, Item, Text, Value as Shown, Actual, Whole, Copy, Control, Stmt, Skip, Seq, Assign, If, Arm, Do, Doall, Call, Print, Read, Program}
use Rattle.cdc_prog.specs.Value.{Got, unary, binary, is_zero, trips, few}
use Rattle.cdc_prog.specs.Data.{Store, put, Binding, object_of, base_of, dims_of, element}
use Rattle.cdc_prog.specs.Input.{Input, take, end_record}
use Rattle.cdc_prog.specs.Process.{Process, or_fail}
use Rattle.cdc_prog.specs.Expressions.{Surroundings, Cell, InSlot, InWord, scalar_of, scalar, fetch, keep, expr, exprs, located}
use Rattle.cdc_prog.specs.Statements.{Work, Calls, controls, raise, turns, branch, gap, items, reads, passed, stmt}
use Rattle.cdc_prog.specs.Units.{body_of, binding_of, unit, process_of}
use Rattle.cdc_prog.specs.Uses.{HasCall}
use Rattle.cdc_prog.specs.Paths.{passed_var, IsUnder}
use Rattle.cdc_prog.specs.Apart.{AreApart, StaysApart, IsApart}
use Rattle.cdc_prog.specs.Iterations.{held, Value, Values, iteration, IsParallel, IsDoallIn, IteratesApart, HasDoallNumbers}

-- what goes on apart where the rest does
abbrev GoesOn : Work → Type 0
GoesOn f = (c : Surroundings) (t : Store) (rest : Surroundings → Process) → ((d : Surroundings) (u : Store) → StaysApart (rest d) u) → StaysApart (f c rest) t

or_fail_apart : {A : Type 0} (line : ℕ) (g : Got A) (rest : A → Process) (t : Store) → ((a : A) → g ≡ Ok a → StaysApart (rest a) t) → StaysApart (or_fail line g rest) t
or_fail_apart line (Ok a) rest t h = h a refl
or_fail_apart line (Err kind) rest t h = tt

few_is : (n count : ℕ) → few n ≡ Ok count → n ≡ count
few_is n count e = go (nat_lt (2 ^ 20) n) e
  where
    go : (test : Bool) → (if test then Err TripTooLarge else Ok n) ≡ Ok count → n ≡ count
    go true e = cc
    go false e = cc

keep_apart : (cell : Cell) (v : ℤ) → GoesOn (keep cell v)
keep_apart (InSlot k) v c t rest h = h _ t
keep_apart (InWord path site w) v c t rest h = h c (put t w v)

branch_apart : (v : ℤ) (p q : Process) (t : Store) → StaysApart p t → StaysApart q t → StaysApart (branch v p q) t
branch_apart v p q t f g = go (is_zero v)
  where
    go : (test : Bool) → StaysApart (if test then q else p) t
    go true = g
    go false = f

gap_apart : (first : Bool) (p : Process) (t : Store) → StaysApart p t → StaysApart (gap first p) t
gap_apart true p t f = f
gap_apart false p t f = f

turns_apart : (n : ℕ) (body raised : Work) → GoesOn body → GoesOn raised → GoesOn (turns n body raised)
turns_apart zero body raised f g c t rest h = h c t
turns_apart (suc n) body raised f g c t rest h = f c t _ (λ d u. g d u _ (λ e w. turns_apart n body raised f g e w rest h))

module _ (b : Binding) where
  fetch_apart : (site : ℕ) (v : Var) (c : Surroundings) (t : Store) (rest : ℤ → Process) → ((x : ℤ) → x ≡ held b c t v → StaysApart (rest x) t) → StaysApart (fetch (scalar_of b site v) c rest) t
  fetch_apart site (var.Object k) c t rest h = h _ refl
  fetch_apart site (var.Dummy k) c t rest h = h _ refl
  fetch_apart site (var.Slot k) c t rest h = h _ refl

  -- loads change no store, so the rest has the value on the store on which the expression began
  mutual
    expr_apart : (line : ℕ) (e : Expr) (c : Surroundings) (t : Store) (rest : ℤ → Process) → ((v : ℤ) → Value b c t e v → StaysApart (rest v) t) → StaysApart (expr b line e c rest) t
    expr_apart line (Number n) c t rest h = h n refl
    expr_apart line (Scalar at) c t rest h = fetch_apart at.site at.var c t rest h
    expr_apart line (Element at subs) c t rest h =
        exprs_apart line subs c t _ (λ vs values. or_fail_apart line (element (dims_of b at.var) vs) _ t (λ n is. h (t (base_of b at.var + n)) (vs, n, values, is, refl)))
    expr_apart line (Un op e) c t rest h = expr_apart line e c t _ (λ x value. or_fail_apart line (unary op x) rest t (λ v is. h v (x, value, is)))
    expr_apart line (Bin op e f) c t rest h =
        expr_apart line e c t _ (λ x first. expr_apart line f c t _ (λ y second. or_fail_apart line (binary op x y) rest t (λ v is. h v (x, y, first, second, is))))

    exprs_apart : (line : ℕ) (es : Exprs) (c : Surroundings) (t : Store) (rest : List ℤ → Process) → ((vs : List ℤ) → Values b c t es vs → StaysApart (rest vs) t) → StaysApart (exprs b line es c rest) t
    exprs_apart line Empty c t rest h = h [] refl
    exprs_apart line (More e es) c t rest h = expr_apart line e c t _ (λ v value. exprs_apart line es c t _ (λ vs values. h (v ∷ vs) (v, vs, value, values, refl)))

  located_apart : (line : ℕ) (at : Ref) (subs : Exprs) (c : Surroundings) (t : Store) (rest : Cell → Process) → ((cell : Cell) → StaysApart (rest cell) t) → StaysApart (located b line at subs c rest) t
  located_apart line at Empty c t rest h = h (scalar b at)
  located_apart line at (More e es) c t rest h =
      let cell = λ (n : ℕ). InWord b.path at.site (base_of b at.var + n) in
      let found = λ (vs : List ℤ). or_fail line (element (dims_of b at.var) vs) (λ n. rest (cell n)) in
      exprs_apart line (More e es) c t found (λ vs values. or_fail_apart line (element (dims_of b at.var) vs) (λ n. rest (cell n)) t (λ n is. h (cell n)))

  controls_apart : (k : Control) (c : Surroundings) (t : Store) (rest : ℤ → ℤ → ℕ → Process)
      → ((m1 m2 m3 : ℤ) (n : ℕ) → Value b c t k.from m1 → Value b c t k.to m2 → Value b c t k.by m3 → trips m1 m2 m3 ≡ Ok n → StaysApart (rest m1 m3 n) t) → StaysApart (controls b k c rest) t
  controls_apart k c t rest h =
      expr_apart k.line k.from c t _ (λ m1 first. expr_apart k.line k.to c t _ (λ m2 last. expr_apart k.line k.by c t _ (λ m3 step.
      or_fail_apart k.line (trips m1 m2 m3) (λ n. rest m1 m3 n) t (λ n is. h m1 m2 m3 n first last step is))))

  raise_apart : (line : ℕ) (again bump : Ref) (by : ℤ) → GoesOn (raise b line again bump by)
  raise_apart line again bump by c t rest h =
      fetch_apart again.site again.var c t _ (λ x held. or_fail_apart line (binary Add x by) _ t (λ y is. keep_apart (scalar b bump) y c t rest h))

  items_apart : (line : ℕ) (first : Bool) (shown : List Item) (c : Surroundings) (t : Store) (rest : Process) → StaysApart rest t → StaysApart (items b line first shown c rest) t
  items_apart line first [] c t rest h = h
  items_apart line first (Text number ∷ more) c t rest h = gap_apart first _ t (items_apart line false more c t rest h)
  items_apart line first (Shown value ∷ more) c t rest h = expr_apart line value c t _ (λ v is. gap_apart first _ t (items_apart line false more c t rest h))

  reads_apart : (line : ℕ) (ts : List Target) → GoesOn (reads b line ts)
  reads_apart line [] c t rest h = or_fail_apart line (end_record c.input) _ t (λ left is. h _ t)
  reads_apart line (x ∷ xs) c t rest h =
      located_apart line x.at x.subs c t _ (λ cell. or_fail_apart line (take c.input) _ t (λ got is.
      keep_apart cell got.0 _ t _ (λ d u. reads_apart line xs d u rest h)))

  -- the objects that are passed
  abbrev passes : List Actual → List ℕ
  passes actuals = map (λ a. object_of b (passed_var a)) actuals

  passed_apart : (line : ℕ) (actuals : List Actual) (c : Surroundings) (t : Store) (rest : List ℕ → Surroundings → Process) → ((d : Surroundings) (u : Store) → StaysApart (rest (passes actuals) d) u) → StaysApart (passed b line actuals c rest) t
  passed_apart line [] c t rest h = h c t
  passed_apart line (Whole v ∷ more) c t rest h = passed_apart line more c t _ h
  passed_apart line (Copy at value ∷ more) c t rest h =
      expr_apart line value c t _ (λ v is. keep_apart (scalar b at) v c t _ (λ d u. passed_apart line more d u _ h))

  module _ (calls : Calls) where
    -- each DOALL of statements iterates apart
    abbrev AreParallel : Stmt → Type 0
    AreParallel s = (number slots : ℕ) (k : Control) (body : Stmt) → IsDoallIn number k slots body s → IsParallel calls b k body

    -- each CALL of statements goes on apart
    abbrev CallsGoOn : Stmt → Type 0
    CallsGoOn s = (number u : ℕ) (actuals : List Actual) → HasCall number u actuals s → GoesOn (calls number u (passes actuals))

    stmt_apart : (s : Stmt) → AreParallel s → CallsGoOn s → GoesOn (stmt calls b s)
    stmt_apart Skip doalls called c t rest h = h c t
    stmt_apart (Seq x y) doalls called c t rest h =
        stmt_apart x (λ number slots k body has. doalls number slots k body (inl has)) (λ number u actuals has. called number u actuals (inl has)) c t _ (λ d w.
        stmt_apart y (λ number slots k body has. doalls number slots k body (inr has)) (λ number u actuals has. called number u actuals (inr has)) d w rest h)
    stmt_apart (Assign line x value) doalls called c t rest h =
        located_apart line x.at x.subs c t _ (λ cell. expr_apart line value c t _ (λ v is. keep_apart cell v c t rest h))
    stmt_apart (If arms) doalls called c t rest h = stmt_apart arms doalls called c t rest h
    stmt_apart (Arm line cond body other) doalls called c t rest h =
        expr_apart line cond c t _ (λ v is. branch_apart v _ _ t
        (stmt_apart body (λ number slots k x has. doalls number slots k x (inl has)) (λ number u actuals has. called number u actuals (inl has)) c t rest h)
        (stmt_apart other (λ number slots k x has. doalls number slots k x (inr has)) (λ number u actuals has. called number u actuals (inr has)) c t rest h))
    stmt_apart (Do k first body again bump) doalls called c t rest h =
        controls_apart k c t _ (λ m1 m2 m3 n v1 v2 v3 is. keep_apart (scalar b first) m1 c t _ (λ d u.
        turns_apart n (stmt calls b body) (raise b k.line again bump m3) (stmt_apart body doalls called) (raise_apart k.line again bump m3) d u rest h))
    stmt_apart (Doall k number slots body) doalls called c t rest h =
        controls_apart k c t _ (λ m1 m2 m3 n v1 v2 v3 is. or_fail_apart k.line (few n) _ t (λ count e. (
          subst (λ i. AreApart i (iteration calls b m1 m3 body c) t) (few_is n count e) (doalls number slots k body (refl, refl, refl, refl) c t m1 m2 m3 n v1 v2 v3 is t),
          λ u. h c u,
        )))
    stmt_apart (Call line number u actuals) doalls called c t rest h =
        passed_apart line actuals c t _ (λ d w. called number u actuals (refl, refl, refl) d w rest h)
    stmt_apart (Print line shown) doalls called c t rest h = items_apart line true shown c t (rest c) (h c t)
    stmt_apart (Read line targets) doalls called c t rest h = reads_apart line targets c t rest h

module _ (p : Program) (apart : (number : ℕ) → IteratesApart p number) where
  units_apart : (deep : ℕ) (path : List ℕ) (u : ℕ) (bound : List ℕ) → IsUnder p path u bound → GoesOn (unit p deep path u bound)
  units_apart zero path u bound under c t rest h = tt
  units_apart (suc deep) path u bound under c t rest h =
      let calls = λ (number : ℕ). unit p deep (number ∷ path) in
      stmt_apart (binding_of p path u bound) calls (body_of p u)
      (λ number slots k body has. apart number path u bound k slots body calls under has)
      (λ number v actuals has. units_apart deep (number ∷ path) v _ (u, bound, actuals, under, has, refl))
      c t rest h

  pub parallel_is_apart : (records : Input) → IsApart (process_of p records)
  parallel_is_apart records s = units_apart (length p.units) [] p.main [] (refl, refl) _ s _ (λ d u. tt)

pub apart_by_number : (p : Program) → HasDoallNumbers p → ((number : ℕ) → 1 ≤ number → number ≤ p.doalls → IteratesApart p number) → (number : ℕ) → IteratesApart p number
apart_by_number p numbers apart number path u bound k slots body calls under has =
    let in_range = numbers u number slots k body has in
    apart number in_range.0 in_range.1 path u bound k slots body calls under has
