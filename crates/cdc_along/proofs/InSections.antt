-- The accesses of a program without CALL lie in the sections of their sites.
use Rattle.std.proofs.Common.{◌≡◌, ℕ, zero, suc, ◌+◌, ◌^◌, ◌<◌, Bool, true, false, if◌then◌else◌, List, [], ◌∷◌, ◌++◌, ℤ, ◌+ℤ◌, Ok, Err, length, inl, inr, refl, sym, ap, ◌∙◌, subst, arith}
use Rattle.std.specs.Prelude.{slice_get, nat_lt}
use Rattle.std.specs.List.{All, Any}
use Rattle.std.proofs.lemmas.Int.{ints}
use Rattle.cdc_num.proofs.Whole.{mul-pos-suc}
use Rattle.cdc_base.specs.declared.place.Place.{Place}
use Rattle.cdc_prog.specs.declared.expr.Ref.{Ref}
use Rattle.cdc_prog.specs.declared.expr.Var.{Var}
use Rattle.cdc_prog.specs.declared.expr.Var.TheVariants as var
use Rattle.cdc_prog.specs.declared.expr.BinOp.TheVariants.{Add}
use Rattle.cdc_prog.specs.declared.program.Dim.{Dim}
use Rattle.cdc_prog.specs.declared.program.FaultKind.{FaultKind}
use Rattle.cdc_prog.specs.declared.program.FaultKind.TheVariants.{TripTooLarge}
use Rattle.cdc_prog.specs.declared.affine.Scope.{Scope}
use Rattle.cdc_prog.specs.Plain.{Expr, Number, Scalar, Element, Un, Bin, Exprs, Empty, More, Target, Item, Text, Value as Shown, Control, Stmt, Skip, Seq, Assign, If, Arm, Do, Doall, Call, Print, Read, Program}
use Rattle.cdc_prog.specs.Value.{Got, unary, binary, is_zero, trips, few}
use Rattle.cdc_prog.specs.Data.{Store, put, zeros, Binding, dims_in, dims_at, dims_of, base_of, element}
use Rattle.cdc_prog.specs.Input.{Input, take, end_record}
use Rattle.cdc_prog.specs.Process.{Process, Load, Save, Say, Tick, Fork, Join, Halt, Fail, or_fail}
use Rattle.cdc_prog.specs.Expressions.{Surroundings, Cell, InWord, scalar_of, scalar, fetch, keep, expr, exprs, located}
use Rattle.cdc_prog.specs.Statements.{Work, Calls, controls, raise, turns, branch, gap, items, reads, beginning, stmt}
use Rattle.cdc_prog.specs.Units.{body_of, unit, process_of}
use Rattle.cdc_prog.specs.Alone.{left}
use Rattle.cdc_prog.specs.InOrder.{after}
use Rattle.cdc_prog.specs.Bodies.{HasOnly}
use Rattle.cdc_prog.specs.Resolved.{IsVar, IsScalar, ExprFits, SubsFit, SpotFits, ControlFits, TargetFits, ItemFits, StmtFits, IsResolved, HasNoCall}
use Rattle.cdc_prog.specs.Uses.{Stores}
use Rattle.cdc_prog.specs.Premises.{DosKeepVariables, KeepsLoopVariables}
use Rattle.cdc_prog.specs.Dependence.{Spot, spot, index_of, inside, own, range_of}
use Rattle.cdc_prog.specs.Iterations.{Lies as LiesInRange, held, Value, Values, InRanges, IsIn, IsThere, IsDoallIn, KeepsIndexes}
use Rattle.cdc_prog.specs.Sections.{section, AreStepped}
use Rattle.cdc_prog.proofs.Alone.{put_same}
use Rattle.cdc_prog.proofs.Numbers.{element_within}
use Rattle.cdc_affine.proofs.Worth.{exact_of}
use Rattle.cdc_section.proofs.Named.{named_of}
use Rattle.cdc_path.specs.References.{expr_refs, exprs_refs, controls_refs, items_refs, reads_refs, inside_doall, refs, outside}
use Rattle.cdc_along.specs.Sections.{LiesInSection, EachInOrder}
use Rattle.cdc_along.proofs.Ranges.{in_turn, range_lies, ranges_inside, stepped_inside}
use Rattle.cdc_along.proofs.Words.{placed, object_narrow, here, no_dummy, IsElementWord, slots_after, store_after, held_same, held_other, held_beside}

pub in_left : {A : Type 0} (a : A) (xs ys : List A) → IsIn a xs → IsIn a (xs ++ ys)
in_left a [] ys h = absurd h
in_left a (x ∷ xs) ys (inl e) = inl e
in_left a (x ∷ xs) ys (inr h) = inr (in_left a xs ys h)

pub in_right : {A : Type 0} (a : A) (xs ys : List A) → IsIn a ys → IsIn a (xs ++ ys)
in_right a [] ys h = h
in_right a (x ∷ xs) ys h = inr (in_right a xs ys h)

pub few_is : (n count : ℕ) → few n ≡ Ok count → count ≡ n
few_is n count e = go (nat_lt (2 ^ 20) n) e
  where
    or_too_large : Bool → Got ℕ
    or_too_large b = if b then Err TripTooLarge else Ok n

    go : (b : Bool) → or_too_large b ≡ Ok count → count ≡ n
    go true e = cc
    go false e = cc

-- what can stand in a DOALL has none
pub no_doall : (x : Stmt) → HasOnly ⊥ ⊥ ⊥ x → (number slots : ℕ) (k : Control) (body : Stmt) → IsDoallIn number k slots body x → ⊥
no_doall Skip only number slots k body h = h
no_doall (Seq x y) only number slots k body (inl h) = no_doall x only.0 number slots k body h
no_doall (Seq x y) only number slots k body (inr h) = no_doall y only.1 number slots k body h
no_doall (Assign line y value) only number slots k body h = h
no_doall (If arms) only number slots k body h = no_doall arms only number slots k body h
no_doall (Arm line cond x other) only number slots k body (inl h) = no_doall x only.0 number slots k body h
no_doall (Arm line cond x other) only number slots k body (inr h) = no_doall other only.1 number slots k body h
no_doall (Do control first x again bump) only number slots k body h = no_doall x only number slots k body h
no_doall (Doall control n many x) only number slots k body h = only
no_doall (Call line n u actuals) only number slots k body h = h
no_doall (Print line items) only number slots k body h = h
no_doall (Read line targets) only number slots k body h = h

pub all_tail : {A : Type 0} (P : A → Type 0) (x : A) (xs : List A) → All P (x ∷ xs) → All P xs
all_tail P x xs h = λ k d lt. h (suc k) d (omega (arith, lt))

any_head : {A : Type 0} {P : A → Type 0} (x : A) (xs : List A) → P x → Any P (x ∷ xs)
any_head x xs h = (0, x, omega arith, refl, h)

any_tail : {A : Type 0} {P : A → Type 0} (x : A) (xs : List A) → Any P xs → Any P (x ∷ xs)
any_tail x xs (k, y, lt, is, h) = (suc k, y, omega (arith, lt), is, h)

module _ (p : Program) (r : IsResolved p) where
  abbrev b : Binding
  b = here p r

  -- the references of the program
  abbrev all : List Spot
  all = refs outside (body_of p p.main)

  abbrev AreOf : List Spot → Type 0
  AreOf qs = (q : Spot) → IsIn q qs → IsIn q all

  abbrev Lies : (writes : Bool) → (path : List ℕ) → (site word : ℕ) → Type 0
  Lies = LiesInSection p

  -- the indexes of a scope lie in their ranges, which end after whole steps
  record Fits (sc : Scope) (c : Surroundings) (t : Store) : Type 0 where
    stepped : AreStepped sc.indexes
    ranges : InRanges sc.indexes (held b c t)

  -- ---- one reference
  -- the element that a reference names where it fits its scope is in the section
  lies_at : (v : Var) (site : ℕ) (place : Place) (sc : Scope) (writes : Bool) (subs : Exprs) (c : Surroundings) (t : Store) (vs : List ℤ) (n w : ℕ)
      → IsIn (spot sc writes (record { var = v; site = site; place = place }) subs) all → IsThere b v → Fits sc c t → Values b c t subs vs → element (dims_of b v) vs ≡ Ok n → base_of b v + n ≡ w → Lies writes [] site w
  lies_at (var.Slot k) site place sc writes subs c t vs n w is there f values found at = absurd there
  lies_at (var.Dummy k) site place sc writes subs c t vs n w is there f values found at = absurd (no_dummy p r k there)
  lies_at (var.Object k) site place sc writes subs c t vs n w is there f values found at =
      let dims = dims_in (slice_get p.objects k) in
      let (zs, are) = placed dims vs n found in
      record {
        object = k;
        section = section sc subs dims;
        touches = record {
          unit = p.main;
          bound = [];
          under = (refl, refl);
          at = spot sc writes (record { var = var.Object k; site = site; place = place }) subs;
          stands = is;
          kind = refl;
          site_is = refl;
          object_is = refl;
          section_is = refl;
        };
        subs = vs;
        number = n;
        positions = zs;
        is_word = (there, element_within dims vs n found, at);
        named = found;
        placed = are;
        inside = named_of {E = FaultKind} (Ok (section sc subs dims)) sc subs dims refl b c t vs zs f.stepped f.ranges values are (object_narrow p r k there);
      }

  scalar_lies : (sc : Scope) (writes : Bool) (at : Ref) (slots : ℕ) (c : Surroundings) (t : Store) → IsIn (spot sc writes at Empty) all → IsScalar p.objects b.shapes slots at.var → Fits sc c t → IsThere b at.var → Lies writes [] at.site (base_of b at.var)
  scalar_lies sc writes at slots c t is scalar f there =
      lies_at at.var at.site at.place sc writes Empty c t [] 0 (base_of b at.var) is there f refl (subst (λ ds. element ds [] ≡ Ok 0) (sym scalar.1) refl) (omega arith)

  -- ---- what is known of the surroundings and the store
  abbrev Known : Type 1
  Known = Surroundings → Store → Type 0

  -- what is known holds on after each store that a statement may make
  record KeptBy (x : Stmt) (P : Known) : Type 0 where
    elements : (c : Surroundings) (t : Store) (w : ℕ) (y : ℤ) → IsElementWord p r w → P c t → P c (put t w y)
    scalars : (slots : ℕ) (v : Var) (c : Surroundings) (t : Store) (y : ℤ) → IsScalar p.objects b.shapes slots v → Stores p v x → P c t → P (slots_after p r v y c) (store_after p r v y t)
    inputs : (c : Surroundings) (t : Store) (left : Input) → P c t → P (record { slots = c.slots; input = left }) t

  part_keeps : (x y : Stmt) (P : Known) → ((v : Var) → Stores p v x → Stores p v y) → KeptBy y P → KeptBy x P
  part_keeps x y P more k = record { elements = k.elements; scalars = λ slots v c t z is s. k.scalars slots v c t z is (more v s); inputs = k.inputs }

  held_input : (v : Var) (c : Surroundings) (t : Store) (left : Input) → held b (record { slots = c.slots; input = left }) t v ≡ held b c t v
  held_input (var.Slot k) c t left = refl
  held_input (var.Object k) c t left = refl
  held_input (var.Dummy k) c t left = refl

  -- in serial code a scalar does not stand in the surroundings
  held_serial : (v : Var) (slots : ℕ) → slots ≡ 0 → IsScalar p.objects b.shapes slots v → (c d : Surroundings) (t : Store) → held b d t v ≡ held b c t v
  held_serial (var.Slot k) slots e is c d t = absurd (omega (arith, e, is.0))
  held_serial (var.Object k) slots e is c d t = refl
  held_serial (var.Dummy k) slots e is c d t = refl

  -- the cell into which a target is stored, and what is known of it
  abbrev IsCell : Ref → Exprs → Cell → Type 0
  IsCell at Empty cell = cell ≡ scalar b at
  IsCell at (More e es) cell = (w : ℕ) × (cell ≡ InWord [] at.site w) × Lies true [] at.site w × IsElementWord p r w

  element_word : (v : Var) → IsThere b v → (x : ℤ) (xs : List ℤ) (n : ℕ) → element (dims_of b v) (x ∷ xs) ≡ Ok n → IsElementWord p r (base_of b v + n)
  element_word (var.Object k) there x xs n found = (k, n, x, xs, there, found, refl)
  element_word (var.Dummy k) there x xs n found = absurd (no_dummy p r k there)
  element_word (var.Slot k) there x xs n found = absurd there

  -- ---- processes
  -- each access lies in its section, and where the process ends the store is such a one
  module _ (Kept : Store → Type 0) where
    abbrev Fine : Process → Store → Type 0
    Fine (Load path site w next) s = Lies false path site w × Fine (next (s w)) s
    Fine (Save path site w v next) s = Lies true path site w × Fine next (put s w v)
    Fine (Say piece next) s = Fine next s
    Fine (Tick next) s = Fine next s
    Fine (Fork path number count from by body next) s =
        Kept s × ((k : ℕ) → k < count → EachInOrder Lies (body k) (after k body s) × EachInOrder Lies (body k) s) × Fine next (after count body s)
    Fine Join s = Kept s
    Fine Halt s = Kept s
    Fine (Fail kind line) s = Kept s

    each_lies : (q : Process) (s : Store) → Fine q s → EachInOrder Lies q s
    each_lies (Load path site w next) s h = (h.0, each_lies (next (s w)) s h.1)
    each_lies (Save path site w v next) s h = (h.0, each_lies next (put s w v) h.1)
    each_lies (Say piece next) s h = each_lies next s h
    each_lies (Tick next) s h = each_lies next s h
    each_lies (Fork path number count from by body next) s h = (h.1, each_lies next (after count body s) h.2)
    each_lies Join s h = tt
    each_lies Halt s h = tt
    each_lies (Fail kind line) s h = tt

    kept_of : (q : Process) (s : Store) → Fine q s → Kept (left q s)
    kept_of (Load path site w next) s h = kept_of (next (s w)) s h.1
    kept_of (Save path site w v next) s h = kept_of next (put s w v) h.1
    kept_of (Say piece next) s h = kept_of next s h
    kept_of (Tick next) s h = kept_of next s h
    kept_of (Fork path number count from by body next) s h = h.0
    kept_of Join s h = h
    kept_of Halt s h = h
    kept_of (Fail kind line) s h = h

    or_fail_fine : {A : Type 0} (line : ℕ) (g : Got A) (rest : A → Process) (t : Store) → Kept t → ((a : A) → g ≡ Ok a → Fine (rest a) t) → Fine (or_fail line g rest) t
    or_fail_fine line (Ok a) rest t k h = h a refl
    or_fail_fine line (Err kind) rest t k h = k

    -- ---- expressions
    fetch_fine : (slots site : ℕ) (v : Var) (c : Surroundings) (t : Store) (rest : ℤ → Process) → IsVar p.objects b.shapes slots v → (IsThere b v → Lies false [] site (base_of b v)) → ((x : ℤ) → x ≡ held b c t v → Fine (rest x) t)
        → Fine (fetch (scalar_of b site v) c rest) t
    fetch_fine slots site (var.Slot k) c t rest is lies h = h _ refl
    fetch_fine slots site (var.Object k) c t rest is lies h = (lies is, h _ refl)
    fetch_fine slots site (var.Dummy k) c t rest is lies h = (lies is, h _ refl)

    keep_fine : (slots site : ℕ) (v : Var) (x : ℤ) (c : Surroundings) (t : Store) (rest : Surroundings → Process) → IsVar p.objects b.shapes slots v → (IsThere b v → Lies true [] site (base_of b v))
        → Fine (rest (slots_after p r v x c)) (store_after p r v x t) → Fine (keep (scalar_of b site v) x c rest) t
    keep_fine slots site (var.Slot k) x c t rest is lies h = h
    keep_fine slots site (var.Object k) x c t rest is lies h = (lies is, h)
    keep_fine slots site (var.Dummy k) x c t rest is lies h = (lies is, h)

    -- an array is in memory
    there_of : (slots : ℕ) (v : Var) (e : Expr) (es : Exprs) → IsVar p.objects b.shapes slots v → SubsFit p.objects b.shapes slots (dims_at p.objects b.shapes v) (More e es) → IsThere b v
    there_of slots (var.Object k) e es is f = is
    there_of slots (var.Dummy k) e es is f = is
    there_of slots (var.Slot k) e es is f = absurd f

    mutual
      expr_fine : (e : Expr) (slots : ℕ) (sc : Scope) (line : ℕ) (c : Surroundings) (t : Store) (rest : ℤ → Process) → ExprFits p.objects b.shapes slots e → Fits sc c t → Kept t → AreOf (expr_refs sc e)
          → ((v : ℤ) → Value b c t e v → Fine (rest v) t) → Fine (expr b line e c rest) t
      expr_fine (Number n) slots sc line c t rest f m k a h = h n refl
      expr_fine (Scalar at) slots sc line c t rest f m k a h = fetch_fine slots at.site at.var c t rest f.0 (scalar_lies sc false at slots c t (a (spot sc false at Empty) (inl refl)) f m) h
      expr_fine (Element at Empty) slots sc line c t rest f m k a h = absurd f
      expr_fine (Element at (More e es)) slots sc line c t rest f m k a h =
          let own_spot = spot sc false at (More e es) in
          exprs_fine (More e es) slots (dims_at p.objects b.shapes at.var) sc line c t (λ vs. or_fail line (element (dims_of b at.var) vs) (λ n. Load b.path at.site (base_of b at.var + n) rest)) f.1 m k
          (λ q i. a q (in_left q (exprs_refs sc (More e es)) (own_spot ∷ []) i)) (λ vs vals.
          or_fail_fine line (element (dims_of b at.var) vs) (λ n. Load b.path at.site (base_of b at.var + n) rest) t k (λ n found. (
            lies_at at.var at.site at.place sc false (More e es) c t vs n (base_of b at.var + n) (a own_spot (in_right own_spot (exprs_refs sc (More e es)) (own_spot ∷ []) (inl refl))) (there_of slots at.var e es f.0 f.1) m vals found refl,
            h (t (base_of b at.var + n)) (vs, n, vals, found, refl),
          )))
      expr_fine (Un op x) slots sc line c t rest f m k a h =
          expr_fine x slots sc line c t _ f m k a (λ v val. or_fail_fine line (unary op v) rest t k (λ w q. h w (v, val, q)))
      expr_fine (Bin op x y) slots sc line c t rest f m k a h =
          expr_fine x slots sc line c t _ f.0 m k (λ q i. a q (in_left q (expr_refs sc x) _ i)) (λ v val.
          expr_fine y slots sc line c t _ f.1 m k (λ q i. a q (in_right q (expr_refs sc x) _ i)) (λ w wal.
          or_fail_fine line (binary op v w) rest t k (λ z q. h z (v, w, val, wal, q))))

      exprs_fine : (es : Exprs) (slots : ℕ) (ds : List Dim) (sc : Scope) (line : ℕ) (c : Surroundings) (t : Store) (rest : List ℤ → Process) → SubsFit p.objects b.shapes slots ds es → Fits sc c t → Kept t → AreOf (exprs_refs sc es)
          → ((vs : List ℤ) → Values b c t es vs → Fine (rest vs) t) → Fine (exprs b line es c rest) t
      exprs_fine Empty slots ds sc line c t rest f m k a h = h [] refl
      exprs_fine (More e es) slots [] sc line c t rest f m k a h = absurd f
      exprs_fine (More e es) slots (d ∷ ds) sc line c t rest f m k a h =
          expr_fine e slots sc line c t _ f.0 m k (λ q i. a q (in_left q (expr_refs sc e) _ i)) (λ v val.
          exprs_fine es slots ds sc line c t _ f.1 m k (λ q i. a q (in_right q (expr_refs sc e) _ i)) (λ vs vals.
          h (v ∷ vs) (v, vs, val, vals, refl)))

    controls_fine : (k : Control) (slots : ℕ) (sc : Scope) (c : Surroundings) (t : Store) (rest : ℤ → ℤ → ℕ → Process) → ControlFits p.objects b.shapes slots k → Fits sc c t → Kept t → AreOf (controls_refs sc k)
        → ((m1 m2 m3 : ℤ) (n : ℕ) → Value b c t k.from m1 → Value b c t k.to m2 → Value b c t k.by m3 → trips m1 m2 m3 ≡ Ok n → Fine (rest m1 m3 n) t) → Fine (controls b k c rest) t
    controls_fine k slots sc c t rest f m kept a h =
        expr_fine k.from slots sc k.line c t _ f.0 m kept (λ q i. a q (in_left q (expr_refs sc k.from) _ i)) (λ m1 v1.
        expr_fine k.to slots sc k.line c t _ f.1 m kept (λ q i. a q (in_right q (expr_refs sc k.from) _ (in_left q (expr_refs sc k.to) _ i))) (λ m2 v2.
        expr_fine k.by slots sc k.line c t _ f.2 m kept (λ q i. a q (in_right q (expr_refs sc k.from) _ (in_right q (expr_refs sc k.to) _ i))) (λ m3 v3.
        or_fail_fine k.line (trips m1 m2 m3) (λ n. rest m1 m3 n) t kept (λ n q. h m1 m2 m3 n v1 v2 v3 q))))

    -- ---- targets
    target_fine : (at : Ref) (subs : Exprs) (slots : ℕ) (sc : Scope) (line : ℕ) (c : Surroundings) (t : Store) (rest : Cell → Process) → SpotFits p.objects b.shapes slots at.var subs → Fits sc c t → Kept t → AreOf (exprs_refs sc subs)
        → IsIn (spot sc true at subs) all
        → ((cell : Cell) → IsCell at subs cell → Fine (rest cell) t) → Fine (located b line at subs c rest) t
    target_fine at Empty slots sc line c t rest f m k a own_is h = h (scalar b at) refl
    target_fine at (More e es) slots sc line c t rest f m k a own_is h =
        let cell = λ (n : ℕ). InWord b.path at.site (base_of b at.var + n) in
        let there = there_of slots at.var e es f.0 f.1 in
        exprs_fine (More e es) slots (dims_at p.objects b.shapes at.var) sc line c t (λ vs. or_fail line (element (dims_of b at.var) vs) (λ n. rest (cell n))) f.1 m k a (λ vs vals.
        or_fail_fine line (element (dims_of b at.var) vs) (λ n. rest (cell n)) t k (λ n found.
        h (cell n) (
          base_of b at.var + n,
          refl,
          lies_at at.var at.site at.place sc true (More e es) c t vs n (base_of b at.var + n) own_is there m vals found refl,
          element_word at.var there vals.0 vals.1 n (subst (λ us. element (dims_of b at.var) us ≡ Ok n) vals.4 found),
        )))

    store_fine : (x : Stmt) (P : Known) → KeptBy x P → (at : Ref) (subs : Exprs) → Stores p at.var x → (cell : Cell) → IsCell at subs cell → (slots : ℕ) (sc : Scope) → SpotFits p.objects b.shapes slots at.var subs → IsIn (spot sc true at subs) all
        → (y : ℤ) (c : Surroundings) (t : Store) (rest : Surroundings → Process) → Fits sc c t → P c t → ((d : Surroundings) (u : Store) → P d u → Fine (rest d) u) → Fine (keep cell y c rest) t
    store_fine x P kept at Empty stores cell is slots sc f own_is y c t rest m known h =
        subst (λ i. Fine (keep i y c rest) t) (sym is) (keep_fine slots at.site at.var y c t rest f.0 (scalar_lies sc true at slots c t own_is f m) (h _ _ (kept.scalars slots at.var c t y f stores known)))
    store_fine x P kept at (More e es) stores cell (w, is, lies, word) slots sc f own_is y c t rest m known h =
        subst (λ i. Fine (keep i y c rest) t) (sym is) (lies, h c (put t w y) (kept.elements c t w y word known))

    -- ---- statements
    -- what goes on under what is known goes on so whatever follows
    abbrev GoesOn : Work → Known → Type 0
    GoesOn work P = (c : Surroundings) (t : Store) (rest : Surroundings → Process) → P c t → ((d : Surroundings) (u : Store) → P d u → Fine (rest d) u) → Fine (work c rest) t

    -- where it is known, the scope fits
    abbrev IsKnownIn : Scope → Known → Type 0
    IsKnownIn sc P = (c : Surroundings) (t : Store) → P c t → Fits sc c t × Kept t

    branch_fine : (v : ℤ) (f g : Process) (t : Store) → Fine f t → Fine g t → Fine (branch v f g) t
    branch_fine v f g t h k = go (is_zero v)
      where
        go : (test : Bool) → Fine (if test then g else f) t
        go true = k
        go false = h

    gap_fine : (first : Bool) (f : Process) (t : Store) → Fine f t → Fine (gap first f) t
    gap_fine true f t h = h
    gap_fine false f t h = h

    items_fine : (shown : List Item) (slots : ℕ) (sc : Scope) (line : ℕ) (first : Bool) (c : Surroundings) (t : Store) (rest : Process) → All (ItemFits p.objects b.shapes slots (length p.texts)) shown → Fits sc c t → Kept t
        → AreOf (items_refs sc shown) → Fine rest t
        → Fine (items b line first shown c rest) t
    items_fine [] slots sc line first c t rest f m k a h = h
    items_fine (Text number ∷ more) slots sc line first c t rest f m k a h = gap_fine first _ t (items_fine more slots sc line false c t rest (all_tail (ItemFits p.objects b.shapes slots (length p.texts)) (Text number) more f) m k a h)
    items_fine (Shown value ∷ more) slots sc line first c t rest f m k a h =
        expr_fine value slots sc line c t _ (f 0 (Shown value) (omega arith)) m k (λ q i. a q (in_left q (expr_refs sc value) _ i)) (λ v val.
        gap_fine first _ t (items_fine more slots sc line false c t rest (all_tail (ItemFits p.objects b.shapes slots (length p.texts)) (Shown value) more f) m k (λ q i. a q (in_right q (expr_refs sc value) _ i)) h))

    reads_fine : (x : Stmt) (P : Known) → KeptBy x P → (slots : ℕ) (sc : Scope) → IsKnownIn sc P → (line : ℕ) (ts : List Target) → ((v : Var) → Any (λ y. y.at.var ≡ v) ts → Stores p v x) → All (TargetFits p.objects b.shapes slots) ts → AreOf (reads_refs sc ts)
        → GoesOn (reads b line ts) P
    reads_fine x P kept slots sc m line [] stores f a c t rest known h = or_fail_fine line (end_record c.input) _ t (m c t known).1 (λ left e. h _ t (kept.inputs c t left known))
    reads_fine x P kept slots sc m line (y ∷ more) stores f a c t rest known h =
        let fits : TargetFits p.objects b.shapes slots y = f 0 y (omega arith) in
        let own_spot = spot sc true y.at y.subs in
        let own_is : IsIn own_spot all = a own_spot (in_right own_spot (exprs_refs sc y.subs) _ (inl refl)) in
        let (here_fits, here_kept) = m c t known in
        target_fine y.at y.subs slots sc line c t _ fits here_fits here_kept (λ q i. a q (in_left q (exprs_refs sc y.subs) _ i)) own_is (λ cell is.
        or_fail_fine line (take c.input) _ t here_kept (λ got e.
        let d : Surroundings = record { slots = c.slots; input = got.1 } in
        let still = kept.inputs c t got.1 known in
        store_fine x P kept y.at y.subs (stores y.at.var (any_head y more refl)) cell is slots sc fits own_is got.0 d t _ (m d t still).0 still (λ d' u known'.
        reads_fine x P kept slots sc m line more (λ v i. stores v (any_tail y more i)) (all_tail (TargetFits p.objects b.shapes slots) y more f) (λ q i. a q (in_right q (exprs_refs sc y.subs) _ (inr i))) d' u rest known' h)))

    -- ---- the turns of a DO
    module _ (x : Stmt) (P : Known) (kept : KeptBy x P) (slots : ℕ) (sc : Scope) (m : IsKnownIn sc P) (line : ℕ) (first again bump : Ref) (scalar_is : IsScalar p.objects b.shapes slots first.var) (is_again : again.var ≡ first.var)
        (is_bump : bump.var ≡ first.var)
        (stores : Stores p first.var x) (a : AreOf (spot sc false again Empty ∷ spot sc true bump Empty ∷ [])) (m1 m3 : ℤ) where
      -- in turn j the variable has its value
      abbrev InTurn : ℕ → Known
      InTurn j c t = P c t × (held b c t first.var ≡ in_turn m1 m3 j)

      raise_fine : (j : ℕ) (c : Surroundings) (t : Store) (rest : Surroundings → Process) → InTurn j c t → ((d : Surroundings) (u : Store) → InTurn (suc j) d u → Fine (rest d) u) → Fine (raise b line again bump m3 c rest) t
      raise_fine j c t rest known h =
          let again_scalar = subst (λ v. IsScalar p.objects b.shapes slots v) (sym is_again) scalar_is in
          let bump_scalar = subst (λ v. IsScalar p.objects b.shapes slots v) (sym is_bump) scalar_is in
          let (here_fits, here_kept) = m c t known.0 in
          fetch_fine slots again.site again.var c t _ again_scalar.0 (scalar_lies sc false again slots c t (a _ (inl refl)) again_scalar here_fits) (λ z is.
          or_fail_fine line (binary Add z m3) _ t here_kept (λ y e.
          keep_fine slots bump.site bump.var y c t rest bump_scalar.0 (scalar_lies sc true bump slots c t (a _ (inr (inl refl))) bump_scalar here_fits)
          (h (slots_after p r bump.var y c) (store_after p r bump.var y t) (
            kept.scalars slots bump.var c t y bump_scalar (subst (λ v. Stores p v x) (sym is_bump) stores) known.0,
            subst (λ v. held b (slots_after p r bump.var y c) (store_after p r bump.var y t) v ≡ y) is_bump (held_same p r bump.var y c t) ∙ next j c t z y (is ∙ ap (held b c t) is_again ∙ known.1) e,
          ))))
        where
          next : (j : ℕ) (c : Surroundings) (t : Store) (z y : ℤ) → z ≡ in_turn m1 m3 j → binary Add z m3 ≡ Ok y → y ≡ in_turn m1 m3 (suc j)
          next j c t z y is e =
              let s : y ≡ z +ℤ m3 = exact_of (z +ℤ m3) y e in
              let n = mul-pos-suc j m3 in
              omega (arith, ints)

      turns_fine : (body : Work) (count : ℕ) → ((j : ℕ) → j < count → GoesOn body (InTurn j)) → (n j : ℕ) → n + j ≡ count → (c : Surroundings) (t : Store) (rest : Surroundings → Process) → InTurn j c t
          → ((d : Surroundings) (u : Store) → P d u → Fine (rest d) u)
          → Fine (turns n body (raise b line again bump m3) c rest) t
      turns_fine body count body_fine zero j e c t rest known h = h c t known.0
      turns_fine body count body_fine (suc n) j e c t rest known h =
          body_fine j (omega (arith, e)) c t _ known (λ d u known'.
          raise_fine j d u _ known' (λ d' u' known''.
          turns_fine body count body_fine n (suc j) (omega (arith, e)) d' u' rest known'' h))

      in_turn_kept : (body : Stmt) → ((v : Var) → Stores p v body → Stores p v x) → (Stores p first.var body → ⊥) → (j : ℕ) → KeptBy body (InTurn j)
      in_turn_kept body more unstored j = record {
        elements = λ c t w y is known. (kept.elements c t w y is known.0, held_beside p r first.var slots scalar_is w is y c t ∙ known.1);
        scalars = λ slots' v c t y is s known. (
          kept.scalars slots' v c t y is (more v s) known.0,
          held_other p r first.var v slots slots' scalar_is is (λ e. unstored (subst (λ u. Stores p u body) e s)) y c t ∙ known.1,
        );
        inputs = λ c t left known. (kept.inputs c t left known.0, held_input first.var c t left ∙ known.1);
      }

  -- ---- statements without CALL
  -- no DOALL of these statements stores in its index
  abbrev KeepIndexes : Stmt → Type 0
  KeepIndexes x = (number slots : ℕ) (k : Control) (body : Stmt) → IsDoallIn number k slots body x → Stores p (var.Slot 0) body → ⊥

  -- what these statements must be
  record AreGood (slots : ℕ) (x : Stmt) : Type 0 where
    fits : StmtFits p r.ranks (r.ranks p.main) b.shapes slots x
    loops : DosKeepVariables p x
    indexes : KeepIndexes x

  -- nothing is asked of the store that serial code leaves
  abbrev Always : Store → Type 0
  Always s = Unit {0}

  -- what is known does not speak of the surroundings
  abbrev IsOfStore : Known → Type 0
  IsOfStore P = (c d : Surroundings) (t : Store) → P c t → P d t

  module _ (calls : Calls) where
    -- they go on, whatever is known that fits their scope and that they keep
    abbrev Good : (Kept : Store → Type 0) → (slots : ℕ) → Scope → Known → Stmt → Type 0
    Good Kept slots sc P x = AreGood slots x → AreOf (refs sc x) → IsKnownIn Kept sc P → KeptBy x P → GoesOn Kept (stmt calls b x) P

    module _ (Kept : Store → Type 0) (slots : ℕ) (talks doalls : Type 0) (serial : doalls → slots ≡ 0)
        (doall : doalls → (k : Control) (number many : ℕ) (body : Stmt) (sc : Scope) (P : Known) → IsOfStore P → Good Kept slots sc P (Doall k number many body)) where
      stmt_fine : (x : Stmt) (sc : Scope) (P : Known) → HasOnly talks doalls ⊥ x → (doalls → IsOfStore P) → Good Kept slots sc P x
      stmt_fine Skip sc P only free good a m kept c t rest known h = h c t known
      stmt_fine (Seq x y) sc P only free good a m kept c t rest known h =
          stmt_fine x sc P only.0 free (record { fits = good.fits.0; loops = good.loops.0; indexes = λ n s k z i. good.indexes n s k z (inl i) }) (λ q i. a q (in_left q (refs sc x) (refs sc y) i)) m
          (part_keeps x (Seq x y) P (λ v s. inl s) kept) c t _ known (λ d u known'.
          stmt_fine y sc P only.1 free (record { fits = good.fits.1; loops = good.loops.1; indexes = λ n s k z i. good.indexes n s k z (inr i) }) (λ q i. a q (in_right q (refs sc x) (refs sc y) i)) m
          (part_keeps y (Seq x y) P (λ v s. inr s) kept) d u rest known' h)
      stmt_fine (Assign line y value) sc P only free good a m kept c t rest known h =
          let own_spot = spot sc true y.at y.subs in
          let before = exprs_refs sc y.subs in
          let own_is : IsIn own_spot all = a own_spot (in_right own_spot before _ (in_right own_spot (expr_refs sc value) (own_spot ∷ []) (inl refl))) in
          let (here_fits, here_kept) = m c t known in
          target_fine Kept y.at y.subs slots sc line c t _ good.fits.0 here_fits here_kept (λ q i. a q (in_left q before _ i)) own_is (λ cell is.
          expr_fine Kept value slots sc line c t _ good.fits.1 here_fits here_kept (λ q i. a q (in_right q before _ (in_left q (expr_refs sc value) (own_spot ∷ []) i))) (λ v val.
          store_fine Kept (Assign line y value) P kept y.at y.subs refl cell is slots sc good.fits.0 own_is v c t rest here_fits known h))
      stmt_fine (If arms) sc P only free good a m kept c t rest known h =
          stmt_fine arms sc P only free (record { fits = good.fits; loops = good.loops; indexes = good.indexes }) a m (part_keeps arms (If arms) P (λ v s. s) kept) c t rest known h
      stmt_fine (Arm line cond body other) sc P only free good a m kept c t rest known h =
          let (here_fits, here_kept) = m c t known in
          expr_fine Kept cond slots sc line c t _ good.fits.0 here_fits here_kept (λ q i. a q (in_left q (expr_refs sc cond) _ i)) (λ v val.
          branch_fine Kept v _ _ t
          (stmt_fine body sc P only.0 free (record { fits = good.fits.1; loops = good.loops.0; indexes = λ n s k z i. good.indexes n s k z (inl i) })
          (λ q i. a q (in_right q (expr_refs sc cond) _ (in_left q (refs sc body) (refs sc other) i))) m (part_keeps body (Arm line cond body other) P (λ v s. inl s) kept) c t rest known h)
          (stmt_fine other sc P only.1 free (record { fits = good.fits.2; loops = good.loops.1; indexes = λ n s k z i. good.indexes n s k z (inr i) })
          (λ q i. a q (in_right q (expr_refs sc cond) _ (in_right q (refs sc body) (refs sc other) i))) m (part_keeps other (Arm line cond body other) P (λ v s. inr s) kept) c t rest known h))
      stmt_fine (Do k first body again bump) sc P only free good a m kept c t rest known h =
          let inner = inside sc (index_of k first) in
          let raised = spot sc false again Empty ∷ spot sc true bump Empty ∷ [] in
          let whole = Do k first body again bump in
          let first_is : IsIn (spot sc true first Empty) all = a _ (in_right _ (controls_refs sc k) _ (inl refl)) in
          let unstored : Stores p first.var body → ⊥ = λ s. good.loops.0 (inl s) in
          let (here_fits, here_kept) = m c t known in
          controls_fine Kept k slots sc c t _ good.fits.0 here_fits here_kept (λ q i. a q (in_left q (controls_refs sc k) _ i)) (λ m1 m2 m3 n v1 v2 v3 e.
          let InTurnNow : ℕ → Known = λ j d u. P d u × (held b d u first.var ≡ in_turn m1 m3 j) in
          keep_fine Kept slots first.site first.var m1 c t _ good.fits.1.0 (scalar_lies sc true first slots c t first_is good.fits.1 here_fits)
          (turns_fine Kept whole P kept slots sc m k.line first again bump good.fits.1 good.fits.2 good.fits.3 (inl refl) (λ q i. a q (in_right q (controls_refs sc k) _ (inr (in_right q (refs inner body) raised i)))) m1 m3
          (stmt calls b body) n (λ j lt.
          stmt_fine body inner (InTurnNow j) only (λ s c' d' u' known'. (free s c' d' u' known'.0, held_serial first.var slots (serial s) good.fits.1 c' d' u' ∙ known'.1))
          (record { fits = good.fits.4; loops = good.loops.1; indexes = good.indexes })
          (λ q i. a q (in_right q (controls_refs sc k) _ (inr (in_left q (refs inner body) raised i))))
          (λ d u known'. let (outer_fits, outer_kept) = m d u known'.0 in (
            record {
              stepped = stepped_inside first.var k sc.indexes outer_fits.stepped;
              ranges = ranges_inside (index_of k first) sc.indexes (held b d u) (subst (λ z. LiesInRange (range_of k) z) (sym known'.1) (range_lies b c t k m1 m2 m3 n j v1 v2 v3 e lt)) outer_fits.ranges;
            },
            outer_kept,
          ))
          (in_turn_kept Kept whole P kept slots sc m k.line first again bump good.fits.1 good.fits.2 good.fits.3 (inl refl) (λ q i. a q (in_right q (controls_refs sc k) _ (inr (in_right q (refs inner body) raised i)))) m1 m3 body (λ v s. inr s) unstored j))
          n 0 (omega arith) _ _ rest (
            kept.scalars slots first.var c t m1 good.fits.1 (inl refl) known,
            held_same p r first.var m1 c t ∙ omega (arith, ints),
          ) h))
      stmt_fine (Doall k number many body) sc P only free good a m kept c t rest known h = doall only k number many body sc P (free only) good a m kept c t rest known h
      stmt_fine (Call line number u actuals) sc P only free good a m kept c t rest known h = absurd only
      stmt_fine (Print line shown) sc P only free good a m kept c t rest known h =
          let (here_fits, here_kept) = m c t known in
          items_fine Kept shown slots sc line true c t (rest c) good.fits here_fits here_kept a (h c t known)
      stmt_fine (Read line targets) sc P only free good a m kept c t rest known h = reads_fine Kept (Read line targets) P kept slots sc m line targets (λ v i. i) good.fits a c t rest known h

    -- ---- DOALLs of serial code
    module _ (k : Control) (number many : ℕ) (body : Stmt) (sc : Scope) (P : Known) (of_store : IsOfStore P) (good : AreGood 0 (Doall k number many body)) (a : AreOf (refs sc (Doall k number many body))) (m : IsKnownIn Always sc P)
        (kept : KeptBy (Doall k number many body) P)
        (c : Surroundings) (t : Store) (m1 m2 m3 : ℤ) (n : ℕ) (v1 : Value b c t k.from m1) (v2 : Value b c t k.to m2) (v3 : Value b c t k.by m3) (e : trips m1 m2 m3 ≡ Ok n) where
      -- in iteration i the index has its value
      abbrev InIteration : ℕ → Known
      InIteration i d u = P d u × (d.slots 0 ≡ in_turn m1 m3 i)

      abbrev iteration : ℕ → Process
      iteration i = Tick (stmt calls b body (beginning m1 m3 i c) (λ d. Join))

      iteration_fine : (i : ℕ) → i < n → (u : Store) → P c u → Fine (λ s. P c s) (iteration i) u
      iteration_fine i lt u known =
          stmt_fine (λ s. P c s) many ⊥ ⊥ (λ x. absurd x) (λ x. absurd x) body (inside_doall sc k) (InIteration i) good.fits.3 (λ x. absurd x)
          (record { fits = good.fits.4; loops = good.loops; indexes = λ number' slots k' z is. absurd (no_doall body good.fits.3 number' slots k' z is) })
          (λ q h. a q (in_right q (controls_refs sc k) _ h))
          (λ d s there. let outer = (m d s there.0).0 in (
            record {
              stepped = stepped_inside own k sc.indexes outer.stepped;
              ranges = ranges_inside (record { var = own; range = range_of k }) sc.indexes (held b d s) (subst (λ z. LiesInRange (range_of k) z) (sym there.1) (range_lies b c t k m1 m2 m3 n i v1 v2 v3 e lt)) outer.ranges;
            },
            of_store d c s there.0,
          ))
          (record {
            elements = λ d s w y is there. (kept.elements d s w y is there.0, there.1);
            scalars = λ slots v d s y is stores there. (
              kept.scalars slots v d s y is stores there.0,
              held_other p r own v 1 slots (omega arith, refl) is (λ same. good.indexes number many k body (refl, refl, refl, refl) (subst (λ z. Stores p z body) same stores)) y d s ∙ there.1,
            );
            inputs = λ d s left there. (kept.inputs d s left there.0, there.1);
          })
          (beginning m1 m3 i c) u (λ d. Join) (of_store c (beginning m1 m3 i c) u known, put_same zeros 0 (in_turn m1 m3 i)) (λ d s there. of_store d c s there.0)

      kept_after : (i : ℕ) → (i < suc n) → P c t → P c (after i iteration t)
      kept_after zero lt known = known
      kept_after (suc i) lt known = kept_of (λ s. P c s) (iteration i) (after i iteration t) (iteration_fine i (omega (arith, lt)) (after i iteration t) (kept_after i (omega (arith, lt)) known))

      fork_fine : (path : List ℕ) (next : Process) → P c t → ((u : Store) → P c u → Fine Always next u) → Fine Always (Fork path number n m1 m3 iteration next) t
      fork_fine path next known h = (
        tt,
        λ i lt. (
          each_lies (λ s. P c s) (iteration i) (after i iteration t) (iteration_fine i lt (after i iteration t) (kept_after i (omega (arith, lt)) known)),
          each_lies (λ s. P c s) (iteration i) t (iteration_fine i lt t known),
        ),
        h (after n iteration t) (kept_after n (omega arith) known),
      )

    doall_fine : (k : Control) (number many : ℕ) (body : Stmt) (sc : Scope) (P : Known) → IsOfStore P → Good Always 0 sc P (Doall k number many body)
    doall_fine k number many body sc P of_store good a m kept c t rest known h =
        let begun = λ (m1 m3 : ℤ) (i : ℕ). Tick (stmt calls b body (beginning m1 m3 i c) (λ d. Join)) in
        controls_fine Always k 0 sc c t _ good.fits.1 (m c t known).0 tt (λ q i. a q (in_left q (controls_refs sc k) _ i)) (λ m1 m2 m3 n v1 v2 v3 e.
        or_fail_fine Always k.line (few n) (λ count. Fork b.path number count m1 m3 (begun m1 m3) (rest c)) t tt (λ count few_are.
        subst (λ i. Fine Always (Fork b.path number i m1 m3 (begun m1 m3) (rest c)) t) (sym (few_is n count few_are))
        (fork_fine k number many body sc P of_store good a m kept c t m1 m2 m3 n v1 v2 v3 e b.path (rest c) known (h c))))

  -- ---- the program
  main_fine : (deep : ℕ) → p.main < deep → HasNoCall p → KeepsLoopVariables p → KeepsIndexes p → (c : Surroundings) (s : Store) → EachInOrder Lies (unit p deep [] p.main [] c (λ d. Halt)) s
  main_fine zero lt none loops indexes c s = absurd (omega (arith, lt))
  main_fine (suc deep) lt none loops indexes c s =
      let calls : Calls = λ number. unit p deep (number ∷ []) in
      let everywhere : Known = λ d t. Unit {0} in
      each_lies Always (stmt calls b (body_of p p.main) c (λ d. Halt)) s (stmt_fine calls Always 0 (Unit {0}) (Unit {0}) (λ x. refl) (λ x. doall_fine calls) (body_of p p.main) outside everywhere (none p.main) (λ x d f t h. tt)
      (record { fits = r.fits p.main r.main; loops = loops p.main; indexes = λ number slots k body. indexes p.main number slots k body })
      (λ q h. h)
      (λ d t h. (record { stepped = λ v x is. cc; ranges = λ v x is. cc }, tt))
      (record { elements = λ d t w y is h. tt; scalars = λ slots v d t y is stores h. tt; inputs = λ d t left h. tt })
      c s (λ d. Halt) tt (λ d t h. tt))

pub program_in_sections : (p : Program) (records : Input) (s : Store) → IsResolved p → HasNoCall p → KeepsLoopVariables p → KeepsIndexes p → EachInOrder (LiesInSection p) (process_of p records) s
program_in_sections p records s r none loops indexes = main_fine p r (length p.units) r.main none loops indexes (record { slots = zeros; input = records }) s
