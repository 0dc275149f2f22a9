-- A covered read is of a word that its task has accessed.
use Rattle.std.proofs.Common.{◌≡◌, ℕ, zero, suc, ◌+◌, ◌<◌, ◌≤◌, Bool, true, false, if◌then◌else◌, List, [], ◌∷◌, ◌++◌, ℤ, Ok, Err, length, ◌⊎◌, inl, inr, refl, sym, ap, ◌∙◌, subst, append_assoc, arith}
use Rattle.std.specs.List.{All, AllByRecursion}
use Rattle.std.proofs.lemmas.List.Elements.{recursion_from_All}
use Rattle.cdc_base.specs.declared.place.Place.{Place}
use Rattle.cdc_prog.specs.declared.expr.Ref.{Ref}
use Rattle.cdc_prog.specs.declared.expr.Var.{Var}
use Rattle.cdc_prog.specs.declared.expr.Var.TheVariants as var
use Rattle.cdc_prog.specs.declared.expr.BinOp.TheVariants.{Add}
use Rattle.cdc_prog.specs.declared.program.Dim.{Dim}
use Rattle.cdc_prog.specs.Plain.{Expr, Number, Scalar, Element, Un, Bin, Exprs, Empty, More, Target, Item, Text, Value as Shown, Control, Stmt, Skip, Seq, Assign, If, Arm, Do, Doall, Call, Print, Read, Program}
use Rattle.cdc_prog.specs.Value.{Got, unary, binary, is_zero, trips, few}
use Rattle.cdc_prog.specs.Data.{Store, put, zeros, Binding, dims_at, dims_of, base_of, element}
use Rattle.cdc_prog.specs.Input.{Input, take, end_record}
use Rattle.cdc_prog.specs.Process.{Process, Load, Save, Say, Tick, Fork, Join, Halt, Fail, or_fail}
use Rattle.cdc_prog.specs.Expressions.{Surroundings, Cell, InSlot, InWord, scalar_of, scalar, fetch, keep, expr, exprs, located}
use Rattle.cdc_prog.specs.Statements.{Work, Calls, controls, raise, turns, branch, gap, items, reads, beginning, stmt}
use Rattle.cdc_prog.specs.Units.{body_of, unit, process_of}
use Rattle.cdc_prog.specs.Bodies.{HasOnly}
use Rattle.cdc_prog.specs.Resolved.{IsVar, IsScalar, ExprFits, SubsFit, SpotFits, ControlFits, TargetFits, ItemFits, StmtFits, IsResolved, HasNoCall}
use Rattle.cdc_prog.specs.Dependence.{Spot, spot}
use Rattle.cdc_prog.specs.Iterations.{held, Value, Values, IsIn, IsThere}
use Rattle.cdc_prog.specs.Sameness.{SubsAreSame}
use Rattle.cdc_path.specs.References.{expr_refs, exprs_refs, store_ref, controls_refs, items_refs, reads_refs, refs, outside}
use Rattle.cdc_path.specs.Covers.{ArePlain, Keeps, Covers, straight, HasRun, HasCover}
use Rattle.cdc_along.specs.Sites.{times_at, SitesStandOnce}
use Rattle.cdc_along.proofs.Words.{here, no_dummy, IsElementWord, slots_after, store_after, held_other, held_beside}
use Rattle.cdc_along.proofs.Values.{Mentions, values_one, values_same, plain_same, mention_same, values_kept}
use Rattle.cdc_along.proofs.Sites.{times_append, member_stands, do_times, doall_times, covered_stands, straight_within, run_stands, one_place, one_unit, unit_once}
use Rattle.cdc_along.proofs.InSections.{in_left, in_right, all_tail}

-- the words of which some hold what is said of accessed ones
abbrev pub Words : Type 1
Words = ℕ → Type 0

-- with one word more
abbrev pub and_word : ℕ → Words → Words
and_word x T w = (x ≡ w) ⊎ T w

-- a task that has accessed such words reads, where the site has a cover, a word that it has accessed
abbrev pub CoversHold : Program → Words → Process → Store → Type 0
CoversHold p T (Load path site word next) s = (1 ≤ site → HasCover p site → T word) × CoversHold p (and_word word T) (next (s word)) s
CoversHold p T (Save path site word v next) s = CoversHold p (and_word word T) next (put s word v)
CoversHold p T (Say piece next) s = CoversHold p T next s
CoversHold p T (Tick next) s = CoversHold p T next s
CoversHold p T (Fork path number count from by body next) s = ((k : ℕ) → k < count → (u : Store) → CoversHold p (λ w. ⊥) (body k) u) × ((u : Store) → CoversHold p (λ w. ⊥) next u)
CoversHold p T Join s = Unit {0}
CoversHold p T Halt s = Unit {0}
CoversHold p T (Fail kind line) s = Unit {0}

regroup : (xs ys zs ws : List Spot) → xs ++ ((ys ++ zs) ++ ws) ≡ xs ++ (ys ++ (zs ++ ws))
regroup xs ys zs ws = simp append_assoc

moved_on : (xs : List Spot) (q : Spot) (ys : List Spot) → xs ++ (q ∷ ys) ≡ (xs ++ (q ∷ [])) ++ ys
moved_on xs q ys = sym (simp append_assoc)

split_on : (xs : List Spot) (q : Spot) (ys zs : List Spot) → xs ++ (q ∷ (ys ++ zs)) ≡ (xs ++ (q ∷ ys)) ++ zs
split_on xs q ys zs = sym (simp append_assoc)

module _ (p : Program) (r : IsResolved p) where
  abbrev b : Binding
  b = here p r

  -- ---- what earlier references of the same run of statements name
  -- a reference names this word now
  abbrev Names : Surroundings → Store → Spot → ℕ → Type 0
  Names c t q w = (vs : List ℤ) × (n : ℕ) × Values b c t q.subs vs × (element (dims_of b q.at.var) vs ≡ Ok n) × (base_of b q.at.var + n ≡ w)

  abbrev Fit : Spot → Type 0
  Fit q = (slots : ℕ) × (ds : List Dim) × SubsFit p.objects b.shapes slots ds q.subs

  -- what the first of these references names now has been accessed, where the later ones keep its subscripts
  abbrev Entry : Words → Surroundings → Store → Spot → List Spot → Type 0
  Entry T c t q later = ArePlain q.subs → AllByRecursion (Keeps q.subs) later → IsThere b q.at.var → (w : ℕ) → Names c t q w → T w

  abbrev Passed : Words → Surroundings → Store → List Spot → Type 0
  Passed T c t [] = Unit {0}
  Passed T c t (q ∷ later) = Fit q × Entry T c t q later × Passed T c t later

  -- the values of subscripts come from those before
  abbrev Comes : (c d : Surroundings) (t u : Store) → Spot → Type 0
  Comes c d t u q = (vs : List ℤ) → Values b d u q.subs vs → Values b c t q.subs vs

  names_before : (c d : Surroundings) (t u : Store) (q : Spot) (w : ℕ) → Comes c d t u q → Names d u q w → Names c t q w
  names_before c d t u q w comes (vs, n, vals, found, at) = (vs, n, comes vs vals, found, at)

  front : (P : Spot → Type 0) (xs : List Spot) (q : Spot) → AllByRecursion P (xs ++ (q ∷ [])) → AllByRecursion P xs × P q
  front P [] q h = (tt, h.0)
  front P (x ∷ xs) q h = let r = front P xs q h.1 in ((h.0, r.0), r.1)

  -- one reference more is passed
  pass : (h : List Spot) (q : Spot) (T T' : Words) (c d : Surroundings) (t u : Store) → ((w : ℕ) → T w → T' w) → ((x : Spot) → Fit x → ArePlain x.subs → Keeps x.subs q → Comes c d t u x)
      → Fit q → (ArePlain q.subs → IsThere b q.at.var → (w : ℕ) → Names d u q w → T' w) → Passed T c t h → Passed T' d u (h ++ (q ∷ []))
  pass [] q T T' c d t u more comes fit new inv = (fit, λ plain kept there w names. new plain there w names, tt)
  pass (x ∷ h) q T T' c d t u more comes fit new (fits, entry, inv) = (
    fits,
    λ plain kept there w names. let (earlier, last) = front (Keeps x.subs) h q kept in more w (entry plain earlier there w (names_before c d t u x w (comes x fits plain last) names)),
    pass h q T T' c d t u more comes fit new inv,
  )

  renew : (h : List Spot) (T : Words) (c d : Surroundings) (t : Store) → ((x : Spot) → Fit x → ArePlain x.subs → Comes c d t t x) → Passed T c t h → Passed T d t h
  renew [] T c d t comes inv = tt
  renew (x ∷ h) T c d t comes (fits, entry, inv) =
      (fits, λ plain kept there w names. entry plain kept there w (names_before c d t t x w (comes x fits plain) names), renew h T c d t comes inv)

  entry_at : (before : List Spot) (q : Spot) (later : List Spot) (T : Words) (c : Surroundings) (t : Store) → Passed T c t (before ++ (q ∷ later)) → Entry T c t q later
  entry_at [] q later T c t inv = inv.1
  entry_at (x ∷ before) q later T c t inv = entry_at before q later T c t inv.2

  one_word : (q : Spot) (c : Surroundings) (t : Store) (vs : List ℤ) (n w : ℕ) → Values b c t q.subs vs → element (dims_of b q.at.var) vs ≡ Ok n → Names c t q w → base_of b q.at.var + n ≡ w
  one_word q c t vs n w vals found (us, m, wals, gound, at) =
      let same : vs ≡ us = values_one b c t q.subs vs us vals wals in
      let other : element (dims_of b q.at.var) vs ≡ Ok m = subst (λ l. element (dims_of b q.at.var) l ≡ Ok m) (sym same) gound in
      let number : n ≡ m = (let e = found in cc) in
      ap (λ k. base_of b q.at.var + k) number ∙ at

  -- ---- a run of statements
  module _ (run : List Spot) (once : (site : ℕ) → 1 ≤ site → times_at site run ≤ 1) where
    -- if the read has a cover, it has it in this run
    abbrev IsSeen : Spot → Type 0
    IsSeen q = 1 ≤ q.at.site → HasCover p q.at.site → Covers q.at.site run

    covered : (q : Spot) (h tail : List Spot) (T : Words) (c : Surroundings) (t : Store) (w : ℕ) → run ≡ h ++ (q ∷ tail) → IsSeen q → Passed T c t h → IsThere b q.at.var → Names c t q w → 1 ≤ q.at.site → HasCover p q.at.site → T w
    covered q h tail T c t w e seen inv there (vs, n, vals, found, at) lt has =
        let k = seen lt has in
        let site = q.at.site in
        let (same, is) = one_place site h (k.before ++ (k.cover ∷ k.between)) q k.read tail k.after (sym e ∙ k.in_order ∙ split_on k.before k.cover k.between (k.read ∷ k.after)) refl k.site_is (subst (λ l. times_at site l ≤ 1) e (once site lt)) in
        let variable : k.cover.at.var ≡ q.at.var = k.variable ∙ ap (λ (x : Spot). x.at.var) (sym is) in
        let subs : SubsAreSame k.cover.subs q.subs = subst (λ (x : Spot). SubsAreSame k.cover.subs x.subs) (sym is) k.same in
        let plain : ArePlain q.subs = subst (λ (x : Spot). ArePlain x.subs) (sym is) k.plain in
        let kept : AllByRecursion (Keeps q.subs) k.between = subst (λ (x : Spot). AllByRecursion (Keeps x.subs) k.between) (sym is) (recursion_from_All (Keeps k.read.subs) k.between k.kept) in
        entry_at k.before k.cover k.between T c t (subst (Passed T c t) same inv) (plain_same k.cover.subs q.subs subs plain) (kept_same k.cover.subs q.subs subs k.between kept) (subst (λ v. IsThere b v) (sym variable) there) w (
          vs,
          n,
          values_same b c t k.cover.subs q.subs vs subs vals,
          subst (λ v. element (dims_of b v) vs ≡ Ok n) (sym variable) found,
          ap (λ v. base_of b v + n) variable ∙ at,
        )
      where
        kept_same : (es fs : Exprs) → SubsAreSame es fs → (xs : List Spot) → AllByRecursion (Keeps fs) xs → AllByRecursion (Keeps es) xs
        kept_same es fs same [] h = tt
        kept_same es fs same (x ∷ xs) h = (λ writes mentions. h.0 writes (mention_same x.at.var es fs same mentions), kept_same es fs same xs h.1)

    -- what follows goes on, wherever in the run it is
    abbrev Next : Surroundings → Store → (tail : List Spot) → Process → Type 1
    Next c t tail q = (T : Words) (h : List Spot) → run ≡ h ++ tail → Passed T c t h → CoversHold p T q t

    or_fail_covered : {A : Type 0} (line : ℕ) (g : Got A) (rest : A → Process) (T : Words) (t : Store) → ((a : A) → g ≡ Ok a → CoversHold p T (rest a) t) → CoversHold p T (or_fail line g rest) t
    or_fail_covered line (Ok a) rest T t h = h a refl
    or_fail_covered line (Err kind) rest T t h = tt

    -- a read changes nothing of what other references name
    read_passed : (q : Spot) (h : List Spot) (T : Words) (c : Surroundings) (t : Store) (vs : List ℤ) (n w : ℕ) → Fit q → Values b c t q.subs vs → element (dims_of b q.at.var) vs ≡ Ok n → base_of b q.at.var + n ≡ w → Passed T c t h
        → Passed (and_word w T) c t (h ++ (q ∷ []))
    read_passed q h T c t vs n w fit vals found at inv = pass h q T (and_word w T) c c t t (λ x i. inr i) (λ x fits plain keeps us f. f) fit (λ plain there x names. inl (sym at ∙ one_word q c t vs n x vals found names)) inv

    fetch_covered : (slots : ℕ) (v : Var) (site : ℕ) (place : Place) (c : Surroundings) (t : Store) (rest : ℤ → Process) (tail : List Spot) (T : Words) (h : List Spot) → let q = spot outside false (record { var = v; site = site; place = place }) Empty in
        IsScalar p.objects b.shapes slots v → IsSeen q → run ≡ h ++ (q ∷ tail) → Passed T c t h → ((x : ℤ) → x ≡ held b c t v → Next c t tail (rest x)) → CoversHold p T (fetch (scalar_of b site v) c rest) t
    fetch_covered slots (var.Slot k) site place c t rest tail T h is seen e inv next =
        let q = spot outside false (record { var = var.Slot k; site = site; place = place }) Empty in
        next _ refl T (h ++ (q ∷ [])) (e ∙ moved_on h q tail) (pass h q T T c c t t (λ w i. i) (λ x fits plain keeps us f. f) (slots, [], tt) (λ plain there w names. absurd there) inv)
    fetch_covered slots (var.Dummy k) site place c t rest tail T h is seen e inv next = absurd (no_dummy p r k is.0)
    fetch_covered slots (var.Object k) site place c t rest tail T h is seen e inv next =
        let q = spot outside false (record { var = var.Object k; site = site; place = place }) Empty in
        let found : element (dims_of b (var.Object k)) [] ≡ Ok 0 = subst (λ ds. element ds [] ≡ Ok 0) (sym is.1) refl in (
          covered q h tail T c t (base_of b (var.Object k)) e seen inv is.0 ([], 0, refl, found, omega arith),
          next _ refl (and_word (base_of b (var.Object k)) T) (h ++ (q ∷ [])) (e ∙ moved_on h q tail) (read_passed q h T c t [] 0 (base_of b (var.Object k)) (slots, [], tt) refl found (omega arith) inv),
        )

    -- an array is in memory
    there_of : (slots : ℕ) (v : Var) (e : Expr) (es : Exprs) → IsVar p.objects b.shapes slots v → SubsFit p.objects b.shapes slots (dims_at p.objects b.shapes v) (More e es) → IsThere b v
    there_of slots (var.Object k) e es is f = is
    there_of slots (var.Dummy k) e es is f = is
    there_of slots (var.Slot k) e es is f = absurd f

    abbrev AreSeen : List Spot → Type 0
    AreSeen qs = (q : Spot) → IsIn q qs → IsSeen q

    mutual
      expr_covered : (e : Expr) (slots line : ℕ) (c : Surroundings) (t : Store) (rest : ℤ → Process) (tail : List Spot) (T : Words) (h : List Spot) → ExprFits p.objects b.shapes slots e → AreSeen (expr_refs outside e)
          → run ≡ h ++ (expr_refs outside e ++ tail) → Passed T c t h
          → ((v : ℤ) → Value b c t e v → Next c t tail (rest v)) → CoversHold p T (expr b line e c rest) t
      expr_covered (Number n) slots line c t rest tail T h fits seen e inv next = next n refl T h e inv
      expr_covered (Scalar at) slots line c t rest tail T h fits seen e inv next =
          fetch_covered slots at.var at.site at.place c t rest tail T h fits (seen (spot outside false at Empty) (inl refl)) e inv next
      expr_covered (Element at Empty) slots line c t rest tail T h fits seen e inv next = absurd fits
      expr_covered (Element at (More x xs)) slots line c t rest tail T h fits seen e inv next =
          let q = spot outside false at (More x xs) in
          let before = exprs_refs outside (More x xs) in
          let there = there_of slots at.var x xs fits.0 fits.1 in
          exprs_covered (More x xs) slots (dims_at p.objects b.shapes at.var) line c t (λ vs. or_fail line (element (dims_of b at.var) vs) (λ n. Load b.path at.site (base_of b at.var + n) rest)) (q ∷ tail) T h fits.1
          (λ y i. seen y (in_left y before (q ∷ []) i)) (e ∙ regroup h before (q ∷ []) tail) inv (λ vs vals T' h' e' inv'.
          or_fail_covered line (element (dims_of b at.var) vs) (λ n. Load b.path at.site (base_of b at.var + n) rest) T' t (λ n found. (
            covered q h' tail T' c t (base_of b at.var + n) e' (seen q (in_right q before (q ∷ []) (inl refl))) inv' there (vs, n, vals, found, refl),
            next (t (base_of b at.var + n)) (vs, n, vals, found, refl) (and_word (base_of b at.var + n) T') (h' ++ (q ∷ [])) (e' ∙ moved_on h' q tail)
                (read_passed q h' T' c t vs n (base_of b at.var + n) (slots, dims_at p.objects b.shapes at.var, fits.1) vals found refl inv'),
          )))
      expr_covered (Un op a) slots line c t rest tail T h fits seen e inv next =
          expr_covered a slots line c t _ tail T h fits seen e inv (λ v val T' h' e' inv'. or_fail_covered line (unary op v) rest T' t (λ w is. next w (v, val, is) T' h' e' inv'))
      expr_covered (Bin op a d) slots line c t rest tail T h fits seen e inv next =
          expr_covered a slots line c t _ (expr_refs outside d ++ tail) T h fits.0 (λ y i. seen y (in_left y (expr_refs outside a) (expr_refs outside d) i)) (e ∙ regroup h (expr_refs outside a) (expr_refs outside d) tail) inv (λ v val T' h' e' inv'.
          expr_covered d slots line c t _ tail T' h' fits.1 (λ y i. seen y (in_right y (expr_refs outside a) (expr_refs outside d) i)) e' inv' (λ w wal T'' h'' e'' inv''.
          or_fail_covered line (binary op v w) rest T'' t (λ z is. next z (v, w, val, wal, is) T'' h'' e'' inv'')))

      exprs_covered : (es : Exprs) (slots : ℕ) (ds : List Dim) (line : ℕ) (c : Surroundings) (t : Store) (rest : List ℤ → Process) (tail : List Spot) (T : Words) (h : List Spot) → SubsFit p.objects b.shapes slots ds es
          → AreSeen (exprs_refs outside es) → run ≡ h ++ (exprs_refs outside es ++ tail) → Passed T c t h
          → ((vs : List ℤ) → Values b c t es vs → Next c t tail (rest vs)) → CoversHold p T (exprs b line es c rest) t
      exprs_covered Empty slots ds line c t rest tail T h fits seen e inv next = next [] refl T h e inv
      exprs_covered (More x xs) slots [] line c t rest tail T h fits seen e inv next = absurd fits
      exprs_covered (More x xs) slots (d ∷ ds) line c t rest tail T h fits seen e inv next =
          expr_covered x slots line c t _ (exprs_refs outside xs ++ tail) T h fits.0 (λ y i. seen y (in_left y (expr_refs outside x) (exprs_refs outside xs) i)) (e ∙ regroup h (expr_refs outside x) (exprs_refs outside xs) tail) inv (λ v val T' h' e' inv'.
          exprs_covered xs slots ds line c t _ tail T' h' fits.1 (λ y i. seen y (in_right y (expr_refs outside x) (exprs_refs outside xs) i)) e' inv' (λ vs vals.
          next (v ∷ vs) (v, vs, val, vals, refl)))

    controls_covered : (k : Control) (slots : ℕ) (c : Surroundings) (t : Store) (rest : ℤ → ℤ → ℕ → Process) (tail : List Spot) (T : Words) (h : List Spot) → ControlFits p.objects b.shapes slots k → AreSeen (controls_refs outside k)
        → run ≡ h ++ (controls_refs outside k ++ tail) → Passed T c t h
        → ((m1 m3 : ℤ) (n : ℕ) → Next c t tail (rest m1 m3 n)) → CoversHold p T (controls b k c rest) t
    controls_covered k slots c t rest tail T h fits seen e inv next =
        let a = expr_refs outside k.from in
        let d = expr_refs outside k.to in
        let f = expr_refs outside k.by in
        expr_covered k.from slots k.line c t _ ((d ++ f) ++ tail) T h fits.0 (λ y i. seen y (in_left y a (d ++ f) i)) (e ∙ regroup h a (d ++ f) tail) inv (λ m1 v1 T' h' e' inv'.
        expr_covered k.to slots k.line c t _ (f ++ tail) T' h' fits.1 (λ y i. seen y (in_right y a (d ++ f) (in_left y d f i))) (e' ∙ regroup h' d f tail) inv' (λ m2 v2 T'' h'' e'' inv''.
        expr_covered k.by slots k.line c t _ tail T'' h'' fits.2 (λ y i. seen y (in_right y a (d ++ f) (in_right y d f i))) e'' inv'' (λ m3 v3 T''' h''' e''' inv'''.
        or_fail_covered k.line (trips m1 m2 m3) (λ n. rest m1 m3 n) T''' t (λ n is. next m1 m3 n T''' h''' e''' inv'''))))

    -- ---- targets
    -- the cell of a target, and the element that it names
    abbrev IsCell : Surroundings → Store → Ref → Exprs → Cell → Type 0
    IsCell c t at Empty cell = cell ≡ scalar b at
    IsCell c t at (More x xs) cell = (vs : List ℤ) × (n : ℕ) × Values b c t (More x xs) vs × (element (dims_of b at.var) vs ≡ Ok n) × (cell ≡ InWord [] at.site (base_of b at.var + n))

    target_covered : (at : Ref) (subs : Exprs) (slots line : ℕ) (c : Surroundings) (t : Store) (rest : Cell → Process) (tail : List Spot) (T : Words) (h : List Spot) → SpotFits p.objects b.shapes slots at.var subs
        → AreSeen (exprs_refs outside subs) → run ≡ h ++ (exprs_refs outside subs ++ tail) → Passed T c t h
        → ((cell : Cell) → IsCell c t at subs cell → Next c t tail (rest cell)) → CoversHold p T (located b line at subs c rest) t
    target_covered at Empty slots line c t rest tail T h fits seen e inv next = next (scalar b at) refl T h e inv
    target_covered at (More x xs) slots line c t rest tail T h fits seen e inv next =
        let cell = λ (n : ℕ). InWord b.path at.site (base_of b at.var + n) in
        exprs_covered (More x xs) slots (dims_at p.objects b.shapes at.var) line c t (λ vs. or_fail line (element (dims_of b at.var) vs) (λ n. rest (cell n))) tail T h fits.1 seen e inv (λ vs vals T' h' e' inv'.
        or_fail_covered line (element (dims_of b at.var) vs) (λ n. rest (cell n)) T' t (λ n found. next (cell n) (vs, n, vals, found, refl) T' h' e' inv'))

    element_word : (v : Var) → IsThere b v → (e : Exprs) (x : Expr) (xs : Exprs) (c : Surroundings) (t : Store) (vs : List ℤ) (n : ℕ) → Values b c t (More x xs) vs → element (dims_of b v) vs ≡ Ok n → IsElementWord p r (base_of b v + n)
    element_word (var.Object k) there e x xs c t vs n vals found = (k, n, vals.0, vals.1, there, subst (λ us. element (dims_of b (var.Object k)) us ≡ Ok n) vals.4 found, refl)
    element_word (var.Dummy k) there e x xs c t vs n vals found = absurd (no_dummy p r k there)
    element_word (var.Slot k) there e x xs c t vs n vals found = absurd there

    -- a store of a scalar changes nothing but that
    keep_covered : (slots : ℕ) (v : Var) (site : ℕ) (place : Place) (y : ℤ) (c : Surroundings) (t : Store) (rest : Surroundings → Process) (tail : List Spot) (T : Words) (h : List Spot)
        → let q = spot outside true (record { var = v; site = site; place = place }) Empty in
        IsScalar p.objects b.shapes slots v → run ≡ h ++ (q ∷ tail) → Passed T c t h → ((d : Surroundings) (u : Store) → Next d u tail (rest d)) → CoversHold p T (keep (scalar_of b site v) y c rest) t
    keep_covered slots v site place y c t rest tail T h is e inv next = go v is e
      where
        agrees : (v : Var) → IsScalar p.objects b.shapes slots v → (x : Spot) → Fit x → ArePlain x.subs → Keeps x.subs (spot outside true (record { var = v; site = site; place = place }) Empty) → Comes c (slots_after p r v y c) t (store_after p r v y t) x
        agrees v is x (many, ds, fits) plain keeps vs vals =
            values_kept b many c (slots_after p r v y c) t (store_after p r v y t) x.subs ds vs fits plain (λ w mentions scalar_is. held_other p r w v many slots scalar_is is (λ same. keeps refl (subst (λ z. Mentions z x.subs) (sym same) mentions)) y c t) vals

        go : (v : Var) → IsScalar p.objects b.shapes slots v → run ≡ h ++ (spot outside true (record { var = v; site = site; place = place }) Empty ∷ tail) → CoversHold p T (keep (scalar_of b site v) y c rest) t
        go (var.Slot k) is e =
            let q = spot outside true (record { var = var.Slot k; site = site; place = place }) Empty in
            next _ _ T (h ++ (q ∷ [])) (e ∙ moved_on h q tail) (pass h q T T c (slots_after p r (var.Slot k) y c) t t (λ w i. i) (agrees (var.Slot k) is) (slots, [], tt) (λ plain there w names. absurd there) inv)
        go (var.Dummy k) is e = absurd (no_dummy p r k is.0)
        go (var.Object k) is e =
            let q = spot outside true (record { var = var.Object k; site = site; place = place }) Empty in
            let found : element (dims_of b (var.Object k)) [] ≡ Ok 0 = subst (λ ds. element ds [] ≡ Ok 0) (sym is.1) refl in
            let w = base_of b (var.Object k) in
            let zero_th : w + 0 ≡ w = omega arith in
            next _ _ (and_word w T) (h ++ (q ∷ [])) (e ∙ moved_on h q tail)
            (pass h q T (and_word w T) c c t (put t w y) (λ x i. inr i) (agrees (var.Object k) is) (slots, [], tt) (λ plain there x names. inl (sym zero_th ∙ one_word q c (put t w y) [] 0 x refl found names)) inv)

    held_input : (v : Var) (c : Surroundings) (left : Input) (u : Store) → held b (record { slots = c.slots; input = left }) u v ≡ held b c u v
    held_input (var.Slot k) c left u = refl
    held_input (var.Object k) c left u = refl
    held_input (var.Dummy k) c left u = refl

    input_passed : (T : Words) (h : List Spot) (c : Surroundings) (left : Input) (t : Store) → Passed T c t h → Passed T (record { slots = c.slots; input = left }) t h
    input_passed T h c left t inv =
        renew h T c (record { slots = c.slots; input = left }) t (λ x fit plain vs vals. values_kept b fit.0 c (record { slots = c.slots; input = left }) t t x.subs fit.1 vs fit.2 plain (λ w mentions scalar_is. held_input w c left t) vals) inv

    -- a store into a target, which was found before the input went on
    store_covered : (at : Ref) (subs : Exprs) (cell : Cell) (slots : ℕ) (y : ℤ) (c : Surroundings) (left : Input) (t : Store) (rest : Surroundings → Process) (tail : List Spot) (T : Words) (h : List Spot) → IsCell c t at subs cell
        → SpotFits p.objects b.shapes slots at.var subs
        → run ≡ h ++ (store_ref outside at subs ++ tail) → Passed T c t h → ((d : Surroundings) (u : Store) → Next d u tail (rest d)) → CoversHold p T (keep cell y (record { slots = c.slots; input = left }) rest) t
    store_covered at subs cell slots y c left t rest tail T h is fits e inv next = go subs is fits e
      where
        go : (es : Exprs) → IsCell c t at es cell → SpotFits p.objects b.shapes slots at.var es → run ≡ h ++ (store_ref outside at es ++ tail) → CoversHold p T (keep cell y (record { slots = c.slots; input = left }) rest) t
        go Empty is fits e =
            subst (λ z. CoversHold p T (keep z y (record { slots = c.slots; input = left }) rest) t) (sym is)
            (keep_covered slots at.var at.site at.place y (record { slots = c.slots; input = left }) t rest tail T h fits e (input_passed T h c left t inv) next)
        go (More x xs) (vs, n, vals, found, is) fits e =
            let q = spot outside true at (More x xs) in
            let ds = dims_at p.objects b.shapes at.var in
            let w = base_of b at.var + n in
            let there = there_of slots at.var x xs fits.0 fits.1 in
            let word = element_word at.var there (More x xs) x xs c t vs n vals found in
            let after : Surroundings = record { slots = c.slots; input = left } in
            let comes : (z : Spot) → Fit z → ArePlain z.subs → Comes c after t (put t w y) z =
            λ z fit plain us f. values_kept b fit.0 c (record { slots = c.slots; input = left }) t (put t w y) z.subs fit.1 us fit.2 plain (λ v mentions scalar_is. held_input v c left (put t w y) ∙ held_beside p r v fit.0 scalar_is w word y c t) f in
            let own : Fit q = (slots, ds, fits.1) in
            subst (λ z. CoversHold p T (keep z y (record { slots = c.slots; input = left }) rest) t) (sym is)
            (next _ _ (and_word w T) (h ++ (q ∷ [])) (e ∙ moved_on h q tail) (pass h q T (and_word w T) c after t (put t w y) (λ z i. inr i) (λ z fit plain keeps. comes z fit plain) own
            (λ plain here_is z names. inl (one_word q c t vs n z vals found (names_before c after t (put t w y) q z (comes q own plain) names))) inv))

    -- ---- the statements of a run
    gap_covered : (first : Bool) (T : Words) (q : Process) (t : Store) → CoversHold p T q t → CoversHold p T (gap first q) t
    gap_covered true T q t h = h
    gap_covered false T q t h = h

    items_covered : (shown : List Item) (slots line : ℕ) (first : Bool) (c : Surroundings) (t : Store) (rest : Process) (tail : List Spot) (T : Words) (h : List Spot) → All (ItemFits p.objects b.shapes slots (length p.texts)) shown
        → AreSeen (items_refs outside shown) → run ≡ h ++ (items_refs outside shown ++ tail) → Passed T c t h
        → Next c t tail rest → CoversHold p T (items b line first shown c rest) t
    items_covered [] slots line first c t rest tail T h fits seen e inv next = next T h e inv
    items_covered (Text number ∷ more) slots line first c t rest tail T h fits seen e inv next =
        gap_covered first T _ t (items_covered more slots line false c t rest tail T h (all_tail (ItemFits p.objects b.shapes slots (length p.texts)) (Text number) more fits) seen e inv next)
    items_covered (Shown value ∷ more) slots line first c t rest tail T h fits seen e inv next =
        let a = expr_refs outside value in
        let d = items_refs outside more in
        expr_covered value slots line c t _ (d ++ tail) T h (fits 0 (Shown value) (omega arith)) (λ y i. seen y (in_left y a d i)) (e ∙ regroup h a d tail) inv (λ v val T' h' e' inv'.
        gap_covered first T' _ t (items_covered more slots line false c t rest tail T' h' (all_tail (ItemFits p.objects b.shapes slots (length p.texts)) (Shown value) more fits) (λ y i. seen y (in_right y a d i)) e' inv' next))

    reads_covered : (ts : List Target) (slots line : ℕ) (c : Surroundings) (t : Store) (rest : Surroundings → Process) (tail : List Spot) (T : Words) (h : List Spot) → All (TargetFits p.objects b.shapes slots) ts
        → AreSeen (reads_refs outside ts) → run ≡ h ++ (reads_refs outside ts ++ tail) → Passed T c t h
        → ((d : Surroundings) (u : Store) → Next d u tail (rest d)) → CoversHold p T (reads b line ts c rest) t
    reads_covered [] slots line c t rest tail T h fits seen e inv next = or_fail_covered line (end_record c.input) _ T t (λ left is. next _ t T h e (input_passed T h c left t inv))
    reads_covered (y ∷ more) slots line c t rest tail T h fits seen e inv next =
        let a = exprs_refs outside y.subs in
        let s = store_ref outside y.at y.subs in
        let d = reads_refs outside more in
        let here_fits : TargetFits p.objects b.shapes slots y = fits 0 y (omega arith) in
        target_covered y.at y.subs slots line c t _ ((s ++ d) ++ tail) T h here_fits (λ z i. seen z (in_left z a (s ++ d) i)) (e ∙ regroup h a (s ++ d) tail) inv (λ cell is T' h' e' inv'.
        or_fail_covered line (take c.input) _ T' t (λ got took.
        store_covered y.at y.subs cell slots got.0 c got.1 t _ (d ++ tail) T' h' is here_fits (e' ∙ regroup h' s d tail) inv' (λ d' u T'' h'' e'' inv''.
        reads_covered more slots line d' u rest tail T'' h'' (all_tail (TargetFits p.objects b.shapes slots) y more fits) (λ z i. seen z (in_right z a (s ++ d) (in_right z s d i))) e'' inv'' next)))

    module _ (calls : Calls) where
      -- a statement of a run hands on where it is in the run
      abbrev IsPassing : Stmt → Type 1
      IsPassing x =
          (slots : ℕ) (c : Surroundings) (t : Store) (rest : Surroundings → Process) (tail : List Spot) (T : Words) (h : List Spot) → StmtFits p r.ranks (r.ranks p.main) b.shapes slots x → AreSeen (refs outside x)
          → run ≡ h ++ (refs outside x ++ tail) → Passed T c t h
          → ((d : Surroundings) (u : Store) → Next d u tail (rest d)) → CoversHold p T (stmt calls b x c rest) t

      assign_passing : (line : ℕ) (y : Target) (value : Expr) → IsPassing (Assign line y value)
      assign_passing line y value slots c t rest tail T h fits seen e inv next =
          let a = exprs_refs outside y.subs in
          let d = expr_refs outside value in
          let s = store_ref outside y.at y.subs in
          target_covered y.at y.subs slots line c t _ ((d ++ s) ++ tail) T h fits.0 (λ z i. seen z (in_left z a (d ++ s) i)) (e ∙ regroup h a (d ++ s) tail) inv (λ cell is T' h' e' inv'.
          expr_covered value slots line c t _ (s ++ tail) T' h' fits.1 (λ z i. seen z (in_right z a (d ++ s) (in_left z d s i))) (e' ∙ regroup h' d s tail) inv' (λ v val T'' h'' e'' inv''.
          store_covered y.at y.subs cell slots v c c.input t rest tail T'' h'' is fits.0 e'' inv'' next))

      print_passing : (line : ℕ) (shown : List Item) → IsPassing (Print line shown)
      print_passing line shown slots c t rest tail T h fits seen e inv next = items_covered shown slots line true c t (rest c) tail T h fits seen e inv (next c t)

      read_passing : (line : ℕ) (targets : List Target) → IsPassing (Read line targets)
      read_passing line targets slots c t rest tail T h fits seen e inv next = reads_covered targets slots line c t rest tail T h fits seen e inv next

  -- ---- statements
  -- in statements that go on a run whose earlier references are h, each site stands once, and a read that has a cover has it in the run or in the statements
  record Here (h : List Spot) (x : Stmt) : Type 0 where
    once : (site : ℕ) → 1 ≤ site → times_at site h + times_at site (refs outside x) ≤ 1
    covers : (site : ℕ) → 1 ≤ site → 1 ≤ times_at site (refs outside x) → HasCover p site → Covers site (h ++ straight x) ⊎ HasRun (Covers site) x

  -- a run that ends before a statement has no cover for it
  ended : (h : List Spot) (x : Stmt) (site : ℕ) → Here h x → straight x ≡ [] → 1 ≤ site → 1 ≤ times_at site (refs outside x) → Covers site (h ++ straight x) → ⊥
  ended h x site here_is empty lt stands cover =
      omega (arith, covered_stands site (h ++ straight x) cover, times_append site h (straight x), ap (times_at site) empty, here_is.once site lt, stands)

  part_here : (h : List Spot) (x y : Stmt) (others : ℕ → ℕ) → Here h x → straight x ≡ [] → ((site : ℕ) → times_at site (refs outside y) + others site ≤ times_at site (refs outside x))
      → ((site : ℕ) → HasRun (Covers site) x → HasRun (Covers site) y ⊎ (1 ≤ others site)) → Here [] y
  part_here h x y others here_is empty less how = record {
    once = λ site lt. omega (arith, here_is.once site lt, less site);
    covers = λ site lt stands has. inr (
        elim (here_is.covers site lt (omega (arith, stands, less site)) has) [
          | inl cover ↦ absurd (ended h x site here_is empty lt (omega (arith, stands, less site)) cover)
          | inr found ↦ elim (how site found) [ inl g ↦ g | inr o ↦ absurd (omega (arith, o, stands, less site, here_is.once site lt)) ]
        ]);
  }

  -- references of a statement that are in no run of it have no cover
  none_seen : (h : List Spot) (x : Stmt) (qs : List Spot) (others : ℕ → ℕ) → Here h x → straight x ≡ [] → ((site : ℕ) → times_at site qs + others site ≤ times_at site (refs outside x)) → ((site : ℕ) → HasRun (Covers site) x → 1 ≤ others site)
      → (run : List Spot) (q : Spot) → IsIn q qs → 1 ≤ q.at.site → HasCover p q.at.site → Covers q.at.site run
  none_seen h x qs others here_is empty less how run q is lt has =
      let stands : 1 ≤ times_at q.at.site (refs outside x) = omega (arith, member_stands q qs is, less q.at.site) in
      elim (here_is.covers q.at.site lt stands has) [
        | inl cover ↦ absurd (ended h x q.at.site here_is empty lt stands cover)
        | inr found ↦ absurd (omega (arith, how q.at.site found, member_stands q qs is, less q.at.site, here_is.once q.at.site lt))
      ]

  longer : (site : ℕ) (h rs : List Spot) → Covers site rs → Covers site (h ++ rs)
  longer site h rs k = record {
    before = h ++ k.before;
    cover = k.cover;
    between = k.between;
    read = k.read;
    after = k.after;
    in_order = ap (λ l. h ++ l) k.in_order ∙ sym (append_assoc_of h k.before (k.cover ∷ (k.between ++ (k.read ∷ k.after))));
    reads = k.reads;
    site_is = k.site_is;
    variable = k.variable;
    same = k.same;
    plain = k.plain;
    kept = k.kept;
  }
    where
      append_assoc_of : (xs ys zs : List Spot) → (xs ++ ys) ++ zs ≡ xs ++ (ys ++ zs)
      append_assoc_of xs ys zs = simp append_assoc

  keep_free : (cell : Cell) (y : ℤ) (c : Surroundings) (t : Store) (T : Words) (rest : Surroundings → Process) → ((T' : Words) (d : Surroundings) (u : Store) → CoversHold p T' (rest d) u) → CoversHold p T (keep cell y c rest) t
  keep_free (InSlot k) y c t T rest h = h _ _ _
  keep_free (InWord path site w) y c t T rest h = h _ _ _

  branch_covered : (v : ℤ) (f g : Process) (T : Words) (t : Store) → CoversHold p T f t → CoversHold p T g t → CoversHold p T (branch v f g) t
  branch_covered v f g T t h k = go (is_zero v)
    where
      go : (test : Bool) → CoversHold p T (if test then g else f) t
      go true = k
      go false = h

  -- what goes on so whatever follows
  abbrev GoesOn : Work → Type 1
  GoesOn work = (T : Words) (c : Surroundings) (t : Store) (rest : Surroundings → Process) → ((T' : Words) (d : Surroundings) (u : Store) → CoversHold p T' (rest d) u) → CoversHold p T (work c rest) t

  turns_covered : (n : ℕ) (body raised : Work) → GoesOn body → GoesOn raised → GoesOn (turns n body raised)
  turns_covered zero body raised f g T c t rest h = h T c t
  turns_covered (suc n) body raised f g T c t rest h = f T c t _ (λ T' d u. g T' d u _ (λ T'' e s. turns_covered n body raised f g T'' e s rest h))

  -- a list of statements that goes on a run
  run_once : (h : List Spot) (x : Stmt) → Here h x → (site : ℕ) → 1 ≤ site → times_at site (h ++ straight x) ≤ 1
  run_once h x here_is site lt = omega (arith, times_append site h (straight x), straight_within site x, here_is.once site lt)

  -- references alone
  alone_once : (h : List Spot) (x : Stmt) (qs : List Spot) → Here h x → ((site : ℕ) → times_at site qs ≤ times_at site (refs outside x)) → (site : ℕ) → 1 ≤ site → times_at site (qs ++ []) ≤ 1
  alone_once h x qs here_is less site lt = omega (arith, times_append site qs [], less site, here_is.once site lt)

  module _ (calls : Calls) where
    abbrev Covered : (slots : ℕ) → Stmt → Type 1
    Covered slots x = (h : List Spot) (T : Words) (c : Surroundings) (t : Store) (rest : Surroundings → Process) → Here h x → Passed T c t h → ((T' : Words) (d : Surroundings) (u : Store) → CoversHold p T' (rest d) u) → CoversHold p T (stmt calls b x c rest) t

    abbrev Passing : Stmt → Type 1
    Passing x = (run : List Spot) (once : (site : ℕ) → 1 ≤ site → times_at site run ≤ 1) → IsPassing run once calls x

    -- a statement of a run by itself
    alone_covered : (x : Stmt) (slots : ℕ) → StmtFits p r.ranks (r.ranks p.main) b.shapes slots x → straight x ≡ [] → ((site : ℕ) → HasRun (Covers site) x → ⊥) → Passing x → Covered slots x
    alone_covered x slots fits empty none passing h T c t rest here_is inv next =
        let run = refs outside x ++ [] in
        passing run (alone_once h x (refs outside x) here_is (λ site. omega arith)) slots c t rest [] T [] fits
        (λ q i. none_seen h x (refs outside x) (λ site. 0) here_is empty (λ site. omega arith) (λ site found. absurd (none site found)) run q i) refl tt (λ d u T' h' e inv'. next T' d u)

    -- a statement of a run, and the statements that go on the run
    seq_straight : (x y : Stmt) (slots : ℕ) → StmtFits p r.ranks (r.ranks p.main) b.shapes slots x → straight (Seq x y) ≡ refs outside x ++ straight y → ((site : ℕ) → HasRun (Covers site) x → ⊥) → Passing x → Covered slots y → Covered slots (Seq x y)
    seq_straight x y slots fits shape none passing goes h T c t rest here_is inv next =
        let run = h ++ straight (Seq x y) in
        passing run (run_once h (Seq x y) here_is) slots c t (λ d. stmt calls b y d rest) (straight y) T h fits seen (ap (λ l. h ++ l) shape) inv (λ d u T' h' e inv'.
        goes h' T' d u rest (record { once = once h' e; covers = covers h' e }) inv' next)
      where
        times : (site : ℕ) → times_at site (refs outside (Seq x y)) ≡ times_at site (refs outside x) + times_at site (refs outside y)
        times site = times_append site (refs outside x) (refs outside y)

        seen : (q : Spot) → IsIn q (refs outside x) → 1 ≤ q.at.site → HasCover p q.at.site → Covers q.at.site (h ++ straight (Seq x y))
        seen q is lt has =
            elim (here_is.covers q.at.site lt (omega (arith, member_stands q (refs outside x) is, times q.at.site)) has) [
              | inl cover ↦ cover
              | inr (inl cover) ↦ longer q.at.site h (straight (Seq x y)) cover
              | inr (inr (inl found)) ↦ absurd (none q.at.site found)
              | inr (inr (inr found)) ↦ absurd (omega (arith, run_stands q.at.site y found, member_stands q (refs outside x) is, times q.at.site, here_is.once q.at.site lt))
            ]

        once : (h' : List Spot) → h ++ straight (Seq x y) ≡ h' ++ straight y → (site : ℕ) → 1 ≤ site → times_at site h' + times_at site (refs outside y) ≤ 1
        once h' e site lt =
            omega (arith, ap (times_at site) e, times_append site h' (straight y), times_append site h (straight (Seq x y)), ap (times_at site) shape, times_append site (refs outside x) (straight y), times site, here_is.once site lt)

        covers : (h' : List Spot) → h ++ straight (Seq x y) ≡ h' ++ straight y → (site : ℕ) → 1 ≤ site → 1 ≤ times_at site (refs outside y) → HasCover p site → Covers site (h' ++ straight y) ⊎ HasRun (Covers site) y
        covers h' e site lt stands has =
            elim (here_is.covers site lt (omega (arith, stands, times site)) has) [
              | inl cover ↦ inl (subst (Covers site) e cover)
              | inr (inl cover) ↦ inl (subst (Covers site) e (longer site h (straight (Seq x y)) cover))
              | inr (inr (inl found)) ↦ absurd (none site found)
              | inr (inr (inr found)) ↦ inr found
            ]

    -- another statement ends the run
    seq_other : (x y : Stmt) (slots : ℕ) → straight (Seq x y) ≡ [] → Covered slots x → Covered slots y → Covered slots (Seq x y)
    seq_other x y slots empty first second h T c t rest here_is inv next =
        first [] T c t (λ d. stmt calls b y d rest)
        (part_here h (Seq x y) x (λ site. times_at site (refs outside y)) here_is empty (λ site. omega (arith, times_append site (refs outside x) (refs outside y))) (λ site found.
        elim found [ inl cover ↦ absurd (nothing site cover) | inr (inl g) ↦ inl g | inr (inr g) ↦ inr (run_stands site y g) ])) tt (λ T' d u.
        second [] T' d u rest
        (part_here h (Seq x y) y (λ site. times_at site (refs outside x)) here_is empty (λ site. omega (arith, times_append site (refs outside x) (refs outside y))) (λ site found.
        elim found [ inl cover ↦ absurd (nothing site cover) | inr (inl g) ↦ inr (run_stands site x g) | inr (inr g) ↦ inl g ])) tt next)
      where
        nothing : (site : ℕ) → Covers site (straight (Seq x y)) → ⊥
        nothing site cover = omega (arith, covered_stands site (straight (Seq x y)) cover, ap (times_at site) empty)

    raise_covered : (slots line : ℕ) (again bump : Ref) (by : ℤ) → IsScalar p.objects b.shapes slots again.var → ((site : ℕ) → 1 ≤ site → times_at site (spot outside false again Empty ∷ []) ≤ 1)
        → ((run : List Spot) → 1 ≤ again.site → HasCover p again.site → Covers again.site run) → GoesOn (raise b line again bump by)
    raise_covered slots line again bump by is once seen T c t rest next =
        let run = spot outside false again Empty ∷ [] in
        fetch_covered run once slots again.var again.site again.place c t _ [] T [] is (seen run) refl tt (λ z same T' h e inv.
        or_fail_covered run once line (binary Add z by) _ T' t (λ y found. keep_free (scalar b bump) y c t T' rest next))

    -- the controls of a loop are in no run
    loop_covered : (h : List Spot) (x : Stmt) (k : Control) (others : ℕ → ℕ) → Here h x → straight x ≡ [] → ((site : ℕ) → times_at site (controls_refs outside k) + others site ≤ times_at site (refs outside x))
        → ((site : ℕ) → HasRun (Covers site) x → 1 ≤ others site)
        → (slots : ℕ) → ControlFits p.objects b.shapes slots k → (T : Words) (c : Surroundings) (t : Store) (rest : ℤ → ℤ → ℕ → Process) → ((T' : Words) (m1 m3 : ℤ) (n : ℕ) → CoversHold p T' (rest m1 m3 n) t) → CoversHold p T (controls b k c rest) t
    loop_covered h x k others here_is empty less how slots fits T c t rest next =
        let run = controls_refs outside k ++ [] in
        controls_covered run (alone_once h x (controls_refs outside k) here_is (λ site. omega (arith, less site))) k slots c t rest [] T [] fits (λ q i. none_seen h x (controls_refs outside k) others here_is empty less how run q i) refl tt
        (λ m1 m3 n T' h' e inv. next T' m1 m3 n)

    few_covered : (T : Words) (t : Store) (line n : ℕ) (rest : ℕ → Process) → ((count : ℕ) → CoversHold p T (rest count) t) → CoversHold p T (or_fail line (few n) rest) t
    few_covered T t line n rest h = go (few n)
      where
        go : (g : Got ℕ) → CoversHold p T (or_fail line g rest) t
        go (Ok a) = h a
        go (Err kind) = tt

    stmt_covered : (x : Stmt) (slots : ℕ) (talks doalls : Type 0) → StmtFits p r.ranks (r.ranks p.main) b.shapes slots x → HasOnly talks doalls ⊥ x → Covered slots x
    stmt_covered Skip slots talks doalls fits only = λ h T c t rest here_is inv next. next T c t
    stmt_covered (Seq (Assign line target value) y) slots talks doalls fits only =
        seq_straight (Assign line target value) y slots fits.0 refl (λ site found. found) (λ run once. assign_passing run once calls line target value) (stmt_covered y slots talks doalls fits.1 only.1)
    stmt_covered (Seq (Print line shown) y) slots talks doalls fits only =
        seq_straight (Print line shown) y slots fits.0 refl (λ site found. found) (λ run once. print_passing run once calls line shown) (stmt_covered y slots talks doalls fits.1 only.1)
    stmt_covered (Seq (Read line targets) y) slots talks doalls fits only =
        seq_straight (Read line targets) y slots fits.0 refl (λ site found. found) (λ run once. read_passing run once calls line targets) (stmt_covered y slots talks doalls fits.1 only.1)
    stmt_covered (Seq Skip y) slots talks doalls fits only = seq_other Skip y slots refl (stmt_covered Skip slots talks doalls fits.0 only.0) (stmt_covered y slots talks doalls fits.1 only.1)
    stmt_covered (Seq (Seq x z) y) slots talks doalls fits only = seq_other (Seq x z) y slots refl (stmt_covered (Seq x z) slots talks doalls fits.0 only.0) (stmt_covered y slots talks doalls fits.1 only.1)
    stmt_covered (Seq (If arms) y) slots talks doalls fits only = seq_other (If arms) y slots refl (stmt_covered (If arms) slots talks doalls fits.0 only.0) (stmt_covered y slots talks doalls fits.1 only.1)
    stmt_covered (Seq (Arm line cond body other) y) slots talks doalls fits only =
        seq_other (Arm line cond body other) y slots refl (stmt_covered (Arm line cond body other) slots talks doalls fits.0 only.0) (stmt_covered y slots talks doalls fits.1 only.1)
    stmt_covered (Seq (Do k first body again bump) y) slots talks doalls fits only =
        seq_other (Do k first body again bump) y slots refl (stmt_covered (Do k first body again bump) slots talks doalls fits.0 only.0) (stmt_covered y slots talks doalls fits.1 only.1)
    stmt_covered (Seq (Doall k number many body) y) slots talks doalls fits only =
        seq_other (Doall k number many body) y slots refl (stmt_covered (Doall k number many body) slots talks doalls fits.0 only.0) (stmt_covered y slots talks doalls fits.1 only.1)
    stmt_covered (Seq (Call line number u actuals) y) slots talks doalls fits only = absurd only.0
    stmt_covered (Assign line target value) slots talks doalls fits only = alone_covered (Assign line target value) slots fits refl (λ site found. found) (λ run once. assign_passing run once calls line target value)
    stmt_covered (Print line shown) slots talks doalls fits only = alone_covered (Print line shown) slots fits refl (λ site found. found) (λ run once. print_passing run once calls line shown)
    stmt_covered (Read line targets) slots talks doalls fits only = alone_covered (Read line targets) slots fits refl (λ site found. found) (λ run once. read_passing run once calls line targets)
    stmt_covered (If arms) slots talks doalls fits only = λ h T c t rest here_is inv next.
        stmt_covered arms slots talks doalls fits only [] T c t rest (part_here h (If arms) arms (λ site. 0) here_is refl (λ site. omega arith) (λ site found. inl found)) tt next
    stmt_covered (Arm line cond body other) slots talks doalls fits only = λ h T c t rest here_is inv next.
        let x = Arm line cond body other in
        let times : (site : ℕ) → times_at site (refs outside x) ≡ times_at site (expr_refs outside cond) + (times_at site (refs outside body) + times_at site (refs outside other)) =
        λ site. times_append site (expr_refs outside cond) (refs outside body ++ refs outside other) ∙ ap (λ n. times_at site (expr_refs outside cond) + n) (times_append site (refs outside body) (refs outside other)) in
        let run = expr_refs outside cond ++ [] in
        expr_covered run (alone_once h x (expr_refs outside cond) here_is (λ site. omega (arith, times site))) cond slots line c t _ [] T [] fits.0
        (λ q i. none_seen h x (expr_refs outside cond) (λ site. times_at site (refs outside body) + times_at site (refs outside other)) here_is refl (λ site. omega (arith, times site))
        (λ site found. elim found [ inl g ↦ omega (arith, run_stands site body g) | inr g ↦ omega (arith, run_stands site other g) ]) run q i) refl tt (λ v val T' h' e inv'.
        branch_covered v _ _ T' t
        (stmt_covered body slots talks doalls fits.1 only.0 [] T' c t rest
        (part_here h x body (λ site. times_at site (refs outside other)) here_is refl (λ site. omega (arith, times site)) (λ site found. elim found [ inl g ↦ inl g | inr g ↦ inr (run_stands site other g) ])) tt next)
        (stmt_covered other slots talks doalls fits.2 only.1 [] T' c t rest
        (part_here h x other (λ site. times_at site (refs outside body)) here_is refl (λ site. omega (arith, times site)) (λ site found. elim found [ inl g ↦ inr (run_stands site body g) | inr g ↦ inl g ])) tt next))
    stmt_covered (Do k first body again bump) slots talks doalls fits only = λ h T c t rest here_is inv next.
        let x = Do k first body again bump in
        let own = spot outside false again Empty in
        let again_is : IsScalar p.objects b.shapes slots again.var = subst (λ v. IsScalar p.objects b.shapes slots v) (sym fits.2) fits.1 in
        let in_body = part_here h x body (λ site. 0) here_is refl (λ site. omega (arith, do_times site k first body again bump)) (λ site found. inl found) in
        loop_covered h x k (λ site. times_at site (refs outside body)) here_is refl (λ site. omega (arith, do_times site k first body again bump)) (λ site found. run_stands site body found) slots fits.0 T c t _ (λ T' m1 m3 n.
        keep_free (scalar b first) m1 c t T' _ (λ T'' d u.
        turns_covered n (stmt calls b body) (raise b k.line again bump m3) (λ T1 c1 t1 rest1 next1. stmt_covered body slots talks doalls fits.4 only [] T1 c1 t1 rest1 in_body tt next1)
        (raise_covered slots k.line again bump m3 again_is (λ site lt. omega (arith, do_times site k first body again bump, here_is.once site lt))
        (λ run. none_seen h x (own ∷ []) (λ site. times_at site (refs outside body)) here_is refl (λ site. omega (arith, do_times site k first body again bump)) (λ site found. run_stands site body found) run own (inl refl)))
        T'' d u rest next))
    stmt_covered (Doall k number many body) slots talks doalls fits only = λ h T c t rest here_is inv next.
        let x = Doall k number many body in
        let in_body = part_here h x body (λ site. 0) here_is refl (λ site. omega (arith, doall_times site k number many body)) (λ site found. inl found) in
        loop_covered h x k (λ site. times_at site (refs outside body)) here_is refl (λ site. omega (arith, doall_times site k number many body)) (λ site found. run_stands site body found) 0 fits.1 T c t _ (λ T' m1 m3 n.
        few_covered T' t k.line n (λ count. Fork b.path number count m1 m3 (λ i. Tick (stmt calls b body (beginning m1 m3 i c) (λ d. Join))) (rest c)) (λ count. (
          λ i lt u. stmt_covered body many ⊥ ⊥ fits.4 fits.3 [] (λ w. ⊥) (beginning m1 m3 i c) u (λ d. Join) in_body tt (λ T'' d s. tt),
          λ u. next (λ w. ⊥) c u,
        )))
    stmt_covered (Call line number u actuals) slots talks doalls fits only = λ h T c t rest here_is inv next. absurd only

  -- ---- the program
  main_here : SitesStandOnce p → Here [] (body_of p p.main)
  main_here sites = record {
    once = λ site lt. omega (arith, unit_once p site p.main sites lt);
    covers = λ site lt stands has. inr (
        let same : has.0 ≡ p.main = one_unit site p.units has.0 p.main (sites site lt) (run_stands site (body_of p has.0) has.1) stands in
        subst (λ u. HasRun (Covers site) (body_of p u)) same has.1);
  }

  main_covered : (deep : ℕ) → p.main < deep → HasNoCall p → SitesStandOnce p → (c : Surroundings) (s : Store) → CoversHold p (λ w. ⊥) (unit p deep [] p.main [] c (λ d. Halt)) s
  main_covered zero lt none sites c s = absurd (omega (arith, lt))
  main_covered (suc deep) lt none sites c s =
      stmt_covered (λ number. unit p deep (number ∷ [])) (body_of p p.main) 0 (Unit {0}) (Unit {0}) (r.fits p.main r.main) (none p.main) [] (λ w. ⊥) c s (λ d. Halt) (main_here sites) tt (λ T d u. tt)

pub program_covered : (p : Program) (records : Input) (s : Store) → IsResolved p → HasNoCall p → SitesStandOnce p → CoversHold p (λ w. ⊥) (process_of p records) s
program_covered p records s r none sites = main_covered p r (length p.units) r.main none sites (record { slots = zeros; input = records }) s
