-- A DOALL that passes the test is parallel.
use Rattle.std.proofs.Common.{◌≡◌, ◌≢◌, ℕ, zero, suc, ◌<◌, Bool, true, false, not, if◌then◌else◌, List, [], ◌∷◌, ◌⊎◌, ℤ, Option, Some, None, Ok, refl, sym, ap, ◌∙◌, subst, inl, inr, arith}
use Rattle.std.specs.Prelude.{◌&&◌, ◌||◌}
use Rattle.std.proofs.lemmas.Bool.{eq-eqb}
use Rattle.cdc_prog.specs.declared.expr.Var.{Var}
use Rattle.cdc_prog.specs.declared.expr.Var.TheVariants as var
use Rattle.cdc_prog.specs.Plain.{Exprs, Empty, More, Control, Stmt}
use Rattle.cdc_prog.specs.Value.{trips}
use Rattle.cdc_prog.specs.Data.{Store, put, zeros, Binding, base_of, dims_of, element}
use Rattle.cdc_prog.specs.Process.{Process, Load, Save, Say, Tick, Fork, Join, Halt, Fail}
use Rattle.cdc_prog.specs.Expressions.{Surroundings}
use Rattle.cdc_prog.specs.Statements.{Calls, beginning}
use Rattle.cdc_prog.specs.Alone.{accesses}
use Rattle.cdc_prog.specs.Apart.{Touches, Writes, AreApart}
use Rattle.cdc_prog.proofs.Numbers.{element_distinct}
use Rattle.cdc_prog.specs.declared.affine.Range.{Range}
use Rattle.cdc_prog.specs.declared.affine.Index.{Index}
use Rattle.cdc_prog.specs.declared.affine.Scope.{Scope}
use Rattle.cdc_prog.specs.Affine.{same_var, index_in, is_in, with_some, constant, form}
use Rattle.cdc_prog.specs.Iterations.{Each, held, Value, Values, InRanges}
use Rattle.cdc_prog.specs.Dependence.{range_of, Spot, spots}
use Rattle.cdc_prog.specs.Iterations.{LiesIn, Lies, IsIn, with_slot, MaySet, IsFixed, IsBody, iteration, IsParallel}
use Rattle.cdc_subtest.specs.Reached.{IsElementWord, IsScalarWord, Fits, Reaches, IsWritten, IsRead}
use Rattle.cdc_prog.specs.Dependence.{range_in, holds, own, tells_apart, are_told_apart}
use Rattle.cdc_prog.specs.Dependence.{scope_of, fails, failing_with, or_first, first_failing, tested}
use Rattle.cdc_affine.proofs.Worth.{constant_is, form_is, form_speaks}
use Rattle.cdc_subtest.proofs.Moments.{in_turn, range_lies, KeptBy, stmt_fine}
use Rattle.cdc_prog.proofs.Alone.{put_other}
use Rattle.cdc_subtest.proofs.Words.{same_object, no_scalar}
use Rattle.cdc_num.proofs.Intervals.{or_true}
use Rattle.cdc_subtest.proofs.Apart.{same_var_of, holds_of, apart_right}

-- ---- what is said of each access holds of the accesses
written_of : (R W : ℕ → ℕ → Type 0) (p : Process) (s : Store) (w : ℕ) → Each R W p s → Writes (accesses p s) w → (site : ℕ) × W site w
written_of R W (Load path site x next) s w h k = written_of R W (next (s x)) s w h.1 k
written_of R W (Save path site x v next) s w h (inl e) = (site, subst (W site) e h.0)
written_of R W (Save path site x v next) s w h (inr k) = written_of R W next (put s x v) w h.1 k
written_of R W (Say piece next) s w h k = written_of R W next s w h k
written_of R W (Tick next) s w h k = written_of R W next s w h k
written_of R W (Fork path number count from by body next) s w h k = absurd k
written_of R W Join s w h k = absurd k
written_of R W Halt s w h k = absurd k
written_of R W (Fail kind line) s w h k = absurd k

touched_of : (R W : ℕ → ℕ → Type 0) (p : Process) (s : Store) (w : ℕ) → Each R W p s → Touches (accesses p s) w → (site : ℕ) × (R site w ⊎ W site w)
touched_of R W (Load path site x next) s w h (inl e) = (site, inl (subst (R site) e h.0))
touched_of R W (Load path site x next) s w h (inr k) = touched_of R W (next (s x)) s w h.1 k
touched_of R W (Save path site x v next) s w h (inl e) = (site, inr (subst (W site) e h.0))
touched_of R W (Save path site x v next) s w h (inr k) = touched_of R W next (put s x v) w h.1 k
touched_of R W (Say piece next) s w h k = touched_of R W next s w h k
touched_of R W (Tick next) s w h k = touched_of R W next s w h k
touched_of R W (Fork path number count from by body next) s w h k = absurd k
touched_of R W Join s w h k = absurd k
touched_of R W Halt s w h k = absurd k
touched_of R W (Fail kind line) s w h k = absurd k

-- ---- pairs
if_none : {A : Type 0} (test : Bool) (a : A) (o : Option A) → (if test then Some a else o) ≡ None → (test ≡ false) × (o ≡ None)
if_none true a o e = cc
if_none false a o e = (refl, e)

or_none : (o p : Option (Spot × Spot)) → or_first o p ≡ None → (o ≡ None) × (p ≡ None)
or_none None p e = (refl, e)
or_none (Some a) p e = cc

with_passes : (step : Option ℤ) (p q : Spot) (qs : List Spot) → failing_with (fails step) p qs ≡ None → IsIn q qs → fails step p q ≡ false
with_passes step p q [] e m = absurd m
with_passes step p q (x ∷ qs) e (inl same) = subst (λ y. fails step p y ≡ false) (sym same) (if_none (fails step p x) (p, x) (failing_with (fails step) p qs) e).0
with_passes step p q (x ∷ qs) e (inr m) = with_passes step p q qs (if_none (fails step p x) (p, x) (failing_with (fails step) p qs) e).1 m

pair_passes : (step : Option ℤ) (p q : Spot) (ps : List Spot) → first_failing (fails step) ps ≡ None → IsIn p ps → IsIn q ps → (fails step p q ≡ false) ⊎ (fails step q p ≡ false)
pair_passes step p q [] e m n = absurd m
pair_passes step p q (x ∷ ps) e (inl a) n = inl (subst (λ y. fails step y q ≡ false) (sym a) (with_passes step x q (x ∷ ps) (or_none (failing_with (fails step) x (x ∷ ps)) (first_failing (fails step) ps) e).0 n))
pair_passes step p q (x ∷ ps) e (inr m) (inl b) = inr (subst (λ y. fails step y p ≡ false) (sym b) (with_passes step x p (x ∷ ps) (or_none (failing_with (fails step) x (x ∷ ps)) (first_failing (fails step) ps) e).0 (inr m)))
pair_passes step p q (x ∷ ps) e (inr m) (inr n) = pair_passes step p q ps (or_none (failing_with (fails step) x (x ∷ ps)) (first_failing (fails step) ps) e).1 m n

same_var_self : (v : Var) → same_var v v ≡ true
same_var_self (var.Object n) = eq-eqb n n refl
same_var_self (var.Dummy n) = eq-eqb n n refl
same_var_self (var.Slot n) = eq-eqb n n refl

-- a pair of one array with a write that does not fail is told apart
passing : (step : Option ℤ) (p q : Spot) → fails step p q ≡ false → p.at.var ≡ q.at.var → (p.writes || q.writes) ≡ true → are_told_apart step p.scope q.scope p.subs q.subs ≡ true
passing step p q e same writes = go (same_var p.at.var q.at.var) (p.writes || q.writes) (are_told_apart step p.scope q.scope p.subs q.subs) (subst (λ v. same_var p.at.var v ≡ true) same (same_var_self p.at.var)) writes e
  where
    go : (a b c : Bool) → a ≡ true → b ≡ true → (a && b && not c) ≡ false → c ≡ true
    go true true true x y z = refl
    go true true false x y z = cc
    go true false c x y z = cc
    go false b c x y z = cc

-- ---- two moments of two iterations
index_of : (is : List Index) (v : Var) (r : Range) → range_in is v ≡ Some r → (i : Index) × IsIn i is × (i.range ≡ Some r) × (i.var ≡ v)
index_of [] v r e = cc
index_of (x ∷ is) v r e = go (same_var x.var v) refl e (λ h. index_of is v r h)
  where
    go : (test : Bool) → same_var x.var v ≡ test → with_some (if test then Some x else index_in is v) (λ i. i.range) ≡ Some r → (range_in is v ≡ Some r → (i : Index) × IsIn i is × (i.range ≡ Some r) × (i.var ≡ v)) → (i : Index) × IsIn i (x ∷ is) × (i.range ≡ Some r) × (i.var ≡ v)
    go true q e h = (x, inl refl, e, same_var_of x.var v q)
    go false q e h = let i = h e in (i.0, inr i.1, i.2, i.3)

module _ (b : Binding) (known : List Var) (s : Store) (step : Option ℤ) (from by : ℤ) (steps : (m : ℤ) → step ≡ Some m → by ≡ m) where
  in_ranges : (c0 : Surroundings) (sc : Scope) (c : Surroundings) (t : Store) → Fits b known c0 s sc c t → InRanges sc.indexes (held b c t)
  in_ranges c0 sc c t m v r e =
      let i = index_of sc.indexes v r e in
      subst (λ u. LiesIn r (held b c t u)) i.3 (subst (λ o. Lies o (held b c t i.0.var)) i.2 (m.ranges i.0 i.1))

  -- the beginnings of two iterations
  module _ (c0 d0 : Surroundings) (i j : ℕ) (differ : i ≢ j) (here : c0.slots 0 ≡ in_turn from by i) (there : d0.slots 0 ≡ in_turn from by j)
      (alike : (v : Var) → is_in known v ≡ true → held b c0 s v ≡ held b d0 s v) where
    values_differ : (sf sg : Scope) (c d : Surroundings) (t u : Store) → Fits b known c0 s sf c t → Fits b known d0 s sg d u → (es fs : Exprs) (vs ws : List ℤ) → are_told_apart step sf sg es fs ≡ true → Values b c t es vs → Values b d u fs ws → vs ≢ ws
    values_differ sf sg c d t u m n Empty fs vs ws e v w same = cc
    values_differ sf sg c d t u m n (More x es) Empty vs ws e v w same = cc
    values_differ sf sg c d t u m n (More x es) (More y fs) vs ws e v w same =
        go (or_true (holds (form sf x) (λ f. holds (form sg y) (λ g. tells_apart step sf sg f g))) (are_told_apart step sf sg es fs) e)
        (λ h. values_differ sf sg c d t u m n es fs v.1 w.1 h v.3 w.3)
      where
        heads : v.0 ∷ v.1 ≡ w.0 ∷ w.1
        heads = sym v.4 ∙ same ∙ w.4

        go : (holds (form sf x) (λ f. holds (form sg y) (λ g. tells_apart step sf sg f g)) ≡ true) ⊎ (are_told_apart step sf sg es fs ≡ true) → (are_told_apart step sf sg es fs ≡ true → v.1 ≢ w.1) → ⊥
        go (inl h) k =
            let p = holds_of (form sf x) (λ f. holds (form sg y) (λ g. tells_apart step sf sg f g)) h in
            let q = holds_of (form sg y) (λ g. tells_apart step sf sg p.0 g) p.2 in
            let first : v.0 ≡ w.0 = (let hs = heads in cc) in
            apart_right sf sg (held b c t) (held b d u) p.0 q.0 from by i j differ (m.own ∙ here) (n.own ∙ there) step steps
            (λ z k. m.fixed z (subst (λ l. is_in l z ≡ true) m.told k) ∙ (alike z (subst (λ l. is_in l z ≡ true) m.told k) ∙ sym (n.fixed z (subst (λ l. is_in l z ≡ true) m.told k))))
            (form_speaks sf x p.0 p.1) (in_ranges c0 sf c t m) (in_ranges d0 sg d u n) q.2
            (sym (form_is b c t sf x p.0 v.0 p.1 v.2) ∙ (first ∙ form_is b d u sg y q.0 w.0 q.1 w.2))
        go (inr h) k = k h (let hs = heads in cc)

-- ---- the iterations of a DOALL
or_left : (p q : Bool) → p ≡ true → (p || q) ≡ true
or_left p q e = ap (λ x. x || q) e

or_right : (p q : Bool) → q ≡ true → (p || q) ≡ true
or_right true q e = refl
or_right false q e = e

module _ (calls : Calls) (b : Binding) (slots : ℕ) (k : Control) (body : Stmt) (fixed : List Var) (words : ℕ) (is : IsBody b words slots k fixed body) where
  abbrev all : List Spot
  all = spots (scope_of k fixed) body

  separate : (w : ℕ) → IsScalarWord b w → IsElementWord b w → ⊥
  separate = no_scalar b words is.laid_out is.bound

  -- a moment of the whole body goes on to be one
  module _ (c0 : Surroundings) (s : Store) where
    still_fixed : (c : Surroundings) (t : Store) (w : ℕ) (x : ℤ) → IsElementWord b w → (v : Var) → IsFixed b body v → held b c (put t w x) v ≡ held b c t v
    still_fixed c t w x e (var.Slot j) h = refl
    still_fixed c t w x e (var.Object j) h = put_other t w x (base_of b (var.Object j)) (λ same. separate w (record { var = var.Object j; there = h.0; scalar = h.1; word = sym same }) e)
    still_fixed c t w x e (var.Dummy j) h = put_other t w x (base_of b (var.Dummy j)) (λ same. separate w (record { var = var.Dummy j; there = h.0; scalar = h.1; word = sym same }) e)

    set_fixed : (c : Surroundings) (t : Store) (i : ℕ) (x : ℤ) → MaySet body i → (v : Var) → IsFixed b body v → held b (with_slot c i x) t v ≡ held b c t v
    set_fixed c t i x m (var.Slot zero) h = absurd h
    set_fixed c t i x m (var.Slot (suc j)) h = put_other c.slots i x (suc j) (λ same. h (subst (MaySet body) (sym same) m))
    set_fixed c t i x m (var.Object j) h = refl
    set_fixed c t i x m (var.Dummy j) h = refl

    first_range : (x : ℤ) (c : Surroundings) (t : Store) → Lies (range_of k) x → c.slots 0 ≡ x → (i : Index) → IsIn i (scope_of k fixed).indexes → Lies i.range (held b c t i.var)
    first_range x c t h e i (inl same) = subst (λ i. Lies i.range (held b c t i.var)) (sym same) (subst (Lies (range_of k)) (sym e) h)
    first_range x c t h e i (inr m) = absurd m

    kept_by : KeptBy b fixed c0 s all body (Fits b fixed c0 s (scope_of k fixed))
    kept_by = record {
      stores = λ c t w x e m. record {
        own = m.own;
        ranges = first_range (c.slots 0) c (put t w x) (m.ranges (record { var = own; range = range_of k }) (inl refl)) refl;
        told = refl;
        fixed = λ v h. still_fixed c t w x e v (is.fixed v h) ∙ m.fixed v h;
      };
      sets = λ c t i x e m.
          let same : put c.slots i x 0 ≡ c.slots 0 = put_other c.slots i x 0 (λ z. is.unset (subst (MaySet body) (sym z) e)) in
          record {
            own = same ∙ m.own;
            ranges = first_range (c.slots 0) (with_slot c i x) t (m.ranges (record { var = own; range = range_of k }) (inl refl)) same;
            told = refl;
            fixed = λ v h. set_fixed c t i x e v (is.fixed v h) ∙ m.fixed v h;
          };
    }

  module _ (c : Surroundings) (t : Store) (m1 m2 m3 : ℤ) (n : ℕ) (v1 : Value b c t k.from m1) (v2 : Value b c t k.to m2) (v3 : Value b c t k.by m3) (e : trips m1 m2 m3 ≡ Ok n) (s : Store) where
    abbrev start : ℕ → Surroundings
    start i = beginning m1 m3 i c

    fine : (i : ℕ) → i < n → Each (IsRead b fixed (start i) s all) (IsWritten b fixed (start i) s all) (iteration calls b m1 m3 body c i) s
    fine i lt =
        stmt_fine b fixed (start i) s all calls slots body (scope_of k fixed) (Fits b fixed (start i) s (scope_of k fixed)) (λ c t p. p) (kept_by (start i) s) is.fits (λ p m. m) (start i) s (λ d. Join)
        (record {
          own = refl;
          ranges = first_range (start i) s (in_turn m1 m3 i) (start i) s (range_lies b c t k m1 m2 m3 n i v1 v2 v3 e lt) refl;
          told = refl;
          fixed = λ v h. refl;
        })
        (λ d t' p. tt)

    alike : (i j : ℕ) (v : Var) → IsFixed b body v → held b (start i) s v ≡ held b (start j) s v
    alike i j (var.Object x) h = refl
    alike i j (var.Dummy x) h = refl
    alike i j (var.Slot zero) h = absurd h
    alike i j (var.Slot (suc x)) h =
        put_other zeros 0 (in_turn m1 m3 i) (suc x) (λ e. omega (arith, e)) ∙ sym (put_other zeros 0 (in_turn m1 m3 j) (suc x) (λ e. omega (arith, e)))

    abbrev word_of : (c0 : Surroundings) (p : Spot) (w : ℕ) → Reaches b fixed c0 s p w → IsElementWord b w
    word_of c0 p w r = record { var = p.at.var; there = r.there; first = r.first; others = r.others; number = r.number; element = r.element; word = r.word }

    no_meeting : tested k fixed body ≡ None → (i j w : ℕ) → i ≢ j → (p q : Spot) → IsIn p all → IsIn q all → (p.writes || q.writes) ≡ true → (q.writes || p.writes) ≡ true → Reaches b fixed (start i) s p w → Reaches b fixed (start j) s q w → ⊥
    no_meeting none i j w differ p q ip iq wp wq r r' =
        let step : Option ℤ = constant k.by in
        let steps : (m : ℤ) → step ≡ Some m → m3 ≡ m = λ m h. constant_is b c t k.by m m3 h v3 in
        let same : p.at.var ≡ q.at.var = is.unaliased p q ip iq r.there r'.there wp (same_object b words is.laid_out is.bound p.at.var q.at.var r.there r'.there (r.first ∷ r.others) (r'.first ∷ r'.others) r.number r'.number r.element r'.element (sym r.word ∙ r'.word)) in
        let bases : base_of b p.at.var ≡ base_of b q.at.var = ap (base_of b) same in
        let numbers : r'.number ≡ r.number = omega (arith, bases, r.word, r'.word) in
        let there : element (dims_of b p.at.var) (r'.first ∷ r'.others) ≡ Ok r.number =
        subst (λ v. element (dims_of b v) (r'.first ∷ r'.others) ≡ Ok r.number) (sym same) (r'.element ∙ ap Ok numbers) in
        let subs : r.first ∷ r.others ≡ r'.first ∷ r'.others = element_distinct (dims_of b p.at.var) (r.first ∷ r.others) (r'.first ∷ r'.others) r.number r.element there in
        go step steps same subs (pair_passes step p q all none ip iq)
      where
        go : (step : Option ℤ) → ((m : ℤ) → step ≡ Some m → m3 ≡ m) → p.at.var ≡ q.at.var → r.first ∷ r.others ≡ r'.first ∷ r'.others → (fails step p q ≡ false) ⊎ (fails step q p ≡ false) → ⊥
        go step steps same subs (inl h) =
            values_differ b fixed s step m1 m3 steps (start i) (start j) i j differ refl refl (λ v h. alike i j v (is.fixed v h)) p.scope q.scope r.surroundings r'.surroundings r.store r'.store r.fits r'.fits p.subs q.subs (r.first ∷ r.others) (r'.first ∷ r'.others) (passing step p q h same wp) r.values r'.values subs
        go step steps same subs (inr h) =
            values_differ b fixed s step m1 m3 steps (start j) (start i) j i (λ z. differ (sym z)) refl refl (λ v h. alike j i v (is.fixed v h)) q.scope p.scope r'.surroundings r.surroundings r'.store r.store r'.fits r.fits q.subs p.subs (r'.first ∷ r'.others) (r.first ∷ r.others) (passing step q p h (sym same) wq) r'.values r.values (sym subs)

    apart : tested k fixed body ≡ None → AreApart n (iteration calls b m1 m3 body c) s
    apart none i j w li lj differ wrote touched =
        let p = written_of (IsRead b fixed (start i) s all) (IsWritten b fixed (start i) s all) (iteration calls b m1 m3 body c i) s w (fine i li) wrote in
        let q = touched_of (IsRead b fixed (start j) s all) (IsWritten b fixed (start j) s all) (iteration calls b m1 m3 body c j) s w (fine j lj) touched in
        go p.0 q.0 p.1 q.1
      where
        go : (x y : ℕ) → IsWritten b fixed (start i) s all x w → IsRead b fixed (start j) s all y w ⊎ IsWritten b fixed (start j) s all y w → ⊥
        go x y p (inl (inl q)) = no_meeting none i j w differ p.0 q.0 p.1 q.1 (or_left p.0.writes q.0.writes p.3) (or_right q.0.writes p.0.writes p.3) p.4 q.3
        go x y p (inl (inr q)) = separate w q (word_of (start i) p.0 w p.4)
        go x y p (inr q) = no_meeting none i j w differ p.0 q.0 p.1 q.1 (or_left p.0.writes q.0.writes p.3) (or_right q.0.writes p.0.writes p.3) p.4 q.4

  pub is_parallel : tested k fixed body ≡ None → IsParallel calls b k body
  is_parallel none c t m1 m2 m3 n v1 v2 v3 e s = apart c t m1 m2 m3 n v1 v2 v3 e s none
