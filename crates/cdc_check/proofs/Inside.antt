-- What names mean in the body of a DOALL, and what is known of its open loops.
use Rattle.std.proofs.Common.{◌≡◌, ℕ, ◌+◌, ◌<◌, ◌≤◌, Bool, true, false, List, [], ◌∷◌, ◌++◌, length, Option, Some, None, refl, ap, sym, subst, ◌∙◌, arith}
use Rattle.std.specs.Prelude.{if◌then◌else◌, ◌&&◌, ◌||◌}
use Rattle.std.specs.Str.{bytes_eq}
use Rattle.std.proofs.lemmas.List.Folds.{list_any-append}
use Rattle.std.proofs.lemmas.Slice.Eq.{bytes_eq-Decides}
use Rattle.cdc_base.specs.declared.place.Place.{Place}
use Rattle.cdc_prog.specs.declared.expr.Var.{Var}
use Rattle.cdc_prog.specs.declared.expr.Var.TheVariants.{Object, Dummy, Slot}
use Rattle.cdc_prog.specs.declared.program.Dim.{Dim}
use Rattle.cdc_prog.specs.declared.program.Object as object
use Rattle.cdc_prog.specs.Resolved.{IsVar}
use Rattle.cdc_tree.specs.declared.tree.Named.{Named}
use Rattle.cdc_tree.specs.Order.{Each}
use Rattle.cdc_names.specs.declared.name_use.Role.{Role}
use Rattle.cdc_names.specs.declared.name_use.Role.TheVariants as role
use Rattle.cdc_names.specs.declared.scope.Sort.{Sort}
use Rattle.cdc_names.specs.DoVariables.{opened_as, is_counted}
use Rattle.cdc_names.specs.Duplicates.{beside, place_in, twice}
use Rattle.cdc_names.specs.Privates.{is_index, is_private, in_doall, is_private_in}
use Rattle.cdc_names.specs.Table.{found}
use Rattle.cdc_names.specs.Used.{Used, used}
use Rattle.cdc_names.specs.Uses.{names_uses}
use Rattle.cdc_check.specs.declared.meaning.Meaning.{Meaning}
use Rattle.cdc_check.specs.declared.meaning.Meaning.TheVariants as meaning
use Rattle.cdc_check.specs.Threads.{next}
use Rattle.cdc_check.specs.Meanings.{surroundings, slot_from, slot_or, meaning_of}
use Rattle.cdc_check.proofs.Fitting as fitting
use Rattle.cdc_check.proofs.Fitting.{rank_of, Agrees, changed_rank}
use Rattle.cdc_check.proofs.Opened.{Open, privates_open, inside, doall_open}
use Rattle.cdc_check.proofs.Placed.{IsInside}

-- ---- slots
next_le : (k : ℕ) → k ≤ next k
next_le k = grind arith

next_is : (k : ℕ) → k < 4294967295 → next k ≡ k + 1
next_is k h = grind arith

pub slot_low : (j : ℕ) (m : List ℕ) (ns : List Named) (k : ℕ) → slot_from j m ns ≡ Some k → j ≤ k
slot_low j m [] k h = cc
slot_low j m (n ∷ ns) k h = go (slot_low (next j) m ns k) (bytes_eq m n.name) h
  where
    go : (slot_from (next j) m ns ≡ Some k → next j ≤ k) → (b : Bool) → (if b then Some j else slot_from (next j) m ns) ≡ Some k → j ≤ k
    go more true e = let same : j ≡ k = cc in omega (arith, same)
    go more false e = let rest : next j ≤ k = more e in let step : j ≤ next j = next_le j in omega (arith, rest, step)

pub slot_high : (j : ℕ) (m : List ℕ) (ns : List Named) (k : ℕ) → j + length ns ≤ 4294967295 → slot_from j m ns ≡ Some k → k < j + length ns
slot_high j m [] k le h = cc
slot_high j m (n ∷ ns) k le h = go (slot_high (next j) m ns k) (bytes_eq m n.name) h
  where
    go : (next j + length ns ≤ 4294967295 → slot_from (next j) m ns ≡ Some k → k < next j + length ns) → (b : Bool) → (if b then Some j else slot_from (next j) m ns) ≡ Some k → k < j + length (n ∷ ns)
    go more true e = let same : j ≡ k = cc in omega (arith, same)
    go more false e =
        let step : next j ≡ j + 1 = next_is j (omega (arith, le)) in
        let rest : k < next j + length ns = more (omega (arith, le, step)) e in
        omega (arith, rest, step)

-- one slot is of one name
slot_one : (j : ℕ) (m n : List ℕ) (ns : List Named) (k : ℕ) → j + length ns ≤ 4294967295 → slot_from j m ns ≡ Some k → slot_from j n ns ≡ Some k → m ≡ n
slot_one j m n [] k le h g = cc
slot_one j m n (x ∷ xs) k le h g = go (slot_one (next j) m n xs k) (bytes_eq m x.name) refl (bytes_eq n x.name) refl h g
  where
    step : next j ≡ j + 1
    step = next_is j (omega (arith, le))

    later : (l : List ℕ) → Some j ≡ Some k → slot_from (next j) l xs ≡ Some k → ⊥
    later l e f =
        let same : j ≡ k = cc in
        let low : next j ≤ k = slot_low (next j) l xs k f in
        omega (arith, same, low, step)

    go : (next j + length xs ≤ 4294967295 → slot_from (next j) m xs ≡ Some k → slot_from (next j) n xs ≡ Some k → m ≡ n)
        → (a : Bool) → bytes_eq m x.name ≡ a → (b : Bool) → bytes_eq n x.name ≡ b → (if a then Some j else slot_from (next j) m xs) ≡ Some k → (if b then Some j else slot_from (next j) n xs) ≡ Some k → m ≡ n
    go more true e true f a b = (bytes_eq-Decides m x.name).0 e ∙ sym ((bytes_eq-Decides n x.name).0 f)
    go more true e false f a b = absurd (later n a b)
    go more false e true f a b = absurd (later m b a)
    go more false e false f a b = more (omega (arith, le, step)) a b

-- ---- what names mean
-- no two names of a unit stand for one variable, and none for a slot
pub record AreApart (names : List (List ℕ × Meaning)) : Type 0 where
  pub one : (m n : List ℕ) (v : Var) → found m names ≡ Some (meaning.Variable v) → found n names ≡ Some (meaning.Variable v) → m ≡ n
  pub no_slot : (m : List ℕ) (k : ℕ) → found m names ≡ Some (meaning.Variable (Slot k)) → ⊥

pub one_inside : (names : List (List ℕ × Meaning)) (ns : List Named) → length ns ≤ 33 → AreApart names → (m n : List ℕ) (v : Var)
    → meaning_of (surroundings names ns) m ≡ Some (meaning.Variable v) → meaning_of (surroundings names ns) n ≡ Some (meaning.Variable v) → m ≡ n
one_inside names ns few apart m n v = go (slot_from 0 m ns) refl (slot_from 0 n ns) refl
  where
    go : (a : Option ℕ) → slot_from 0 m ns ≡ a → (b : Option ℕ) → slot_from 0 n ns ≡ b → slot_or a (found m names) ≡ Some (meaning.Variable v) → slot_or b (found n names) ≡ Some (meaning.Variable v) → m ≡ n
    go (Some j) e (Some k) f g h =
        let same : Some (meaning.Variable (Slot j)) ≡ Some (meaning.Variable (Slot k)) = g ∙ sym h in
        let number : j ≡ k = cc in
        slot_one 0 m n ns j (omega (arith, few)) e (f ∙ ap (λ (i : ℕ). Some i) (sym number))
    go (Some j) e None f g h = absurd (apart.no_slot n j (h ∙ sym g))
    go None e (Some k) f g h = absurd (apart.no_slot m k (g ∙ sym h))
    go None e None f g h = apart.one m n v g h

-- a variable of serial code is one in a DOALL
pub var_more : (os : List object.Object) (shapes : List (List Dim)) (slots : ℕ) (v : Var) → IsVar os shapes 0 v → IsVar os shapes slots v
var_more os shapes slots (Object k) h = h
var_more os shapes slots (Dummy k) h = h
var_more os shapes slots (Slot k) h = absurd (omega (arith, h))

agrees_more : (os : List object.Object) (shapes : List (List Dim)) (slots : ℕ) (o : Option Meaning) (sort : Option Sort) → Agrees os shapes 0 o sort → Agrees os shapes slots o sort
agrees_more os shapes slots None sort h = h
agrees_more os shapes slots (Some (meaning.Number x)) sort h = h
agrees_more os shapes slots (Some (meaning.Variable v)) sort h = (var_more os shapes slots v h.0, h.1)

-- ---- uses inside
module _ (os : List object.Object) (shapes : List (List Dim)) (sorts : List (List ℕ × Sort)) (names : List (List ℕ × Meaning)) where
  abbrev pub Good : List Named → Used → Type 0
  Good ns = fitting.Good os shapes (length ns) sorts (surroundings names ns)

  abbrev pub AllGood : List Named → List Used → Type 0
  AllGood ns = fitting.AllGood os shapes (length ns) sorts (surroundings names ns)

  -- a scalar by its declaration
  abbrev pub IsFlat : Named → Type 0
  IsFlat n = rank_of (found n.name sorts) ≡ 0

  pub index_flat : (n : Named) → Good [] (used n role.Index 0) → IsFlat n
  index_flat n g = changed_rank (found n.name sorts) role.Index 0 refl refl g.fits

  pub privates_flat : (ns : List Named) → AllGood [] (names_uses role.Private ns) → Each IsFlat ns
  privates_flat [] g = tt
  privates_flat (n ∷ ns) g = (changed_rank (found n.name sorts) role.Private 0 refl refl g.0.fits, privates_flat ns g.1)

  slot_flat : (j : ℕ) (m : List ℕ) (ns : List Named) (k : ℕ) → Each IsFlat ns → slot_from j m ns ≡ Some k → rank_of (found m sorts) ≡ 0
  slot_flat j m [] k flat h = cc
  slot_flat j m (n ∷ ns) k flat h = go (slot_flat (next j) m ns k flat.1) (bytes_eq m n.name) refl h
    where
      go : (slot_from (next j) m ns ≡ Some k → rank_of (found m sorts) ≡ 0) → (b : Bool) → bytes_eq m n.name ≡ b → (if b then Some j else slot_from (next j) m ns) ≡ Some k → rank_of (found m sorts) ≡ 0
      go more true e f = ap (λ (l : List ℕ). rank_of (found l sorts)) ((bytes_eq-Decides m n.name).0 e) ∙ flat.0
      go more false e f = more f

  good_inside : (ns : List Named) → length ns ≤ 33 → Each IsFlat ns → (u : Used) → Good [] u → Good ns u
  good_inside ns few flat u g = record { fits = g.fits; agrees = go (slot_from 0 u.name ns) refl }
    where
      go : (o : Option ℕ) → slot_from 0 u.name ns ≡ o → Agrees os shapes (length ns) (slot_or o (found u.name names)) (found u.name sorts)
      go None e = agrees_more os shapes (length ns) (found u.name names) (found u.name sorts) g.agrees
      go (Some k) e =
          let high : k < 0 + length ns = slot_high 0 u.name ns k (omega (arith, few)) e in
          (omega (arith, high), sym (slot_flat 0 u.name ns k flat e))

  pub all_inside : (ns : List Named) → length ns ≤ 33 → Each IsFlat ns → (us : List Used) → AllGood [] us → AllGood ns us
  all_inside ns few flat [] g = tt
  all_inside ns few flat (u ∷ us) g = (good_inside ns few flat u g.0, all_inside ns few flat us g.1)

-- ---- the open loops around a place
-- a name that is private there
abbrev pub IsPrivate : List ℕ → List Named → Type 0
IsPrivate m ns = (k : ℕ) × (1 ≤ k) × (slot_from 0 m ns ≡ Some k)

-- loops that are open in serial code, or in a DOALL with these slots
pub record AreAround (os : Open) (ns : List Named) : Type 0 where
  pub own : (m : List ℕ) → is_private_in m os ≡ true → IsPrivate m ns
  pub doall : IsInside ns → in_doall os ≡ true

or_false : (a : Bool) → (a || false) ≡ a
or_false true = refl
or_false false = refl

or_true : (a b : Bool) → a ≡ true → (a || b) ≡ true
or_true true b h = refl
or_true false b h = cc

or_either : (a b : Bool) → a ≡ false → (a || b) ≡ b
or_either true b h = cc
or_either false b h = refl

and_false : (a : Bool) → (a && false) ≡ false
and_false true = refl
and_false false = refl

pub nothing_around : AreAround [] []
nothing_around = record { own = λ m h. cc; doall = λ h. absurd h }

abbrev IsOwn : List ℕ → List ℕ × Role → Bool
IsOwn m o = bytes_eq m o.0 && is_private o.1

counted_own : (m : List ℕ) (n : Named) → is_private_in m ((n.name, role.Counted) ∷ []) ≡ false
counted_own m n = or_false (bytes_eq m n.name && false) ∙ and_false (bytes_eq m n.name)

index_own : (m : List ℕ) (n : Named) → is_private_in m ((n.name, role.Index) ∷ []) ≡ false
index_own m n = or_false (bytes_eq m n.name && false) ∙ and_false (bytes_eq m n.name)

pub around_do : (os : Open) (ns : List Named) (n : Named) → AreAround os ns → AreAround (inside os n) ns
around_do os ns n h = record {
  own = λ m e. h.own m (sym (or_false (is_private_in m os)) ∙ sym (ap (λ (b : Bool). is_private_in m os || b) (counted_own m n)) ∙ sym (list_any-append (IsOwn m) os ((n.name, role.Counted) ∷ [])) ∙ e);
  doall = λ i. list_any-append (λ (o : List ℕ × Role). is_index o.1) os ((n.name, role.Counted) ∷ []) ∙ or_true (in_doall os) (in_doall ((n.name, role.Counted) ∷ [])) (h.doall i);
}

-- a private name stands in the list
private_slot : (ps : List Named) (j : ℕ) (m : List ℕ) → is_private_in m (privates_open ps) ≡ true → (k : ℕ) × (slot_from j m ps ≡ Some k)
private_slot [] j m h = cc
private_slot (n ∷ ps) j m h = go (private_slot ps (next j) m) (bytes_eq m n.name) h
  where
    go : (is_private_in m (privates_open ps) ≡ true → (k : ℕ) × (slot_from (next j) m ps ≡ Some k)) → (b : Bool) → ((b && true) || is_private_in m (privates_open ps)) ≡ true → (k : ℕ) × ((if b then Some j else slot_from (next j) m ps) ≡ Some k)
    go more true e = (j, refl)
    go more false e = more e

private_place : (ps : List Named) (m : List ℕ) → is_private_in m (privates_open ps) ≡ true → place_in m ps ≡ None → ⊥
private_place [] m h e = cc
private_place (n ∷ ps) m h e = go (private_place ps m) (bytes_eq m n.name) h e
  where
    go : (is_private_in m (privates_open ps) ≡ true → place_in m ps ≡ None → ⊥) → (b : Bool) → ((b && true) || is_private_in m (privates_open ps)) ≡ true → (if b then Some n.place else place_in m ps) ≡ None → ⊥
    go more true h e = cc
    go more false h e = more h e

index_once : (p : Place) (o : Option Place) (later : Option (Place × Place)) → beside p o later ≡ None → o ≡ None
index_once p None later h = refl
index_once p (Some q) later h = cc

pub around_doall : (os : Open) (index : Named) (ps : List Named) → AreAround os [] → twice (index ∷ ps) ≡ None → AreAround (doall_open os index ps) (index ∷ ps)
around_doall os index ps h once = record { own = own; doall = λ i. inside_doall }
  where
    before : Open
    before = os ++ (index.name, role.Index) ∷ []

    none : (m : List ℕ) (b : Bool) → is_private_in m os ≡ b → b ≡ false
    none m true e = let slot : IsPrivate m [] = h.own m e in let nowhere : None ≡ Some slot.0 = slot.2 in cc
    none m false e = refl

    before_none : (m : List ℕ) → is_private_in m before ≡ false
    before_none m = list_any-append (IsOwn m) os ((index.name, role.Index) ∷ []) ∙ or_either (is_private_in m os) (is_private_in m ((index.name, role.Index) ∷ [])) (none m (is_private_in m os) refl) ∙ index_own m index

    found_there : (m : List ℕ) → is_private_in m (privates_open ps) ≡ true → IsPrivate m (index ∷ ps)
    found_there m e = go (bytes_eq m index.name) refl
      where
        go : (b : Bool) → bytes_eq m index.name ≡ b → (k : ℕ) × (1 ≤ k) × ((if b then Some 0 else slot_from 1 m ps) ≡ Some k)
        go true same =
            let name : m ≡ index.name = (bytes_eq-Decides m index.name).0 same in
            let nowhere : place_in m ps ≡ None = ap (λ (l : List ℕ). place_in l ps) name ∙ index_once index.place (place_in index.name ps) (twice ps) once in
            absurd (private_place ps m e nowhere)
        go false other =
            let at : (k : ℕ) × (slot_from 1 m ps ≡ Some k) = private_slot ps 1 m e in
            (at.0, slot_low 1 m ps at.0 at.1, at.1)

    own : (m : List ℕ) → is_private_in m (before ++ privates_open ps) ≡ true → IsPrivate m (index ∷ ps)
    own m e = found_there m (sym (or_either (is_private_in m before) (is_private_in m (privates_open ps)) (before_none m)) ∙ sym (list_any-append (IsOwn m) before (privates_open ps)) ∙ e)

    inside_doall : in_doall (before ++ privates_open ps) ≡ true
    inside_doall =
        list_any-append (λ (o : List ℕ × Role). is_index o.1) before (privates_open ps)
        ∙ or_true (in_doall before) (in_doall (privates_open ps)) (list_any-append (λ (o : List ℕ × Role). is_index o.1) os ((index.name, role.Index) ∷ []) ∙ or_last (in_doall os))
      where
        or_last : (a : Bool) → (a || true) ≡ true
        or_last true = refl
        or_last false = refl

-- ---- names that an open DO counts by
-- the innermost open loop of the name is a DO
abbrev pub Holds : Open → List ℕ → Type 0
Holds os m = is_counted (opened_as None m os) ≡ true

as_append : (o : Option Role) (m : List ℕ) (os more : Open) → opened_as o m (os ++ more) ≡ opened_as (opened_as o m os) m more
as_append o m [] more = refl
as_append o m (x ∷ os) more = as_append (if bytes_eq m x.0 then Some x.1 else o) m os more

abbrev Stays : Option Role → Type 0
Stays o = is_counted o ≡ true

pub holds_here : (os : Open) (n : Named) → Holds (inside os n) n.name
holds_here os n = subst Stays (sym (as_append None n.name os ((n.name, role.Counted) ∷ []))) (pick (bytes_eq n.name n.name) ((bytes_eq-Decides n.name n.name).1 refl))
  where
    pick : (b : Bool) → b ≡ true → is_counted (if b then Some role.Counted else opened_as None n.name os) ≡ true
    pick true e = refl
    pick false e = cc

pub holds_do : (os : Open) (n : Named) (m : List ℕ) → Holds os m → Holds (inside os n) m
holds_do os n m h = subst Stays (sym (as_append None m os ((n.name, role.Counted) ∷ []))) (pick (bytes_eq m n.name))
  where
    pick : (b : Bool) → is_counted (if b then Some role.Counted else opened_as None m os) ≡ true
    pick true = refl
    pick false = h

privates_same : (ps : List Named) (j : ℕ) (o : Option Role) (m : List ℕ) → slot_from j m ps ≡ None → opened_as o m (privates_open ps) ≡ o
privates_same [] j o m h = refl
privates_same (n ∷ ps) j o m h = go (privates_same ps (next j) o m) (bytes_eq m n.name) h
  where
    go : (slot_from (next j) m ps ≡ None → opened_as o m (privates_open ps) ≡ o) → (b : Bool) → (if b then Some j else slot_from (next j) m ps) ≡ None → opened_as (if b then Some role.Private else o) m (privates_open ps) ≡ o
    go more true e = cc
    go more false e = more e

-- a name that is no slot of a DOALL is counted by as outside
pub holds_doall : (os : Open) (index : Named) (ps : List Named) (m : List ℕ) → slot_from 0 m (index ∷ ps) ≡ None → Holds os m → Holds (doall_open os index ps) m
holds_doall os index ps m none h = go (bytes_eq m index.name) refl none
  where
    before : Open
    before = os ++ (index.name, role.Index) ∷ []

    go : (b : Bool) → bytes_eq m index.name ≡ b → (if b then Some 0 else slot_from 1 m ps) ≡ None → Stays (opened_as None m (before ++ privates_open ps))
    go true e f = cc
    go false e f =
        let step : opened_as None m before ≡ opened_as None m os = as_append None m os ((index.name, role.Index) ∷ []) ∙ ap (λ (b : Bool). if b then Some role.Index else opened_as None m os) e in
        subst Stays (sym (as_append None m before (privates_open ps) ∙ privates_same ps 1 (opened_as None m before) m f ∙ step)) h
