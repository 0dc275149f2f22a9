-- Inside a DO nothing stores in its variable, and a DOALL stores in its own slots, but not in its index, and in array elements, where no fault of it is found in the text.
use Rattle.std.proofs.Common.{◌≡◌, inl, inr, ℕ, ◌<◌, ◌≤◌, Bool, true, false, List, [], ◌∷◌, ◌++◌, length, Option, Some, None, refl, ap, sym, subst, ◌∙◌, arith}
use Rattle.std.specs.Prelude.{not, ◌&&◌, nat_eq}
use Rattle.std.specs.List.{Any}
use Rattle.cdc_prog.specs.declared.expr.Var.{Var}
use Rattle.cdc_prog.specs.declared.expr.Var.TheVariants.{Object, Dummy, Slot}
use Rattle.cdc_prog.specs.declared.program.Dim.{Dim}
use Rattle.cdc_prog.specs.Plain as plain
use Rattle.cdc_prog.specs.Numbered.{calls_in}
use Rattle.cdc_prog.specs.Resolved.{IsVar}
use Rattle.cdc_prog.specs.Translation.{listed, chain, in_arms}
use Rattle.cdc_prog.specs.Uses.{Stores}
use Rattle.cdc_prog.specs.Premises.{IsOwn, StoresInOwn, DoallsStoreAlone, DosKeepVariables}
use Rattle.cdc_prog.proofs.Lists.{any_none, any_first}
use Rattle.cdc_prog.proofs.Serial.{uncalled_stores}
use Rattle.cdc_tree.specs.declared.tree.Named.{Named}
use Rattle.cdc_tree.specs.Plain.{plains}
use Rattle.cdc_tree.specs.Forms.{PSpot, PLoop, PForm, FAssign, FLogicalIf, FDo, FDoall, FPrint, FRead}
use Rattle.cdc_tree.specs.Units.{PNode, NPlain, NIf, NElse, NLoop, PBody, Empty, More, PBranches, BNone, BMore}
use Rattle.cdc_tree.proofs.Counts.{count_plains}
use Rattle.cdc_names.specs.declared.name_use.Role.{Role}
use Rattle.cdc_names.specs.declared.name_use.Role.TheVariants as role
use Rattle.cdc_names.specs.declared.scope.Sort.{Sort}
use Rattle.cdc_names.specs.DoVariables.{opened_as, changes, is_counted, spoiled}
use Rattle.cdc_names.specs.Privates.{in_doall, is_private_in, sets_scalar, shared}
use Rattle.cdc_names.specs.Shapes.{may_be_whole, is_read, is_misused}
use Rattle.cdc_names.specs.Table.{found}
use Rattle.cdc_names.specs.Used.{Used, used}
use Rattle.cdc_names.specs.Uses.{tree_uses, spot_uses, spots_uses, form_uses, statement_uses, closing_uses, node_uses, body_uses, branches_uses}
use Rattle.cdc_check.specs.declared.meaning.Meaning.{Meaning}
use Rattle.cdc_check.specs.declared.meaning.Meaning.TheVariants as meaning
use Rattle.cdc_check.specs.declared.progress.Progress.{Progress}
use Rattle.cdc_check.specs.Meanings.{Surroundings, surroundings, slot_from, slot_or, meaning_of, var_in, var_of, sites_after}
use Rattle.cdc_check.specs.Expressions.{resolved, resolved_in}
use Rattle.cdc_check.specs.Statements.{Resolves, at_site, with_doall, controls, target, targets, condition, counted, looped, formed, arm, noded, nodes_in, arms_in}
use Rattle.cdc_check.proofs.Blocks as blocks
use Rattle.cdc_check.proofs.Doalls.{body_counts}
use Rattle.cdc_check.proofs.Extents.{at_none}
use Rattle.cdc_check.proofs.Fitting.{Agrees, rank_of, changed_rank, changed_no_parameter}
use Rattle.cdc_check.proofs.Fitting as fitting
use Rattle.cdc_check.proofs.Inside as within
use Rattle.cdc_check.proofs.Inside.{AreApart, one_inside, var_more, AreAround, IsPrivate, around_do, around_doall, Holds, holds_here, holds_do, holds_doall}
use Rattle.cdc_check.proofs.Opened.{Open, Clear, clear_left, clear_after, clear_right, tree_steady, read_steady, form_steady, inside, doall_open, doall_after, do_after, node_steady, branch_steady, branches_steady}
use Rattle.cdc_check.proofs.Placed.{IsSerial, IsInside, FormPlaced, HeadPlaced, NodePlaced, BodyPlaced, BranchesPlaced}

own_element : (v : Var) (e : plain.Expr) (es : plain.Exprs) → IsOwn v (plain.More e es)
own_element (Object k) e es = tt
own_element (Dummy k) e es = tt
own_element (Slot k) e es = tt

module _ (p : plain.Program) (shapes : List (List Dim)) (sorts : List (List ℕ × Sort)) (names : List (List ℕ × Meaning)) (apart : AreApart names) where
  abbrev at : List Named → Surroundings
  at ns = surroundings names ns

  abbrev Good : List Named → Used → Type 0
  Good = within.Good p.objects shapes sorts names

  abbrev AllGood : List Named → List Used → Type 0
  AllGood = within.AllGood p.objects shapes sorts names

  left : (ns : List Named) (xs ys : List Used) → AllGood ns (xs ++ ys) → AllGood ns xs
  left ns = fitting.good_left p.objects shapes (length ns) sorts (at ns)

  right : (ns : List Named) (xs ys : List Used) → AllGood ns (xs ++ ys) → AllGood ns ys
  right ns = fitting.good_right p.objects shapes (length ns) sorts (at ns)

  abbrev Means : List Named → List ℕ → Var → Type 0
  Means ns m v = meaning_of (at ns) m ≡ Some (meaning.Variable v)

  -- each name of the variable is that of an open DO
  abbrev IsCounted : Open → List Named → Var → Type 0
  IsCounted os ns v = (m : List ℕ) → Means ns m v → Holds os m

  -- statements store in no variable that an open DO counts by, nor their own DOs in theirs; and in a DOALL in slots and array elements alone, but not in the index
  pub record Keeps (os : Open) (ns : List Named) (st : plain.Stmt) : Type 0 where
    pub kept : (v : Var) → IsVar p.objects shapes (length ns) v → IsCounted os ns v → Stores p v st → ⊥
    pub index : Stores p (Slot 0) st → ⊥
    pub dos : DosKeepVariables p st
    pub alone : DoallsStoreAlone st
    pub own : IsInside ns → StoresInOwn st

  -- ---- a name that is changed
  stands : (m : Option Meaning) (sort : Option Sort) (r : Role) (n slots : ℕ) → is_read r ≡ false → Agrees p.objects shapes slots m sort → is_misused sort r n ≡ false → m ≡ Some (meaning.Variable (var_in m))
  stands None sort r n slots d a h = absurd a
  stands (Some (meaning.Number x)) sort r n slots d a h = absurd (changed_no_parameter r n d (subst (λ (o : Option Sort). is_misused o r n ≡ false) a h))
  stands (Some (meaning.Variable v)) sort r n slots d a h = refl

  -- it is a variable
  mine : (ns : List Named) (u : Used) → is_read u.role ≡ false → Good ns u → Means ns u.name (var_in (meaning_of (at ns) u.name))
  mine ns u d g = stands (meaning_of (at ns) u.name) (found u.name sorts) u.role u.subs (length ns) d g.agrees g.fits

  is_variable : (ns : List Named) (u : Used) → is_read u.role ≡ false → Good ns u → IsVar p.objects shapes (length ns) (var_in (meaning_of (at ns) u.name))
  is_variable ns u d g = (subst (λ (o : Option Meaning). Agrees p.objects shapes (length ns) o (found u.name sorts)) (mine ns u d g) g.agrees).0

  -- that no open DO counts by
  change : (os : Open) (ns : List Named) (u : Used) → changes u.role ≡ true → is_read u.role ≡ false → Good ns u → spoiled os u ≡ None
      → (v : Var) → IsCounted os ns v → var_in (meaning_of (at ns) u.name) ≡ v → ⊥
  change os ns u c d g none v h same =
      let here : Means ns u.name v = mine ns u d g ∙ ap (λ (w : Var). Some (meaning.Variable w)) same in
      let quiet : (changes u.role && is_counted (opened_as None u.name os)) ≡ false = at_none (changes u.role && is_counted (opened_as None u.name os)) u.place none in
      clash (changes u.role) (is_counted (opened_as None u.name os)) c (h u.name here) quiet
    where
      clash : (a b : Bool) → a ≡ true → b ≡ true → (a && b) ≡ false → ⊥
      clash true true e f h = cc
      clash true false e f h = cc
      clash false b e f h = cc

  -- a scalar that is set in a DOALL is private
  private : (os : Open) (ns : List Named) (u : Used) → AreAround os ns → IsInside ns → sets_scalar u.role u.subs ≡ true → shared os u ≡ None → IsPrivate u.name ns
  private os ns u around here sets none =
      around.own u.name (clash (sets_scalar u.role u.subs) (in_doall os) (is_private_in u.name os) sets (around.doall here)
      (at_none (sets_scalar u.role u.subs && (in_doall os && not (is_private_in u.name os))) u.place none))
    where
      clash : (a b c : Bool) → a ≡ true → b ≡ true → (a && (b && not c)) ≡ false → c ≡ true
      clash a b true e f h = refl
      clash true true false e f h = cc
      clash true false false e f h = cc
      clash false b false e f h = cc

  private_var : (ns : List Named) (m : List ℕ) (k : ℕ) → slot_from 0 m ns ≡ Some k → var_in (meaning_of (at ns) m) ≡ Slot k
  private_var ns m k h = ap (λ (o : Option ℕ). var_in (slot_or o (found m names))) h

  -- so it is no slot outside a DOALL
  not_serial : (ns : List Named) (u : Used) → IsSerial ns → is_read u.role ≡ false → Good ns u → var_in (meaning_of (at ns) u.name) ≡ Slot 0 → ⊥
  not_serial [] u here d g same = let none : 0 < 0 = subst (IsVar p.objects shapes 0) same (is_variable [] u d g) in omega (arith, none)
  not_serial (n ∷ ns) u here d g same = here

  -- a slot has no subscripts
  slot_bare : (ns : List Named) (u : Used) → may_be_whole u.role ≡ false → is_read u.role ≡ false → Good ns u → (k : ℕ) → var_in (meaning_of (at ns) u.name) ≡ Slot k → u.subs ≡ 0
  slot_bare ns u w d g k same =
      let here : Means ns u.name (Slot k) = mine ns u d g ∙ ap (λ (v : Var). Some (meaning.Variable v)) same in
      let agrees : Agrees p.objects shapes (length ns) (Some (meaning.Variable (Slot k))) (found u.name sorts) = subst (λ (o : Option Meaning). Agrees p.objects shapes (length ns) o (found u.name sorts)) here g.agrees in
      sym (changed_rank (found u.name sorts) u.role u.subs w d g.fits) ∙ sym agrees.1

  -- and the index is not changed
  not_index : (os : Open) (ns : List Named) (u : Used) → AreAround os ns → may_be_whole u.role ≡ false → is_read u.role ≡ false → sets_scalar u.role 0 ≡ true → Good ns u → shared os u ≡ None
      → var_in (meaning_of (at ns) u.name) ≡ Slot 0 → ⊥
  not_index os [] u around w d sets g none same = not_serial [] u tt d g same
  not_index os (n ∷ ns) u around w d sets g none same =
      let bare : u.subs ≡ 0 = slot_bare (n ∷ ns) u w d g 0 same in
      let there : IsPrivate u.name (n ∷ ns) = private os (n ∷ ns) u around tt (subst (λ (k : ℕ). sets_scalar u.role k ≡ true) (sym bare) sets) none in
      let both : Slot 0 ≡ Slot there.0 = sym same ∙ private_var (n ∷ ns) u.name there.0 there.2 in
      let number : 0 ≡ there.0 = cc in
      let low : 1 ≤ there.0 = there.1 in
      omega (arith, number, low)

  -- a scalar that is set in a DOALL is a slot
  own_scalar : (os : Open) (ns : List Named) (u : Used) → AreAround os ns → sets_scalar u.role u.subs ≡ true → shared os u ≡ None → IsInside ns → IsOwn (var_in (meaning_of (at ns) u.name)) plain.Empty
  own_scalar os ns u around sets none here =
      let there : IsPrivate u.name ns = private os ns u around here sets none in
      subst (λ (v : Var). IsOwn v plain.Empty) (sym (private_var ns u.name there.0 there.2)) tt

  -- ---- statements
  nothing_keeps : (os : Open) (ns : List Named) → Keeps os ns (plain.If plain.Skip)
  nothing_keeps os ns = record { kept = λ v is h st. st; index = λ st. st; dos = tt; alone = tt; own = λ i. tt }

  targets_kept : (os : Open) (ns : List Named) (spots : List PSpot) → AllGood ns (spots_uses role.Input spots) → Clear os (spots_uses role.Input spots) → (k : ℕ)
      → (v : Var) → IsCounted os ns v → Any (λ (t : plain.Target). t.at.var ≡ v) ((targets (at ns) spots k).0) → ⊥
  targets_kept os ns [] g clear k v h any = any_none (λ (t : plain.Target). t.at.var ≡ v) any
  targets_kept os ns (spot ∷ spots) g clear k v h any =
      let rest : Clear os (spots_uses role.Input spots) = clear_right os (spot_uses role.Input spot) (spots_uses role.Input spots) (read_steady spot) clear in
      elim (any_first (λ (t : plain.Target). t.at.var ≡ v) ((target (at ns) spot k).0) ((targets (at ns) spots ((target (at ns) spot k).1)).0) any) [
        | inl x ↦ change os ns (used spot.0 role.Input (length spot.1)) refl refl g.0 clear.0.0 v h x
        | inr x ↦ targets_kept os ns spots (right ns (spot_uses role.Input spot) (spots_uses role.Input spots) g) rest ((target (at ns) spot k).1) v h x
      ]

  targets_serial : (ns : List Named) (spots : List PSpot) → IsSerial ns → AllGood ns (spots_uses role.Input spots) → (k : ℕ) → Any (λ (t : plain.Target). t.at.var ≡ Slot 0) ((targets (at ns) spots k).0) → ⊥
  targets_serial ns [] here g k any = any_none (λ (t : plain.Target). t.at.var ≡ Slot 0) any
  targets_serial ns (spot ∷ spots) here g k any =
      elim (any_first (λ (t : plain.Target). t.at.var ≡ Slot 0) ((target (at ns) spot k).0) ((targets (at ns) spots ((target (at ns) spot k).1)).0) any) [
        | inl x ↦ not_serial ns (used spot.0 role.Input (length spot.1)) here refl g.0 x
        | inr x ↦ targets_serial ns spots here (right ns (spot_uses role.Input spot) (spots_uses role.Input spots) g) ((target (at ns) spot k).1) x
      ]

  not_both : (ns : List Named) → IsSerial ns → IsInside ns → ⊥
  not_both [] a b = b
  not_both (n ∷ ns) a b = a

  -- what is assigned in a DOALL
  own_target : (os : Open) (ns : List Named) (n : Named) (subs : ℕ) (es : List plain.Expr) → length es ≡ subs → AreAround os ns → shared os (used n role.Assigned subs) ≡ None → IsInside ns → IsOwn (var_of (at ns) n) (listed es)
  own_target os ns n subs [] count around none here =
      own_scalar os ns (used n role.Assigned subs) around (subst (λ (k : ℕ). nat_eq k 0 ≡ true) count refl) none here
  own_target os ns n subs (e ∷ es) count around none here = own_element (var_of (at ns) n) e (listed es)

  form_keeps : (f : PForm) (os : Open) (ns : List Named) → FormPlaced ns f → AreAround os ns → AllGood ns (form_uses f) → Clear os (form_uses f) → (line : ℕ) (k : Progress) → Keeps os ns ((formed f line (at ns) k).0)
  form_keeps (FAssign spot value) os ns placed around g clear line k =
      let u : Used = used spot.0 role.Assigned (length spot.1) in
      let count : length ((resolved_in (at ns) (plains spot.1) k.sites).0) ≡ length spot.1 = sym (sym (count_plains spot.1) ∙ fitting.resolved_count p.objects shapes (length ns) sorts (at ns) (plains spot.1) k.sites) in
      record {
        kept = λ v is h st. change os ns u refl refl g.0 clear.0.0 v h st;
        index = λ st. not_index os ns u around refl refl refl g.0 clear.0.1 st;
        dos = tt;
        alone = tt;
        own = λ here. own_target os ns spot.0 (length spot.1) ((resolved_in (at ns) (plains spot.1) k.sites).0) count around clear.0.1 here;
      }
  form_keeps (FLogicalIf cond place simple) os ns placed around g clear line k =
      let rest : Clear os (form_uses simple) = clear_right os (tree_uses cond) (form_uses simple) (tree_steady cond) clear in
      let start : Progress = at_site ((resolved (at ns) cond k.sites).1) k in
      let inner : Keeps os ns ((formed simple line (at ns) start).0) = form_keeps simple os ns placed around (right ns (tree_uses cond) (form_uses simple) g) rest line start in
      record {
        kept = λ v is h st. elim st [ inl x ↦ elim x [ inl y ↦ inner.kept v is h y | inr y ↦ y ] | inr x ↦ x ];
        index = λ st. elim st [ inl x ↦ elim x [ inl y ↦ inner.index y | inr y ↦ y ] | inr x ↦ x ];
        dos = ((inner.dos, tt), tt);
        alone = ((inner.alone, tt), tt);
        own = λ here. ((inner.own here, tt), tt);
      }
  form_keeps (FPrint shs) os ns placed around g clear line k = record { kept = λ v is h st. st; index = λ st. st; dos = tt; alone = tt; own = λ here. tt }
  form_keeps (FRead spots) os ns placed around g clear line k = record {
    kept = λ v is h st. targets_kept os ns spots g clear k.sites v h st;
    index = λ st. targets_serial ns spots placed g k.sites st;
    dos = tt;
    alone = tt;
    own = λ here. absurd (not_both ns placed here);
  }
  form_keeps (FDo l) os ns placed around g clear line k = absurd placed
  form_keeps (FDoall l privates) os ns placed around g clear line k = absurd placed
  form_keeps _ os ns placed around g clear line k = nothing_keeps os ns

  -- ---- loops
  counted_keeps : (line : ℕ) (l : PLoop) (inner : Resolves) (os : Open) (ns : List Named) → length ns ≤ 33 → AreAround os ns → Good ns (used l.0 role.Counted 0) → spoiled os (used l.0 role.Counted 0) ≡ None
      → shared os (used l.0 role.Counted 0) ≡ None → ((k : Progress) → Keeps (inside os l.0) ns (chain ((inner (at ns) k).0))) → ((k : Progress) → calls_in (chain ((inner (at ns) k).0)) ≡ 0)
      → (k : Progress) → Keeps os ns ((counted line (at ns) l inner k).0)
  counted_keeps line l inner os ns few around g none free keeps calls k =
      let u : Used = used l.0 role.Counted 0 in
      let v : Var = var_of (at ns) l.0 in
      let start : Progress = at_site (sites_after v ((controls line (at ns) l k.sites).1)) k in
      let b : Keeps (inside os l.0) ns (chain ((inner (at ns) start).0)) = keeps start in
      let here : IsCounted (inside os l.0) ns v = λ m e. subst (Holds (inside os l.0)) (one_inside names ns few apart l.0.name m v (mine ns u refl g) e) (holds_here os l.0) in
      record {
        kept = λ w is h st. elim st [
          | inl x ↦ change os ns u refl refl g none w h x
          | inr x ↦ b.kept w is (λ m e. holds_do os l.0 m (h m e)) x
        ];
        index = λ st. elim st [ inl x ↦ not_index os ns u around refl refl refl g free x | inr x ↦ b.index x ];
        dos = (λ may. b.kept v (is_variable ns u refl g) here (uncalled_stores p v (chain ((inner (at ns) start).0)) (calls start) may), b.dos);
        alone = b.alone;
        own = λ i. (own_scalar os ns u around refl free i, b.own i);
      }

  -- a variable outside is no slot of the DOALL
  outer_counted : (os : Open) (l : PLoop) (privates : List Named) (v : Var) → IsVar p.objects shapes 0 v → IsCounted os [] v → IsCounted (doall_open os l.0 privates) (l.0 ∷ privates) v
  outer_counted os l privates v is h m = go (slot_from 0 m (l.0 ∷ privates)) refl
    where
      go : (o : Option ℕ) → slot_from 0 m (l.0 ∷ privates) ≡ o → slot_or o (found m names) ≡ Some (meaning.Variable v) → Holds (doall_open os l.0 privates) m
      go None e f = holds_doall os l.0 privates m e (h m f)
      go (Some k) e f =
          let same : Slot k ≡ v = cc in
          let none : k < 0 = subst (IsVar p.objects shapes 0) (sym same) is in
          absurd (omega (arith, none))

  parallel_keeps : (line : ℕ) (l : PLoop) (privates : List Named) (inner : Resolves) (os : Open) → ((k : Progress) → Keeps (doall_open os l.0 privates) (l.0 ∷ privates) (chain ((inner (at (l.0 ∷ privates)) k).0)))
      → (k : Progress) → Keeps os [] ((looped line (FDoall l privates) inner (at []) k).0)
  parallel_keeps line l privates inner os keeps k =
      let start : Progress = with_doall ((controls line (at []) l k.sites).1) k in
      let b : Keeps (doall_open os l.0 privates) (l.0 ∷ privates) (chain ((inner (at (l.0 ∷ privates)) start).0)) = keeps start in
      record {
        kept = λ v is h st. b.kept v (var_more p.objects shapes (length (l.0 ∷ privates)) v is) (outer_counted os l privates v is h) st;
        index = b.index;
        dos = b.dos;
        alone = b.own tt;
        own = λ i. absurd i;
      }

  loop_keeps : (f : PForm) (line : ℕ) (inner : Resolves) (us : List Used) (P : List Named → Type 0) (os : Open) (ns : List Named) → length ns ≤ 33 → HeadPlaced ns f P → AreAround os ns
      → AllGood ns (form_uses f) → AllGood ns us → Clear os (form_uses f ++ us)
      → ((now : Open) (ms : List Named) → length ms ≤ 33 → P ms → AreAround now ms → AllGood ms us → Clear now us → (k : Progress) → Keeps now ms (chain ((inner (at ms) k).0)))
      → ((ms : List Named) (k : Progress) → calls_in (chain ((inner (at ms) k).0)) ≡ 0) → (k : Progress) → Keeps os ns ((looped line f inner (at ns) k).0)
  loop_keeps (FDo l) line inner us P os ns few placed around g good clear keeps calls k =
      let rest : Clear (inside os l.0) us = subst (λ (z : Open). Clear z us) (do_after os l) (clear_after os (form_uses (FDo l)) us clear) in
      counted_keeps line l inner os ns few around g.0 clear.0.0 clear.0.1 (keeps (inside os l.0) ns few placed (around_do os ns l.0 around) good rest) (calls ns) k
  loop_keeps (FDoall l ps) line inner us P os [] few placed around g good clear keeps calls k =
      let rest : Clear (doall_open os l.0 ps) us = subst (λ (z : Open). Clear z us) (doall_after os l ps) (clear_after os (form_uses (FDoall l ps)) us clear) in
      parallel_keeps line l ps inner os
      (keeps (doall_open os l.0 ps) (l.0 ∷ ps) placed.1.few placed.2 (around_doall os l.0 ps around placed.1.once) (blocks.doall_good p (λ u. 0) 0 shapes sorts names l ps placed.1 g us good) rest) k
  loop_keeps (FDoall l ps) line inner us P os (n ∷ ns) few placed around g good clear keeps calls k = absurd placed.0
  loop_keeps _ line inner us P os ns few placed around g good clear keeps calls k = absurd placed

  -- ---- branches
  if_keeps : (os : Open) (ns : List Named) (arms : plain.Stmt) → Keeps os ns arms → Keeps os ns (plain.If arms)
  if_keeps os ns arms h = record { kept = h.kept; index = h.index; dos = h.dos; alone = h.alone; own = h.own }

  skip_keeps : (os : Open) (ns : List Named) → Keeps os ns plain.Skip
  skip_keeps os ns = record { kept = λ v is h st. st; index = λ st. st; dos = tt; alone = tt; own = λ i. tt }

  arm_keeps : (os : Open) (ns : List Named) (line : ℕ) (cond : plain.Expr) (body o : plain.Stmt) → Keeps os ns body → Keeps os ns o → Keeps os ns (plain.Arm line cond body o)
  arm_keeps os ns line cond body o f g = record {
    kept = λ v is h st. elim st [ inl x ↦ f.kept v is h x | inr x ↦ g.kept v is h x ];
    index = λ st. elim st [ inl x ↦ f.index x | inr x ↦ g.index x ];
    dos = (f.dos, g.dos);
    alone = (f.alone, g.alone);
    own = λ i. (f.own i, g.own i);
  }

  -- ---- constructs
  mutual
    node_keeps : (n : PNode) (os : Open) (ns : List Named) → length ns ≤ 33 → NodePlaced ns n → AreAround os ns → AllGood ns (node_uses n) → Clear os (node_uses n) → (k : Progress) → Keeps os ns ((noded n (at ns) k).0)
    node_keeps (NPlain st) os ns few placed around g clear k = form_keeps st.form os ns placed around g clear st.place.line k
    node_keeps (NIf bs end) os ns few placed around g clear k =
        if_keeps os ns (in_arms ((arms_in bs (at ns) k).0) plain.Skip) (blocks.arms_keep (Keeps os ns) ((arms_in bs (at ns) k).0) plain.Skip (branches_keep bs os ns few placed around g clear k) (skip_keeps os ns))
    node_keeps (NElse bs head b end) os ns few placed around g clear k =
        let rest : Clear os (statement_uses head ++ body_uses b) = clear_right os (branches_uses bs) (statement_uses head ++ body_uses b) (branches_steady ns bs placed.0) clear in
        let last : Clear os (body_uses b) = clear_right os (statement_uses head) (body_uses b) (form_steady head.form placed.1) rest in
        let good : AllGood ns (statement_uses head ++ body_uses b) = right ns (branches_uses bs) (statement_uses head ++ body_uses b) g in
        let m : Progress = (arms_in bs (at ns) k).1 in
        if_keeps os ns (in_arms ((arms_in bs (at ns) k).0) (chain ((nodes_in b (at ns) m).0)))
        (blocks.arms_keep (Keeps os ns) ((arms_in bs (at ns) k).0) (chain ((nodes_in b (at ns) m).0))
        (branches_keep bs os ns few placed.0 around (left ns (branches_uses bs) (statement_uses head ++ body_uses b) g) (clear_left os (branches_uses bs) (statement_uses head ++ body_uses b) clear) k)
        (body_keeps b os ns few placed.2 around (right ns (statement_uses head) (body_uses b) good) last m))
    node_keeps (NLoop head b end) os ns few placed around g clear k =
        let two : AllGood ns (statement_uses head ++ body_uses b) = left ns (statement_uses head ++ body_uses b) (closing_uses head.form) g in
        loop_keeps head.form head.place.line (nodes_in b) (body_uses b) (λ ms. BodyPlaced ms b) os ns few placed around (left ns (statement_uses head) (body_uses b) two) (right ns (statement_uses head) (body_uses b) two)
        (clear_left os (statement_uses head ++ body_uses b) (closing_uses head.form) clear) (λ now ms few there around good clear k. body_keeps b now ms few there around good clear k) (λ ms k. (body_counts b (at ms) k).calls) k

    pub body_keeps : (b : PBody) (os : Open) (ns : List Named) → length ns ≤ 33 → BodyPlaced ns b → AreAround os ns → AllGood ns (body_uses b) → Clear os (body_uses b) → (k : Progress) → Keeps os ns (chain ((nodes_in b (at ns) k).0))
    body_keeps Empty os ns few placed around g clear k = skip_keeps os ns
    body_keeps (More n rest) os ns few placed around g clear k =
        let m : Progress = (noded n (at ns) k).1 in
        let a : Keeps os ns ((noded n (at ns) k).0) = node_keeps n os ns few placed.0 around (left ns (node_uses n) (body_uses rest) g) (clear_left os (node_uses n) (body_uses rest) clear) k in
        let b : Keeps os ns (chain ((nodes_in rest (at ns) m).0)) =
        body_keeps rest os ns few placed.1 around (right ns (node_uses n) (body_uses rest) g) (clear_right os (node_uses n) (body_uses rest) (node_steady ns n placed.0) clear) m in
        record {
          kept = λ v is h st. elim st [ inl x ↦ a.kept v is h x | inr x ↦ b.kept v is h x ];
          index = λ st. elim st [ inl x ↦ a.index x | inr x ↦ b.index x ];
          dos = (a.dos, b.dos);
          alone = (a.alone, b.alone);
          own = λ i. (a.own i, b.own i);
        }

    branches_keep : (bs : PBranches) (os : Open) (ns : List Named) → length ns ≤ 33 → BranchesPlaced ns bs → AreAround os ns → AllGood ns (branches_uses bs) → Clear os (branches_uses bs) → (k : Progress) → blocks.EachKeeps (Keeps os ns) ((arms_in bs (at ns) k).0)
    branches_keep BNone os ns few placed around g clear k = tt
    branches_keep (BMore head b rest) os ns few placed around g clear k =
        let two : AllGood ns (statement_uses head ++ body_uses b) = left ns (statement_uses head ++ body_uses b) (branches_uses rest) g in
        let first : Clear os (statement_uses head ++ body_uses b) = clear_left os (statement_uses head ++ body_uses b) (branches_uses rest) clear in
        let last : Clear os (body_uses b) = clear_right os (statement_uses head) (body_uses b) (form_steady head.form placed.0) first in
        let later : Clear os (branches_uses rest) =
        clear_right os (statement_uses head ++ body_uses b) (branches_uses rest) (branch_steady ns head b placed.0 placed.1) clear in
        let start : Progress = at_site ((condition head.form (at ns) k.sites).1) k in
        let m : Progress = (arm head (nodes_in b) (at ns) k).1 in (
          λ o f. arm_keeps os ns head.place.line ((condition head.form (at ns) k.sites).0) (chain ((nodes_in b (at ns) start).0)) o
              (body_keeps b os ns few placed.1 around (right ns (statement_uses head) (body_uses b) two) last start) f,
          branches_keep rest os ns few placed.2 around (right ns (statement_uses head ++ body_uses b) (branches_uses rest) g) later m,
        )
