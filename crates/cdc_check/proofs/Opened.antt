-- The loops that are open after the uses of statements: the same as before them. And what is right in uses from such loops on.
use Rattle.std.proofs.Common.{◌≡◌, ℕ, zero, suc, ◌+◌, ◌-◌, ◌≤◌, false, List, [], ◌∷◌, ◌++◌, map, length, take, Option, Some, None, refl, ap, sym, subst, ◌∙◌, arith, append_assoc}
use Rattle.std.proofs.lemmas.List.{append-nil, length-append, length-map}
use Rattle.cdc_tree.specs.declared.tree.Named.{Named}
use Rattle.cdc_tree.specs.Plain.{Plain, PNumber, PName, PApply, PParen, PPlus, PUn, PBin, PKnown, Plains, PEnd, PMore, plains}
use Rattle.cdc_tree.specs.Forms.{PBound, PSpot, PLoop, PShown, PText, PValue, PStatement, PForm, FSubroutine, FInteger, FParameter, FAssign, FIfThen, FElseIf, FLogicalIf, FDo, FDoall, FCall, FPrint, FRead}
use Rattle.cdc_tree.specs.Order.{Each}
use Rattle.cdc_tree.specs.Units.{PNode, NPlain, NIf, NElse, NLoop, PBody, Empty, More, PBranches, BNone, BMore}
use Rattle.cdc_names.specs.declared.name_use.Role.{Role}
use Rattle.cdc_names.specs.declared.name_use.Role.TheVariants as role
use Rattle.cdc_names.specs.DoVariables.{opened_after, spoiled, spoiled_from}
use Rattle.cdc_names.specs.Privates.{shared, shared_from}
use Rattle.cdc_names.specs.Places.{joined}
use Rattle.cdc_names.specs.Used.{Used}
use Rattle.cdc_names.specs.Uses.{tree_uses, trees_uses, optional_uses, actual_uses, spot_uses, shown_uses, bound_uses, item_uses, define_uses, control_uses, names_uses, form_uses, statement_uses, statements_uses, closing_uses, node_uses, body_uses, branches_uses}
use Rattle.cdc_check.specs.Built.{begins_loop, BeginsNone}
use Rattle.cdc_check.proofs.Extents.{sooner_none}
use Rattle.cdc_check.proofs.Placed.{FormPlaced, HeadPlaced, NodePlaced, BodyPlaced, BranchesPlaced}

-- the open loops
abbrev pub Open : Type 0
Open = List (List ℕ × Role)

abbrev pub open_after : Open → List Used → Open
open_after os [] = os
open_after os (u ∷ us) = open_after (opened_after os u.role u.name) us

after_append : (os : Open) (xs ys : List Used) → open_after os (xs ++ ys) ≡ open_after (open_after os xs) ys
after_append os [] ys = refl
after_append os (x ∷ xs) ys = after_append (opened_after os x.role x.name) xs ys

-- ---- nothing is wrong in uses

-- no variable of an open DO is changed, and no scalar of an open DOALL that is not private
abbrev pub Clear : Open → List Used → Type 0
Clear os [] = Unit {0}
Clear os (u ∷ us) = ((spoiled os u ≡ None) × (shared os u ≡ None)) × Clear (opened_after os u.role u.name) us

pub clear_from : (os : Open) (us : List Used) → spoiled_from os us ≡ None → shared_from os us ≡ None → Clear os us
clear_from os [] h k = tt
clear_from os (u ∷ us) h k =
    let next : Open = opened_after os u.role u.name in
    let a : (spoiled os u ≡ None) × (spoiled_from next us ≡ None) = sooner_none (spoiled os u) (spoiled_from next us) h in
    let b : (shared os u ≡ None) × (shared_from next us ≡ None) = sooner_none (shared os u) (shared_from next us) k in
    ((a.0, b.0), clear_from next us a.1 b.1)

pub clear_left : (os : Open) (xs ys : List Used) → Clear os (xs ++ ys) → Clear os xs
clear_left os [] ys h = tt
clear_left os (x ∷ xs) ys h = (h.0, clear_left (opened_after os x.role x.name) xs ys h.1)

pub clear_after : (os : Open) (xs ys : List Used) → Clear os (xs ++ ys) → Clear (open_after os xs) ys
clear_after os [] ys h = h
clear_after os (x ∷ xs) ys h = clear_after (opened_after os x.role x.name) xs ys h.1

-- ---- uses after which the same loops are open
abbrev pub Steady : List Used → Type 0
Steady us = (os : Open) → open_after os us ≡ os

-- so nothing is wrong from the same loops on
pub clear_right : (os : Open) (xs ys : List Used) → Steady xs → Clear os (xs ++ ys) → Clear os ys
clear_right os xs ys steady h = subst (λ (z : Open). Clear z ys) (steady os) (clear_after os xs ys h)

pub steady_append : (xs ys : List Used) → Steady xs → Steady ys → Steady (xs ++ ys)
steady_append xs ys f g os = after_append os xs ys ∙ g (open_after os xs) ∙ f os

mutual
  pub tree_steady : (t : Plain) → Steady (tree_uses t)
  tree_steady (PNumber place n) os = refl
  tree_steady (PName n) os = refl
  tree_steady (PApply n ts) os = trees_steady ts os
  tree_steady (PParen place a) os = tree_steady a os
  tree_steady (PPlus place a) os = tree_steady a os
  tree_steady (PUn place op a) os = tree_steady a os
  tree_steady (PBin op a b) os = steady_append (tree_uses a) (tree_uses b) (tree_steady a) (tree_steady b) os
  tree_steady (PKnown place which ts) os = trees_steady ts os

  trees_steady : (ts : Plains) → Steady (trees_uses ts)
  trees_steady PEnd os = refl
  trees_steady (PMore t more) os = steady_append (tree_uses t) (trees_uses more) (tree_steady t) (trees_steady more) os

optional_steady : (t : Option Plain) → Steady (optional_uses t)
optional_steady None os = refl
optional_steady (Some t) os = tree_steady t os

joined_steady : {A : Type 0} (f : A → List Used) → ((x : A) → Steady (f x)) → (xs : List A) → Steady (joined (map f xs))
joined_steady f h [] os = refl
joined_steady f h (x ∷ xs) os = steady_append (f x) (joined (map f xs)) (h x) (joined_steady f h xs) os

dummies_steady : (ns : List Named) → Steady (names_uses role.Dummy ns)
dummies_steady [] os = refl
dummies_steady (n ∷ ns) os = dummies_steady ns os

bound_steady : (b : PBound) → Steady (bound_uses b)
bound_steady b = steady_append (optional_uses b.0) (tree_uses b.1) (optional_steady b.0) (tree_steady b.1)

shown_steady : (sh : PShown) → Steady (shown_uses sh)
shown_steady (PText text) os = refl
shown_steady (PValue t) os = tree_steady t os

actual_steady : (t : Plain) → Steady (actual_uses t)
actual_steady (PName n) os = refl
actual_steady t os = tree_steady t os

pub read_steady : (spot : PSpot) → Steady (spot_uses role.Input spot)
read_steady spot os = trees_steady (plains spot.1) os

pub control_steady : (l : PLoop) → Steady (control_uses l)
control_steady l =
    steady_append (tree_uses l.1 ++ tree_uses l.2) (optional_uses l.3) (steady_append (tree_uses l.1) (tree_uses l.2) (tree_steady l.1) (tree_steady l.2)) (optional_steady l.3)

pub form_steady : (f : PForm) → begins_loop f ≡ false → Steady (form_uses f)
form_steady (FSubroutine name dummies) h = dummies_steady dummies
form_steady (FInteger items) h = joined_steady item_uses (λ d. joined_steady bound_uses bound_steady d.1) items
form_steady (FParameter items) h = joined_steady define_uses (λ d. tree_steady d.1) items
form_steady (FAssign spot value) h = steady_append (spot_uses role.Assigned spot) (tree_uses value) (λ os. trees_steady (plains spot.1) os) (tree_steady value)
form_steady (FIfThen cond) h = tree_steady cond
form_steady (FElseIf cond) h = tree_steady cond
form_steady (FLogicalIf cond place simple) h = steady_append (tree_uses cond) (form_uses simple) (tree_steady cond) (form_steady simple h)
form_steady (FDo l) h = cc
form_steady (FDoall l privates) h = cc
form_steady (FCall name actuals) h = joined_steady actual_uses actual_steady actuals
form_steady (FPrint shs) h = joined_steady shown_uses shown_steady shs
form_steady (FRead spots) h = joined_steady (spot_uses role.Input) read_steady spots
form_steady _ h = λ os. refl

pub placed_begins : (ns : List Named) (f : PForm) → FormPlaced ns f → begins_loop f ≡ false
placed_begins ns (FLogicalIf cond place simple) h = placed_begins ns simple h
placed_begins ns (FDo l) h = absurd h
placed_begins ns (FDoall l privates) h = absurd h
placed_begins ns _ h = refl

pub statements_steady : (ss : List PStatement) → Each BeginsNone ss → Steady (statements_uses ss)
statements_steady [] h os = refl
statements_steady (s ∷ ss) h os = steady_append (statement_uses s) (statements_uses ss) (form_steady s.form h.0) (statements_steady ss h.1) os

-- ---- loops
-- the loops that are open in the body of a DO
abbrev pub inside : Open → Named → Open
inside os n = os ++ (n.name, role.Counted) ∷ []

-- the names of a DOALL as loops that are open in its body
abbrev pub privates_open : List Named → Open
privates_open privates = map (λ n. (n.name, role.Private)) privates

abbrev pub doall_open : Open → Named → List Named → Open
doall_open os index privates = (os ++ (index.name, role.Index) ∷ []) ++ privates_open privates

privates_after : (os : Open) (privates : List Named) → open_after os (names_uses role.Private privates) ≡ os ++ privates_open privates
privates_after os [] = sym (append-nil os)
privates_after os (n ∷ ns) = privates_after (os ++ (n.name, role.Private) ∷ []) ns ∙ append_assoc os ((n.name, role.Private) ∷ []) (privates_open ns)

pub doall_after : (os : Open) (l : PLoop) (privates : List Named) → open_after os (form_uses (FDoall l privates)) ≡ doall_open os l.0 privates
doall_after os l privates =
    let now : Open = os ++ (l.0.name, role.Index) ∷ [] in
    after_append now (control_uses l) (names_uses role.Private privates) ∙ ap (λ (z : Open). open_after z (names_uses role.Private privates)) (control_steady l now) ∙ privates_after now privates

pub do_after : (os : Open) (l : PLoop) → open_after os (form_uses (FDo l)) ≡ inside os l.0
do_after os l = control_steady l (inside os l.0)

take_front : (os ys : Open) (n k : ℕ) → n ≡ length os + k → take n (os ++ ys) ≡ os ++ take k ys
take_front [] ys n k e = let same : n ≡ k = omega (arith, e) in ap (λ (m : ℕ). take m ys) same
take_front (o ∷ os) ys n k e =
    let more : n ≡ suc (length os + k) = omega (arith, e) in
    ap (λ (m : ℕ). take m (o ∷ (os ++ ys))) more ∙ ap (λ (l : Open). o ∷ l) (take_front os ys (length os + k) k refl)

take_length : (ys : Open) (k : ℕ) → k ≤ length ys → length (take k ys) ≡ k
take_length ys zero h = refl
take_length [] (suc k) h = absurd (omega (arith, h))
take_length (y ∷ ys) (suc k) h = ap suc (take_length ys k (omega (arith, h)))

-- the ends of loops close as many
closes : (os ys : Open) (ns : List Named) → length ys ≡ length ns → open_after (os ++ ys) (names_uses role.Closed ns) ≡ os
closes os [] [] e = append-nil os
closes os (y ∷ ys) [] e = absurd (omega (arith, e))
closes os ys (n ∷ ns) e =
    let count : length (os ++ ys) ≡ length os + length ys = length-append os ys in
    let fewer : length (os ++ ys) - 1 ≡ length os + length ns = omega (arith, count, e) in
    let rest : length (take (length ns) ys) ≡ length ns = take_length ys (length ns) (omega (arith, e)) in
    ap (λ (z : Open). open_after z (names_uses role.Closed ns)) (take_front os ys (length (os ++ ys) - 1) (length ns) fewer) ∙ closes os (take (length ns) ys) ns rest

-- a loop of which these names end
loop_steady : (f : PForm) (us : List Used) (ns : List Named) (os ys : Open) → open_after os (form_uses f) ≡ os ++ ys → length ys ≡ length ns → Steady us
    → open_after os ((form_uses f ++ us) ++ names_uses role.Closed ns) ≡ os
loop_steady f us ns os ys e count steady =
    after_append os (form_uses f ++ us) (names_uses role.Closed ns)
    ∙ ap (λ (z : Open). open_after z (names_uses role.Closed ns)) (after_append os (form_uses f) us ∙ ap (λ (z : Open). open_after z us) e ∙ steady (os ++ ys))
    ∙ closes os ys ns count

head_steady : (ns : List Named) (f : PForm) (P : List Named → Type 0) (us : List Used) → HeadPlaced ns f P → ((ms : List Named) → P ms → Steady us) → Steady ((form_uses f ++ us) ++ closing_uses f)
head_steady ns (FDo l) P us h steady os = loop_steady (FDo l) us (l.0 ∷ []) os ((l.0.name, role.Counted) ∷ []) (do_after os l) refl (steady ns h)
head_steady ns (FDoall l privates) P us h steady os =
    loop_steady (FDoall l privates) us (l.0 ∷ privates) os ((l.0.name, role.Index) ∷ privates_open privates)
    (doall_after os l privates ∙ append_assoc os ((l.0.name, role.Index) ∷ []) (privates_open privates)) (ap suc (length-map privates (λ (n : Named). (n.name, role.Private)))) (steady (l.0 ∷ privates) h.2)
head_steady ns _ P us h steady os = absurd h

head_then : (head : PStatement) (us : List Used) → begins_loop head.form ≡ false → Steady us → Steady (statement_uses head ++ us)
head_then head us h steady = steady_append (statement_uses head) us (form_steady head.form h) steady

mutual
  pub node_steady : (ns : List Named) (n : PNode) → NodePlaced ns n → Steady (node_uses n)
  node_steady ns (NPlain s) h = form_steady s.form (placed_begins ns s.form h)
  node_steady ns (NIf bs end) h = branches_steady ns bs h
  node_steady ns (NElse bs head b end) h =
      steady_append (branches_uses bs) (statement_uses head ++ body_uses b) (branches_steady ns bs h.0)
      (head_then head (body_uses b) h.1 (body_steady ns b h.2))
  node_steady ns (NLoop head b end) h = head_steady ns head.form (λ ms. BodyPlaced ms b) (body_uses b) h (λ ms placed. body_steady ms b placed)

  pub body_steady : (ns : List Named) (b : PBody) → BodyPlaced ns b → Steady (body_uses b)
  body_steady ns Empty h = λ os. refl
  body_steady ns (More n b) h = steady_append (node_uses n) (body_uses b) (node_steady ns n h.0) (body_steady ns b h.1)

  pub branches_steady : (ns : List Named) (bs : PBranches) → BranchesPlaced ns bs → Steady (branches_uses bs)
  branches_steady ns BNone h = λ os. refl
  branches_steady ns (BMore head b more) h =
      steady_append (statement_uses head ++ body_uses b) (branches_uses more)
      (head_then head (body_uses b) h.0 (body_steady ns b h.1)) (branches_steady ns more h.2)

pub branch_steady : (ns : List Named) (head : PStatement) (b : PBody) → begins_loop head.form ≡ false → BodyPlaced ns b → Steady (statement_uses head ++ body_uses b)
branch_steady ns head b h placed = head_then head (body_uses b) h (body_steady ns b placed)
