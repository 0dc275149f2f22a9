-- Where statements stand in accepted units: DOALL loops in serial code alone, and in their bodies assignments, IF and DO.
use Rattle.std.proofs.Common.{◌≡◌, ℕ, ◌≤◌, Bool, true, false, List, [], ◌∷◌, ◌++◌, map, length, Option, Some, None, refl, arith}
use Rattle.std.specs.Prelude.{if◌then◌else◌, nat_lt, ◌||◌}
use Rattle.std.specs.List.{list_any}
use Rattle.cdc_base.specs.declared.place.Place.{Place}
use Rattle.cdc_tree.specs.declared.tree.Named.{Named}
use Rattle.cdc_tree.specs.Forms.{PForm, FLogicalIf, FDo, FDoall, FPrint, FRead}
use Rattle.cdc_tree.specs.Order.{Each}
use Rattle.cdc_tree.specs.Units.{PNode, NPlain, NIf, NElse, NLoop, PBody, Empty, More, PBranches, BNone, BMore, PUnit, node_out, out, branches_out}
use Rattle.cdc_names.specs.DoallBodies.{misfit, misplaced, is_doall, node_inside, body_inside, branches_inside}
use Rattle.cdc_names.specs.Duplicates.{twice, sooner_pair, before_pair, first_pair, node_lists, body_lists, branches_lists, slot_lists, slot_names, unit_lists, name_lists, duplicate_in}
use Rattle.cdc_names.specs.Places.{joined}
use Rattle.cdc_check.specs.Built.{is_loop, begins_loop, NodeLoops, BodyLoops, BranchesLoop}
use Rattle.cdc_check.proofs.Extents.{EachNone}

-- the index and private names of the DOALL around a place; none in serial code
abbrev pub IsSerial : List Named → Type 0
IsSerial [] = Unit {0}
IsSerial (n ∷ ns) = ⊥

abbrev pub IsInside : List Named → Type 0
IsInside [] = ⊥
IsInside (n ∷ ns) = Unit {0}

-- the index and private names of a DOALL differ, and are 33 at most
pub record AreSlots (ns : List Named) : Type 0 where
  pub few : length ns ≤ 33
  pub once : twice ns ≡ None

-- a statement that is no loop; in a DOALL it only assigns, also within a logical IF
abbrev pub FormPlaced : List Named → PForm → Type 0
FormPlaced ns (FLogicalIf condition place simple) = FormPlaced ns simple
FormPlaced ns (FDo l) = ⊥
FormPlaced ns (FDoall l privates) = ⊥
FormPlaced ns (FPrint items) = IsSerial ns
FormPlaced ns (FRead targets) = IsSerial ns
FormPlaced ns _ = Unit {0}

-- the head of a loop, where P holds of the body and the slots around it
abbrev pub HeadPlaced : List Named → PForm → (List Named → Type 0) → Type 0
HeadPlaced ns (FDo l) P = P ns
HeadPlaced ns (FDoall l privates) P = IsSerial ns × AreSlots (l.0 ∷ privates) × P (l.0 ∷ privates)
HeadPlaced ns _ P = ⊥

abbrev mutual
  pub NodePlaced : List Named → PNode → Type 0
  NodePlaced ns (NPlain s) = FormPlaced ns s.form
  NodePlaced ns (NIf branches end) = BranchesPlaced ns branches
  NodePlaced ns (NElse branches head other end) = BranchesPlaced ns branches × (begins_loop head.form ≡ false) × BodyPlaced ns other
  NodePlaced ns (NLoop head inner end) = HeadPlaced ns head.form (λ ms. BodyPlaced ms inner)

  pub BodyPlaced : List Named → PBody → Type 0
  BodyPlaced ns Empty = Unit {0}
  BodyPlaced ns (More n rest) = NodePlaced ns n × BodyPlaced ns rest

  pub BranchesPlaced : List Named → PBranches → Type 0
  BranchesPlaced ns BNone = Unit {0}
  BranchesPlaced ns (BMore head inner rest) = (begins_loop head.form ≡ false) × BodyPlaced ns inner × BranchesPlaced ns rest

-- ---- lists
pub none_left : {A : Type 0} (f : A → Option Place) (xs ys : List A) → EachNone f (xs ++ ys) → EachNone f xs
none_left f [] ys h = tt
none_left f (x ∷ xs) ys h = (h.0, none_left f xs ys h.1)

pub none_right : {A : Type 0} (f : A → Option Place) (xs ys : List A) → EachNone f (xs ++ ys) → EachNone f ys
none_right f [] ys h = h
none_right f (x ∷ xs) ys h = none_right f xs ys h.1

pub each_left : {A : Type 0} (P : A → Type 0) (xs ys : List A) → Each P (xs ++ ys) → Each P xs
each_left P [] ys h = tt
each_left P (x ∷ xs) ys h = (h.0, each_left P xs ys h.1)

pub each_right : {A : Type 0} (P : A → Type 0) (xs ys : List A) → Each P (xs ++ ys) → Each P ys
each_right P [] ys h = h
each_right P (x ∷ xs) ys h = each_right P xs ys h.1

-- ---- in the body of a DOALL
form_inside : (n : Named) (ns : List Named) (f : PForm) (place : Place) → begins_loop f ≡ false → misfit place f ≡ None → FormPlaced (n ∷ ns) f
form_inside n ns (FLogicalIf c p simple) place b h = form_inside n ns simple p b h
form_inside n ns (FDo l) place b h = cc
form_inside n ns (FDoall l privates) place b h = cc
form_inside n ns (FPrint items) place b h = cc
form_inside n ns (FRead targets) place b h = cc
form_inside n ns _ place b h = tt

head_inside : (n : Named) (ns : List Named) (f : PForm) (place : Place) (P : List Named → Type 0) → is_loop f ≡ true → misfit place f ≡ None → P (n ∷ ns) → HeadPlaced (n ∷ ns) f P
head_inside n ns (FDo l) place P b h p = p
head_inside n ns (FDoall l privates) place P b h p = cc
head_inside n ns _ place P b h p = cc

module _ (n : Named) (ns : List Named) where
  mutual
    node_in : (x : PNode) → NodeLoops x → EachNone misplaced (node_out x) → NodePlaced (n ∷ ns) x
    node_in (NPlain s) b h = form_inside n ns s.form s.place b h.0
    node_in (NIf bs end) b h = branches_in bs b (none_left misplaced (branches_out bs) (end ∷ []) h)
    node_in (NElse bs head other end) b h =
        let after : EachNone misplaced (head ∷ (out other ++ (end ∷ []))) = none_right misplaced (branches_out bs) (head ∷ (out other ++ (end ∷ []))) h in
        (branches_in bs b.0 (none_left misplaced (branches_out bs) (head ∷ (out other ++ (end ∷ []))) h), b.1, body_in other b.2 (none_left misplaced (out other) (end ∷ []) after.1))
    node_in (NLoop head inner end) b h =
        head_inside n ns head.form head.place (λ ms. BodyPlaced ms inner) b.0 h.0 (body_in inner b.1 (none_left misplaced (out inner) (end ∷ []) h.1))

    body_in : (x : PBody) → BodyLoops x → EachNone misplaced (out x) → BodyPlaced (n ∷ ns) x
    body_in Empty b h = tt
    body_in (More m rest) b h = (node_in m b.0 (none_left misplaced (node_out m) (out rest) h), body_in rest b.1 (none_right misplaced (node_out m) (out rest) h))

    branches_in : (x : PBranches) → BranchesLoop x → EachNone misplaced (branches_out x) → BranchesPlaced (n ∷ ns) x
    branches_in BNone b h = tt
    branches_in (BMore head inner rest) b h =
        (b.0, body_in inner b.1 (none_left misplaced (out inner) (branches_out rest) h.1), branches_in rest b.2 (none_right misplaced (out inner) (branches_out rest) h.1))

-- ---- in serial code
form_serial : (f : PForm) → begins_loop f ≡ false → FormPlaced [] f
form_serial (FLogicalIf c p simple) b = form_serial simple b
form_serial (FDo l) b = cc
form_serial (FDoall l privates) b = cc
form_serial (FPrint items) b = tt
form_serial (FRead targets) b = tt
form_serial _ b = tt

head_serial : (f : PForm) (inner : PBody) → is_loop f ≡ true → BodyLoops inner → Each AreSlots (slot_names f) → EachNone misplaced (if is_doall f then out inner else body_inside inner)
    → (EachNone misplaced (body_inside inner) → BodyPlaced [] inner) → HeadPlaced [] f (λ ms. BodyPlaced ms inner)
head_serial (FDo l) inner b loops slots h more = more h
head_serial (FDoall l privates) inner b loops slots h more = (tt, slots.0, body_in l.0 privates inner loops h)
head_serial _ inner b loops slots h more = cc

mutual
  node_serial : (x : PNode) → NodeLoops x → Each AreSlots (node_lists x) → EachNone misplaced (node_inside x) → NodePlaced [] x
  node_serial (NPlain s) b slots h = form_serial s.form b
  node_serial (NIf bs end) b slots h = branches_serial bs b slots h
  node_serial (NElse bs head other end) b slots h = (
    branches_serial bs b.0 (each_left AreSlots (branches_lists bs) (body_lists other) slots) (none_left misplaced (branches_inside bs) (body_inside other) h),
    b.1,
    body_serial other b.2 (each_right AreSlots (branches_lists bs) (body_lists other) slots) (none_right misplaced (branches_inside bs) (body_inside other) h),
  )
  node_serial (NLoop head inner end) b slots h =
      head_serial head.form inner b.0 b.1 (each_left AreSlots (slot_names head.form) (body_lists inner) slots) h
      (body_serial inner b.1 (each_right AreSlots (slot_names head.form) (body_lists inner) slots))

  pub body_serial : (x : PBody) → BodyLoops x → Each AreSlots (body_lists x) → EachNone misplaced (body_inside x) → BodyPlaced [] x
  body_serial Empty b slots h = tt
  body_serial (More m rest) b slots h = (
    node_serial m b.0 (each_left AreSlots (node_lists m) (body_lists rest) slots) (none_left misplaced (node_inside m) (body_inside rest) h),
    body_serial rest b.1 (each_right AreSlots (node_lists m) (body_lists rest) slots) (none_right misplaced (node_inside m) (body_inside rest) h),
  )

  branches_serial : (x : PBranches) → BranchesLoop x → Each AreSlots (branches_lists x) → EachNone misplaced (branches_inside x) → BranchesPlaced [] x
  branches_serial BNone b slots h = tt
  branches_serial (BMore head inner rest) b slots h = (
    b.0,
    body_serial inner b.1 (each_left AreSlots (body_lists inner) (branches_lists rest) slots) (none_left misplaced (body_inside inner) (branches_inside rest) h),
    branches_serial rest b.2 (each_right AreSlots (body_lists inner) (branches_lists rest) slots) (none_right misplaced (body_inside inner) (branches_inside rest) h),
  )

-- ---- the slots of units that are not refused
pair_some : (p : Place × Place) (o : Option (Place × Place)) → sooner_pair (Some p) o ≡ None → ⊥
pair_some p None h = cc
pair_some p (Some q) h = go (before_pair q p) h
  where
    go : (b : Bool) → (if b then Some q else Some p) ≡ None → ⊥
    go true e = cc
    go false e = cc

none_of_pair : (a b : Option (Place × Place)) → sooner_pair a b ≡ None → (a ≡ None) × (b ≡ None)
none_of_pair None b h = (refl, h)
none_of_pair (Some p) b h = absurd (pair_some p b h)

once_each : (best : Option (Place × Place)) (lists : List (List Named)) → first_pair best lists ≡ None → (best ≡ None) × Each (λ ns. twice ns ≡ None) lists
once_each best [] h = (h, tt)
once_each best (ns ∷ lists) h =
    let rest : (sooner_pair best (twice ns) ≡ None) × Each (λ ms. twice ms ≡ None) lists = once_each (sooner_pair best (twice ns)) lists h in
    let both : (best ≡ None) × (twice ns ≡ None) = none_of_pair best (twice ns) rest.0 in
    (both.0, (both.1, rest.1))

abbrev Once : List Named → Type 0
Once ns = twice ns ≡ None

-- the slot lists of each unit
abbrev EachUnit : (List Named → Type 0) → List PUnit → Type 0
EachUnit P us = Each (λ u. Each P (body_lists u.body)) us

once_units : (us : List PUnit) → Each Once (joined (map unit_lists us)) → EachUnit Once us
once_units [] h = tt
once_units (u ∷ us) h =
    let mine : Each Once (unit_lists u) = each_left Once (unit_lists u) (joined (map unit_lists us)) h in
    (mine.1.1, once_units us (each_right Once (unit_lists u) (joined (map unit_lists us)) h))

abbrev Few : List Named → Type 0
Few ns = length ns ≤ 33

or_false : (a b : Bool) → (a || b) ≡ false → (a ≡ false) × (b ≡ false)
or_false true b h = cc
or_false false b h = (refl, h)

not_more : (n : ℕ) → nat_lt 33 n ≡ false → n ≤ 33
not_more n h = grind arith

few_each : (lists : List (List Named)) → list_any (λ (ns : List Named). nat_lt 33 (length ns)) lists ≡ false → Each Few lists
few_each [] h = tt
few_each (ns ∷ lists) h =
    let both : (nat_lt 33 (length ns) ≡ false) × (list_any (λ (ms : List Named). nat_lt 33 (length ms)) lists ≡ false) = or_false (nat_lt 33 (length ns)) (list_any (λ (ms : List Named). nat_lt 33 (length ms)) lists) h in
    (not_more (length ns) both.0, few_each lists both.1)

few_units : (us : List PUnit) → Each Few (slot_lists us) → EachUnit Few us
few_units [] h = tt
few_units (u ∷ us) h =
    (each_left Few (body_lists u.body) (slot_lists us) h, few_units us (each_right Few (body_lists u.body) (slot_lists us) h))

slots_both : (lists : List (List Named)) → Each Few lists → Each Once lists → Each AreSlots lists
slots_both [] a b = tt
slots_both (ns ∷ lists) a b = (record { few = a.0; once = b.0 }, slots_both lists a.1 b.1)

slots_each : (us : List PUnit) → EachUnit Few us → EachUnit Once us → EachUnit AreSlots us
slots_each [] a b = tt
slots_each (u ∷ us) a b = (slots_both (body_lists u.body) a.0 b.0, slots_each us a.1 b.1)

pub units_slots : (us : List PUnit) → duplicate_in us ≡ None → list_any (λ (ns : List Named). nat_lt 33 (length ns)) (slot_lists us) ≡ false → Each (λ u. Each AreSlots (body_lists u.body)) us
units_slots us once few =
    slots_each us (few_units us (few_each (slot_lists us) few)) (once_units us ((once_each None (name_lists us) once).1.1))
