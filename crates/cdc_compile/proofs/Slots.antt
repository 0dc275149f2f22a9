-- The iterations of each DOALL have room for their slots, where no list of an index and private names is over its limit.
use Rattle.std.proofs.Common.{◌≡◌, ℕ, zero, suc, ◌+◌, ◌≤◌, Bool, true, false, List, [], ◌∷◌, ◌++◌, length, map, refl, arith}
use Rattle.std.specs.Prelude.{slice_get, nat_lt, ◌||◌}
use Rattle.std.specs.List.{list_any}
use Rattle.cdc_tree.specs.declared.tree.Named.{Named}
use Rattle.cdc_tree.specs.Forms.{PForm, FAssign, FLogicalIf, FDo, FDoall, FPrint, FRead}
use Rattle.cdc_tree.specs.Order.{Each}
use Rattle.cdc_tree.specs.Units.{PNode, NPlain, NIf, NElse, NLoop, PBody, Empty, More, PBranches, BNone, BMore, PUnit}
use Rattle.cdc_prog.specs.Plain as plain
use Rattle.cdc_prog.specs.Plain.{Stmt, Skip, Seq, Assign, If, Arm, Do, Doall, Call, Print, Read}
use Rattle.cdc_prog.specs.Translation.{chain, in_arms}
use Rattle.cdc_prog.specs.Numbered.{calls_in, calls_numbered, units_numbered}
use Rattle.cdc_prog.specs.Units.{body_in}
use Rattle.cdc_names.specs.Duplicates.{slot_names, node_lists, body_lists, branches_lists, slot_lists}
use Rattle.cdc_names.specs.Scopes.{scope_of}
use Rattle.cdc_check.specs.declared.progress.Progress.{Progress}
use Rattle.cdc_check.specs.Threads.{next, numbered, each}
use Rattle.cdc_check.specs.Meanings.{Surroundings, surroundings}
use Rattle.cdc_check.specs.Objects.{named_in}
use Rattle.cdc_check.specs.Statements.{Resolves, formed, looped, arm, noded, nodes_in, arms_in}
use Rattle.cdc_check.specs.Units.{Whole, unit_in, units_from}
use Rattle.cdc_code.specs.declared.room.TheConstants.{SLOTS}
use Rattle.cdc_code.specs.Room.{SlotsRoom}

-- no list is longer than the slots of an iteration
abbrev pub AreFew : List (List Named) → Type 0
AreFew lists = Each (λ (names : List Named). length names ≤ SLOTS) lists

few_left : (xs ys : List (List Named)) → AreFew (xs ++ ys) → AreFew xs
few_left [] ys h = tt
few_left (x ∷ xs) ys h = (h.0, few_left xs ys h.1)

few_right : (xs ys : List (List Named)) → AreFew (xs ++ ys) → AreFew ys
few_right [] ys h = h
few_right (x ∷ xs) ys h = few_right xs ys h.1

not_more : (n : ℕ) → nat_lt 33 n ≡ false → n ≤ 33
not_more n h = grind arith

either_false : (a b : Bool) → (a || b) ≡ false → (a ≡ false) × (b ≡ false)
either_false true b h = cc
either_false false b h = (refl, h)

pub are_few : (lists : List (List Named)) → list_any (λ names. nat_lt 33 (length names)) lists ≡ false → AreFew lists
are_few [] h = tt
are_few (names ∷ lists) h =
    let both = either_false (nat_lt 33 (length names)) (list_any (λ names. nat_lt 33 (length names)) lists) h in
    (not_more (length names) both.0, are_few lists both.1)

-- the index and so many private names
enough : (n : ℕ) → suc n ≤ 33 → next (numbered n) ≤ 33
enough n h = grind arith

-- ---- statements
form_slots : (f : PForm) (line : ℕ) (s : Surroundings) (k : Progress) → SlotsRoom ((formed f line s k).0)
form_slots (FAssign spot value) line s k = tt
form_slots (FLogicalIf c place f) line s k = ((form_slots f line s _, tt), tt)
form_slots (FPrint shown) line s k = tt
form_slots (FRead spots) line s k = tt
form_slots _ line s k = tt

-- the iterations of each DOALL in a body have room
abbrev Resolving : Resolves → Type 0
Resolving inner = (s : Surroundings) (k : Progress) → SlotsRoom (chain ((inner s k).0))

loop_slots : (f : PForm) (line : ℕ) (inner : Resolves) → AreFew (slot_names f) → Resolving inner → (s : Surroundings) (k : Progress) → SlotsRoom ((looped line f inner s k).0)
loop_slots (FDo l) line inner few body s k = body s _
loop_slots (FDoall l privates) line inner few body s k = (enough (length privates) few.0, body _ _)
loop_slots _ line inner few body s k = tt

-- each arm has room before an other part that has
abbrev ArmsRoom : List (Stmt → Stmt) → Type 0
ArmsRoom [] = Unit {0}
ArmsRoom (a ∷ more) = ((other : Stmt) → SlotsRoom other → SlotsRoom (a other)) × ArmsRoom more

in_arms_slots : (arms : List (Stmt → Stmt)) (other : Stmt) → ArmsRoom arms → SlotsRoom other → SlotsRoom (in_arms arms other)
in_arms_slots [] other h o = o
in_arms_slots (a ∷ more) other h o = h.0 (in_arms more other) (in_arms_slots more other h.1 o)

mutual
  node_slots : (x : PNode) → AreFew (node_lists x) → (s : Surroundings) (k : Progress) → SlotsRoom ((noded x s k).0)
  node_slots (NPlain st) few s k = form_slots st.form st.place.line s k
  node_slots (NIf bs end) few s k = in_arms_slots ((arms_in bs s k).0) Skip (arms_slots bs few s k) tt
  node_slots (NElse bs head b end) few s k =
      let middle : Progress = (arms_in bs s k).1 in
      in_arms_slots ((arms_in bs s k).0) (chain ((nodes_in b s middle).0)) (arms_slots bs (few_left (branches_lists bs) (body_lists b) few) s k) (body_slots b (few_right (branches_lists bs) (body_lists b) few) s middle)
  node_slots (NLoop head b end) few s k =
      loop_slots head.form head.place.line (nodes_in b) (few_left (slot_names head.form) (body_lists b) few) (body_slots b (few_right (slot_names head.form) (body_lists b) few)) s k

  body_slots : (b : PBody) → AreFew (body_lists b) → (s : Surroundings) (k : Progress) → SlotsRoom (chain ((nodes_in b s k).0))
  body_slots Empty few s k = tt
  body_slots (More x b) few s k = (node_slots x (few_left (node_lists x) (body_lists b) few) s k, body_slots b (few_right (node_lists x) (body_lists b) few) s ((noded x s k).1))

  arms_slots : (bs : PBranches) → AreFew (branches_lists bs) → (s : Surroundings) (k : Progress) → ArmsRoom ((arms_in bs s k).0)
  arms_slots BNone few s k = tt
  arms_slots (BMore head b more) few s k = (
    λ other o. (body_slots b (few_left (body_lists b) (branches_lists more) few) s _, o),
    arms_slots more (few_right (body_lists b) (branches_lists more) few) s ((arm head (nodes_in b) s k).1),
  )

-- ---- units
abbrev EachRoom : List plain.ProgramUnit → Type 0
EachRoom us = Each (λ (u : plain.ProgramUnit). SlotsRoom u.body) us

units_slots : (us : List PUnit) (number : ℕ) (k : Whole) → AreFew (slot_lists us) → EachRoom ((each (units_from number us (map scope_of us)) k).0)
units_slots [] number k few = tt
units_slots (u ∷ us) number k few = (
  body_slots u.body (few_left (body_lists u.body) (slot_lists us) few) (surroundings ((named_in number (scope_of u) k.objects).names) []) k.progress,
  units_slots us (next number) ((unit_in number u (scope_of u) k).1) (few_right (body_lists u.body) (slot_lists us) few),
)

-- numbers of CALLs take no slots
numbered_slots : (before : ℕ) (t : Stmt) → SlotsRoom t → SlotsRoom (calls_numbered before t)
numbered_slots before Skip h = h
numbered_slots before (Seq a b) h = (numbered_slots before a h.0, numbered_slots (before + calls_in a) b h.1)
numbered_slots before (Assign line target value) h = h
numbered_slots before (If arms) h = numbered_slots before arms h
numbered_slots before (Arm line c body other) h = (numbered_slots before body h.0, numbered_slots (before + calls_in body) other h.1)
numbered_slots before (Do k first body again bump) h = numbered_slots before body h
numbered_slots before (Doall k number slots body) h = (h.0, numbered_slots before body h.1)
numbered_slots before (Call line number unit actuals) h = h
numbered_slots before (Print line items) h = h
numbered_slots before (Read line targets) h = h

units_numbered_slots : (before : ℕ) (us : List plain.ProgramUnit) → EachRoom us → EachRoom (units_numbered before us)
units_numbered_slots before [] h = tt
units_numbered_slots before (u ∷ us) h = (numbered_slots before u.body h.0, units_numbered_slots (before + calls_in u.body) us h.1)

slots_at : (us : List plain.ProgramUnit) → EachRoom us → (i : ℕ) → SlotsRoom (body_in (slice_get us i))
slots_at [] h i = tt
slots_at (u ∷ us) h zero = h.0
slots_at (u ∷ us) h (suc i) = slots_at us h.1 i

-- of the units that these resolve to, with the numbers of their CALLs
pub numbered_units_slots : (us : List PUnit) (k : Whole) → AreFew (slot_lists us) → (i : ℕ) → SlotsRoom (body_in (slice_get (units_numbered 0 ((each (units_from 0 us (map scope_of us)) k).0)) i))
numbered_units_slots us k few =
    let units : List plain.ProgramUnit = (each (units_from 0 us (map scope_of us)) k).0 in
    slots_at (units_numbered 0 units) (units_numbered_slots 0 units (units_slots us 0 k few))
