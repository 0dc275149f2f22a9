-- The program of an accepted source has room, and its CALLs are numbered.
use Rattle.std.proofs.Common.{◌≡◌, ℕ, zero, suc, ◌+◌, ◌≤◌, Bool, true, false, List, [], ◌∷◌, ◌++◌, length, map, Option, Some, None, Result, Ok, Err, refl, sym, ap, subst, ◌∙◌, arith}
use Rattle.std.specs.Prelude.{nat_lt, if◌then◌else◌, slice_get}
use Rattle.std.specs.List.{range_with_len, list_any}
use Rattle.std.proofs.lemmas.List.FromFn.{length-range_with_len}
use Rattle.cdc_nest.specs.Units.{AreUnits, first_deep}
use Rattle.cdc_tree.specs.Order.{Each}
use Rattle.cdc_tree.specs.Units.{PUnit, none_out, unit_out, written_out, out}
use Rattle.cdc_prog.specs.declared.program.Kind.{Kind}
use Rattle.cdc_prog.specs.declared.program.Kind.TheVariants as kind
use Rattle.cdc_prog.specs.declared.program.Object.{Object}
use Rattle.cdc_prog.specs.declared.program.Program.{Program}
use Rattle.cdc_prog.specs.Plain as plain
use Rattle.cdc_prog.specs.Plain.{Stmt, Skip, Seq, Assign, If, Arm, Do, Doall, Call, Print, Read}
use Rattle.cdc_prog.specs.Translation.{unit_of, program_of}
use Rattle.cdc_prog.specs.Numbered.{calls_in, calls_numbered, units_numbered, program_numbered, unit_call_numbers, calls_in_units}
use Rattle.cdc_prog.specs.Units.{body_in}
use Rattle.cdc_prog.proofs.Numbered.{as_many, unit_numbers_in_order}
use Rattle.cdc_names.specs.Duplicates.{duplicate_in, dummy_names, slot_lists}
use Rattle.cdc_names.specs.DoallBodies.{doall_body_in}
use Rattle.cdc_names.specs.DoVariables.{do_variable_in}
use Rattle.cdc_names.specs.NotConstant.{not_constant_in}
use Rattle.cdc_names.specs.Places.{first_of}
use Rattle.cdc_names.specs.Privates.{not_private_in}
use Rattle.cdc_names.specs.Scopes.{PScope, scope_of}
use Rattle.cdc_names.specs.Shapes.{shape_in}
use Rattle.cdc_names.specs.Undeclared.{undeclared_in}
use Rattle.cdc_check.specs.declared.progress.Progress.{Progress}
use Rattle.cdc_check.specs.declared.refusal.CheckRefusal.{CheckRefusal}
use Rattle.cdc_check.specs.declared.refusal.CheckRefusal.TheVariants as refusal
use Rattle.cdc_check.specs.Threads.{next, each}
use Rattle.cdc_check.specs.Layout.{layout}
use Rattle.cdc_check.specs.Meanings.{surroundings}
use Rattle.cdc_check.specs.Objects.{named_in}
use Rattle.cdc_check.specs.Refusals.{or_else}
use Rattle.cdc_check.specs.Units.{Whole, unit_in, units_from, nothing_yet, main_from}
use Rattle.cdc_check.specs.Check.{names_refused, counts_refused, over, unless_refused, with_layout, finished, checked}
use Rattle.cdc_check.proofs.Extents.{EachNone, none_first}
use Rattle.cdc_code.specs.Template.{HasCallNumbers}
use Rattle.cdc_code.specs.Room.{SlotsRoom, HasRoom}
use Rattle.cdc_compile.specs.Source.{HasBuiltUnits, HasUnits, IsChecked}
use Rattle.cdc_compile.proofs.Narrow.{body_narrow}
use Rattle.cdc_compile.proofs.Standing.{AreShallow, shallow_left, shallow_right, lines_shallow}
use Rattle.cdc_compile.proofs.Open.{BodyFits, units_fit}
use Rattle.cdc_compile.proofs.Roomy.{Roomy, body_room}
use Rattle.cdc_compile.proofs.Slots.{AreFew, are_few, numbered_units_slots}

-- ---- what an accepted program passed

or_none : {A : Type 0} (a : Option A) (kind : A → CheckRefusal) (later : Option CheckRefusal) → or_else a kind later ≡ None → (a ≡ None) × (later ≡ None)
or_none None kind later h = (refl, h)
or_none (Some a) kind later h = cc

no_shape : (us : List PUnit) (ss : List PScope) → names_refused us ss ≡ None → first_of shape_in ss ≡ None
no_shape us ss h =
    let body : Option CheckRefusal = or_else (first_of doall_body_in us) refusal.DoallBody (or_else (first_of not_private_in ss) refusal.NotPrivate None) in
    let last : Option CheckRefusal = or_else (first_of do_variable_in ss) refusal.DoVariable body in
    let fourth : Option CheckRefusal = or_else (first_of shape_in ss) refusal.Shape last in
    let third : Option CheckRefusal = or_else (first_of not_constant_in ss) refusal.NotConstant fourth in
    let second : Option CheckRefusal = or_else (duplicate_in us) (λ p. refusal.Duplicate p.0 p.1) third in
    let a : (first_of undeclared_in ss ≡ None) × (second ≡ None) = or_none (first_of undeclared_in ss) refusal.Undeclared second h in
    let b : (duplicate_in us ≡ None) × (third ≡ None) = or_none (duplicate_in us) (λ p. refusal.Duplicate p.0 p.1) third a.1 in
    let c : (first_of not_constant_in ss ≡ None) × (fourth ≡ None) = or_none (first_of not_constant_in ss) refusal.NotConstant fourth b.1 in
    (or_none (first_of shape_in ss) refusal.Shape last c.1).0

not_over : (b : Bool) (which : Kind) (later : Option CheckRefusal) → over b which later ≡ None → (b ≡ false) × (later ≡ None)
not_over true which later h = cc
not_over false which later h = (refl, h)

-- what no count refuses
pub record Few (us : List PUnit) : Type 0 where
  pub units : length us ≤ 64
  pub slots : AreFew (slot_lists us)

few : (us : List PUnit) → counts_refused us ≡ None → Few us
few us h =
    let many : Bool = list_any (λ ns. nat_lt 33 (length ns)) (slot_lists us) in
    let dummies : Bool = list_any (λ u. nat_lt 32 (length (dummy_names u.head.form))) us in
    let first : (nat_lt 64 (length us) ≡ false) × (over dummies kind.Dummies (over many kind.Privates None) ≡ None) = not_over (nat_lt 64 (length us)) kind.Units (over dummies kind.Dummies (over many kind.Privates None)) h in
    let second : (dummies ≡ false) × (over many kind.Privates None ≡ None) = not_over dummies kind.Dummies (over many kind.Privates None) first.1 in
    record { units = not_more (length us) first.0; slots = are_few (slot_lists us) (not_over many kind.Privates None second.1).0 }
  where
    not_more : (n : ℕ) → nat_lt 64 n ≡ false → n ≤ 64
    not_more n h = grind arith

unless_none : (a : Option CheckRefusal) (r : Result plain.Program CheckRefusal) (q : plain.Program) → unless_refused a r ≡ Ok q → (a ≡ None) × (r ≡ Ok q)
unless_none None r q h = (refl, h)
unless_none (Some e) r q h = cc

unless_true : (b : Bool) (e : CheckRefusal) (r : Result plain.Program CheckRefusal) (q : plain.Program) → (if b then Err e else r) ≡ Ok q → r ≡ Ok q
unless_true true e r q h = cc
unless_true false e r q h = h

units_of_ok : (p q : plain.Program) → ◌≡◌ {A = Result plain.Program CheckRefusal} (Ok p) (Ok q) → q.units ≡ p.units
units_of_ok p q h = let same : q ≡ p = cc in ap (λ (r : plain.Program). r.units) same

units_laid : (main : ℕ) (units : List plain.ProgramUnit) (k : Progress) (laid : Result (List Object × ℕ) CheckRefusal) (q : plain.Program) → with_layout main units k laid ≡ Ok q → q.units ≡ units_numbered 0 units
units_laid main units k (Err e) q h = cc
units_laid main units k (Ok l) q h =
    let p : plain.Program = record { units = units; main = main; objects = l.0; texts = k.texts; sites = k.sites; doalls = k.doalls; words = l.1 } in
    units_of_ok (program_numbered p) q (unless_true (nat_lt 16384 k.sites) (refusal.TooMany kind.Sites) (Ok (program_numbered p)) q h)

unless_false : (b : Bool) (e : CheckRefusal) (r : Result plain.Program CheckRefusal) (q : plain.Program) → (if b then Err e else r) ≡ Ok q → b ≡ false
unless_false true e r q h = cc
unless_false false e r q h = refl

sites_few : (main : ℕ) (units : List plain.ProgramUnit) (k : Progress) (laid : Result (List Object × ℕ) CheckRefusal) (q : plain.Program) → with_layout main units k laid ≡ Ok q → k.sites ≤ 16384
sites_few main units k (Err e) q h = cc
sites_few main units k (Ok l) q h =
    not_more k.sites (unless_false (nat_lt 16384 k.sites) (refusal.TooMany kind.Sites) (Ok (program_numbered (record { units = units; main = main; objects = l.0; texts = k.texts; sites = k.sites; doalls = k.doalls; words = l.1 }))) q h)
  where
    not_more : (n : ℕ) → nat_lt 16384 n ≡ false → n ≤ 16384
    not_more n h = grind arith

-- what units resolve to
abbrev resolved_from : List PUnit → List plain.ProgramUnit × Whole
resolved_from us = each (units_from 0 us (map scope_of us)) nothing_yet

pub record Passed (us : List PUnit) (q : plain.Program) : Type 0 where
  pub shapes : EachNone shape_in (map scope_of us)
  pub few : Few us
  pub units_are : q.units ≡ units_numbered 0 ((resolved_from us).0)
  pub sites : (resolved_from us).1.progress.sites ≤ 16384

pub passed : (us : List PUnit) (q : plain.Program) → checked us ≡ Ok q → Passed us q
passed us q h =
    let ss : List PScope = map scope_of us in
    let r : List plain.ProgramUnit × Whole = resolved_from us in
    let main : ℕ = main_from 0 us in
    let a : (names_refused us ss ≡ None) × (unless_refused (counts_refused us) (finished main r) ≡ Ok q) = unless_none (names_refused us ss) (unless_refused (counts_refused us) (finished main r)) q h in
    let b : (counts_refused us ≡ None) × (finished main r ≡ Ok q) = unless_none (counts_refused us) (finished main r) q a.1 in
    let c : with_layout main r.0 r.1.progress (layout r.1.objects) ≡ Ok q = unless_true (nat_lt 1024 (length r.1.objects)) (refusal.TooMany kind.Objects) (with_layout main r.0 r.1.progress (layout r.1.objects)) q b.1 in
    record { shapes = none_first shape_in ss (no_shape us ss a.0); few = few us b.0; units_are = units_laid main r.0 r.1.progress (layout r.1.objects) q c; sites = sites_few main r.0 r.1.progress (layout r.1.objects) q c }

-- ---- units

abbrev AreRoomy : List plain.ProgramUnit → Type 0
AreRoomy us = Each (λ (u : plain.ProgramUnit). Roomy 0 u.body) us

-- the statements of the body of a unit
body_shallow : (u : PUnit) → AreShallow (unit_out u) → AreShallow (out u.body)
body_shallow u h =
    let third = out u.body ++ (u.end ∷ []) in
    shallow_left (out u.body) (u.end ∷ []) (shallow_right u.declarations third (shallow_right (none_out u.none) (u.declarations ++ third) h.1))

units_roomy : (us : List PUnit) (number : ℕ) (k : Whole) → EachNone shape_in (map scope_of us) → AreShallow (written_out us) → Each (λ (u : PUnit). BodyFits 0 u.body) us
    → AreRoomy ((each (units_from number us (map scope_of us)) k).0)
units_roomy [] number k none h fits = tt
units_roomy (u ∷ us) number k none h fits = (
  body_room u.body 0 fits.0 (body_shallow u (shallow_left (unit_out u) (written_out us) h)) (body_narrow u none.0) 0 (omega arith)
      (surroundings ((named_in number (scope_of u) k.objects).names) []) k.progress,
  units_roomy us (next number) ((unit_in number u (scope_of u) k).1) none.1 (shallow_right (unit_out u) (written_out us) h) fits.1,
)

units_length : (us : List PUnit) (number : ℕ) (k : Whole) → length ((each (units_from number us (map scope_of us)) k).0) ≡ length us
units_length [] number k = refl
units_length (u ∷ us) number k = ap suc (units_length us (next number) ((unit_in number u (scope_of u) k).1))

-- numbers of CALLs take no room
numbered_roomy : (before n : ℕ) (t : Stmt) → Roomy n t → Roomy n (calls_numbered before t)
numbered_roomy before n Skip h = h
numbered_roomy before n (Seq a b) h = (numbered_roomy before n a h.0, numbered_roomy (before + calls_in a) n b h.1)
numbered_roomy before n (Assign line target value) h = h
numbered_roomy before n (If arms) h = numbered_roomy before n arms h
numbered_roomy before n (Arm line c body other) h = (h.0, numbered_roomy before n body h.1, numbered_roomy (before + calls_in body) n other h.2)
numbered_roomy before n (Do k first body again bump) h = (h.0, h.1, numbered_roomy before (suc n) body h.2)
numbered_roomy before n (Doall k number slots body) h = (h.0, numbered_roomy before n body h.1)
numbered_roomy before n (Call line number unit actuals) h = h
numbered_roomy before n (Print line items) h = h
numbered_roomy before n (Read line targets) h = h

units_numbered_roomy : (before : ℕ) (us : List plain.ProgramUnit) → AreRoomy us → AreRoomy (units_numbered before us)
units_numbered_roomy before [] h = tt
units_numbered_roomy before (u ∷ us) h = (numbered_roomy before 0 u.body h.0, units_numbered_roomy (before + calls_in u.body) us h.1)

roomy_at : (us : List plain.ProgramUnit) → AreRoomy us → (i : ℕ) → Roomy 0 (body_in (slice_get us i))
roomy_at [] h i = tt
roomy_at (u ∷ us) h zero = h.0
roomy_at (u ∷ us) h (suc i) = roomy_at us h.1 i

-- ---- the laws

-- the program of units whose trees are within the limits, and that open no 65th block
units_room : (us : List PUnit) (q : plain.Program) → AreUnits us → AreShallow (written_out us) → first_deep 0 (written_out us) ≡ None → checked us ≡ Ok q → HasRoom q
units_room us q are shallow low h =
    let done : Passed us q = passed us q h in
    let units : List plain.ProgramUnit = (resolved_from us).0 in
    let roomy : AreRoomy (units_numbered 0 units) = units_numbered_roomy 0 units (units_roomy us 0 nothing_yet done.shapes shallow (units_fit us are low)) in
    let count : length q.units ≡ length us = ap length done.units_are ∙ as_many 0 units ∙ units_length us 0 nothing_yet in
    record {
      units = omega (arith, count, done.few.units);
      slots = λ u. subst (λ (vs : List plain.ProgramUnit). SlotsRoom (body_in (slice_get vs u))) (sym done.units_are) (numbered_units_slots us nothing_yet done.few.slots u);
      bodies = λ u. subst (λ (vs : List plain.ProgramUnit). Roomy 0 (body_in (slice_get vs u))) (sym done.units_are) (roomy_at (units_numbered 0 units) roomy u);
    }

pub has_room : (source : List ℕ) (q : plain.Program) → IsChecked source q → HasRoom q
has_room source q h =
    let us : List PUnit = h.units in
    let built : HasBuiltUnits source us = h.has_units in
    let has : HasUnits source built.statements us = built.has_units in
    let shallow : AreShallow (written_out us) = subst AreShallow has.are_units.parts (lines_shallow built.statements has.has_statements.lines has.has_statements.are_statements) in
    units_room us q has.are_units.are_units shallow (subst (λ ss. first_deep 0 ss ≡ None) has.are_units.parts has.shallow) h.accepted

-- the CALLs of a program are numbered from 1, however many it has
pub numbers : (p : plain.Program) → HasCallNumbers (program_numbered p)
numbers p =
    let found : List ℕ = unit_call_numbers (units_numbered 0 p.units) in
    let order : found ≡ range_with_len 1 (calls_in_units p.units) = unit_numbers_in_order 0 p.units in
    let count : length found ≡ calls_in_units p.units = ap length order ∙ length-range_with_len 1 (calls_in_units p.units) in
    order ∙ ap (range_with_len 1) (sym count)

pub program_calls_numbered : (p : Program) → HasCallNumbers (program_of p)
program_calls_numbered p = numbers (record { units = map unit_of p.units; main = p.main; objects = p.objects; texts = p.texts; sites = p.sites; doalls = p.doalls; words = p.words })
