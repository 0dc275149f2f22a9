-- An accepted program of statements that are built keeps the premises of the theorem on iterations, has no CALL, and numbers its DOALL loops.
use Rattle.std.proofs.Common.{◌≡◌, ℕ, ◌+◌, ◌<◌, ◌≤◌, Bool, true, false, List, [], ◌∷◌, ◌++◌, map, length, Option, Some, None, Result, Ok, Err, refl, ap, sym, subst, ◌∙◌, arith}
use Rattle.std.specs.Prelude.{if◌then◌else◌, nat_lt, slice_get, IfOk}
use Rattle.std.specs.List.{list_any}
use Rattle.cdc_tree.specs.declared.tree.Named.{Named}
use Rattle.cdc_tree.specs.Order.{Each}
use Rattle.cdc_tree.specs.Units.{PUnit}
use Rattle.cdc_prog.specs.declared.expr.Var.TheVariants.{Slot}
use Rattle.cdc_prog.specs.declared.program.Kind.{Kind}
use Rattle.cdc_prog.specs.declared.program.Kind.TheVariants as kind
use Rattle.cdc_prog.specs.declared.program.Program.{Program}
use Rattle.cdc_prog.specs.Plain as plain
use Rattle.cdc_prog.specs.Translation.{program_of}
use Rattle.cdc_prog.specs.Numbered.{program_numbered}
use Rattle.cdc_prog.specs.Iterations.{KeepsPremises, HasDoallNumbers}
use Rattle.cdc_prog.specs.Resolved.{AreLaidOut, StmtFits, IsResolved, HasNoCall}
use Rattle.cdc_prog.specs.Units.{body_in}
use Rattle.cdc_prog.proofs.Numbered.{without_calls}
use Rattle.cdc_prog.proofs.Serial.{uncalled_unaliased}
use Rattle.cdc_names.specs.DoallBodies.{doall_body_in}
use Rattle.cdc_names.specs.Duplicates.{body_lists, dummy_names, slot_lists, duplicate_in}
use Rattle.cdc_names.specs.DoVariables.{do_variable_in}
use Rattle.cdc_names.specs.NotConstant.{not_constant_in}
use Rattle.cdc_names.specs.Places.{first_of}
use Rattle.cdc_names.specs.Privates.{not_private_in}
use Rattle.cdc_names.specs.Scopes.{PScope, scope_of}
use Rattle.cdc_names.specs.Shapes.{shape_in}
use Rattle.cdc_names.specs.Undeclared.{undeclared_in}
use Rattle.cdc_check.specs.declared.progress.Shape.{Shape}
use Rattle.cdc_check.specs.declared.progress.Progress.{Progress}
use Rattle.cdc_check.specs.declared.refusal.CheckRefusal.{CheckRefusal}
use Rattle.cdc_check.specs.declared.refusal.CheckRefusal.TheVariants as refusal
use Rattle.cdc_check.specs.Threads.{next, each}
use Rattle.cdc_check.specs.Layout.{laid_from, words_of}
use Rattle.cdc_check.specs.Refusals.{Answers, or_else}
use Rattle.cdc_check.specs.Units.{Whole, units_from, nothing_yet, is_program, main_from}
use Rattle.cdc_check.specs.Built.{HasLoops, AreBuilt}
use Rattle.cdc_check.specs.Check.{names_refused, over, counts_refused, with_layout, finished, unless_refused, checked}
use Rattle.cdc_check.proofs.Doalls.{doall_stores}
use Rattle.cdc_check.proofs.Extents.{EachNone, none_first, AllFine, laid_out, all_shaped}
use Rattle.cdc_check.proofs.Known.{units_fine, units_length}
use Rattle.cdc_check.proofs.Placed.{AreSlots, units_slots}
use Rattle.cdc_check.proofs.UnitsDone.{IsQuiet, BodyDone, EachDone, UnitsEnd, units_end, alone_at, body_at}

-- ---- the main unit
next_le : (k : ℕ) → next k ≤ k + 1
next_le k = grind arith

pick_low : (b : Bool) (k m n : ℕ) → k < n → m < n → (if b then k else m) < n
pick_low true k m n h l = h
pick_low false k m n h l = l

main_low : (us : List PUnit) (k n : ℕ) → k + length us ≤ n → 0 < n → main_from k us < n
main_low [] k n h l = l
main_low (u ∷ us) k n h l =
    let step : next k ≤ k + 1 = next_le k in
    pick_low (is_program u.head.form) k (main_from (next k) us) n (omega arith) (main_low us (next k) n (omega arith) l)

-- ---- what an accepted program passed
or_none : {A : Type 0} (a : Option A) (kind : A → CheckRefusal) (later : Option CheckRefusal) → or_else a kind later ≡ None → (a ≡ None) × (later ≡ None)
or_none None kind later h = (refl, h)
or_none (Some a) kind later h = cc

-- no name is refused
record NamesPass (us : List PUnit) (ss : List PScope) : Type 0 where
  pub duplicate : duplicate_in us ≡ None
  pub shape : first_of shape_in ss ≡ None
  pub do_variable : first_of do_variable_in ss ≡ None
  pub doall_body : first_of doall_body_in us ≡ None
  pub not_private : first_of not_private_in ss ≡ None

names_pass : (us : List PUnit) (ss : List PScope) → names_refused us ss ≡ None → NamesPass us ss
names_pass us ss h =
    let seventh : Option CheckRefusal = or_else (first_of not_private_in ss) refusal.NotPrivate None in
    let sixth : Option CheckRefusal = or_else (first_of doall_body_in us) refusal.DoallBody seventh in
    let fifth : Option CheckRefusal = or_else (first_of do_variable_in ss) refusal.DoVariable sixth in
    let fourth : Option CheckRefusal = or_else (first_of shape_in ss) refusal.Shape fifth in
    let third : Option CheckRefusal = or_else (first_of not_constant_in ss) refusal.NotConstant fourth in
    let second : Option CheckRefusal = or_else (duplicate_in us) (λ p. refusal.Duplicate p.0 p.1) third in
    let a : (first_of undeclared_in ss ≡ None) × (second ≡ None) = or_none (first_of undeclared_in ss) refusal.Undeclared second h in
    let b : (duplicate_in us ≡ None) × (third ≡ None) = or_none (duplicate_in us) (λ p. refusal.Duplicate p.0 p.1) third a.1 in
    let c : (first_of not_constant_in ss ≡ None) × (fourth ≡ None) = or_none (first_of not_constant_in ss) refusal.NotConstant fourth b.1 in
    let d : (first_of shape_in ss ≡ None) × (fifth ≡ None) = or_none (first_of shape_in ss) refusal.Shape fifth c.1 in
    let e : (first_of do_variable_in ss ≡ None) × (sixth ≡ None) = or_none (first_of do_variable_in ss) refusal.DoVariable sixth d.1 in
    let f : (first_of doall_body_in us ≡ None) × (seventh ≡ None) = or_none (first_of doall_body_in us) refusal.DoallBody seventh e.1 in
    record { duplicate = b.0; shape = d.0; do_variable = e.0; doall_body = f.0; not_private = (or_none (first_of not_private_in ss) refusal.NotPrivate None f.1).0 }

over_none : (b : Bool) (k : Kind) (later : Option CheckRefusal) → over b k later ≡ None → (b ≡ false) × (later ≡ None)
over_none true k later h = cc
over_none false k later h = (refl, h)

-- no DOALL has more than 33 slots
few_slots : (us : List PUnit) → counts_refused us ≡ None → list_any (λ (ns : List Named). nat_lt 33 (length ns)) (slot_lists us) ≡ false
few_slots us h =
    let privates : Bool = list_any (λ (ns : List Named). nat_lt 33 (length ns)) (slot_lists us) in
    let last : Option CheckRefusal = over privates kind.Privates None in
    let dummies : Bool = list_any (λ (u : PUnit). nat_lt 32 (length (dummy_names u.head.form))) us in
    let later : Option CheckRefusal = over dummies kind.Dummies last in
    let a : (nat_lt 64 (length us) ≡ false) × (later ≡ None) = over_none (nat_lt 64 (length us)) kind.Units later h in
    let b : (dummies ≡ false) × (last ≡ None) = over_none dummies kind.Dummies last a.1 in
    (over_none privates kind.Privates None b.1).0

unless_none : (a : Option CheckRefusal) (r : Result plain.Program CheckRefusal) (q : plain.Program) → unless_refused a r ≡ Ok q → (a ≡ None) × (r ≡ Ok q)
unless_none None r q h = (refl, h)
unless_none (Some e) r q h = cc

abbrev program_of_parts : ℕ → List plain.ProgramUnit → Whole → plain.Program
program_of_parts main listed w = record { units = listed; main = main; objects = laid_from 0 w.objects; texts = w.progress.texts; sites = w.progress.sites; doalls = w.progress.doalls; words = words_of w.objects }

record Passed (main : ℕ) (r : List plain.ProgramUnit × Whole) (q : plain.Program) : Type 0 where
  pub few : length (r.1.objects) ≤ 1024
  pub small : words_of (r.1.objects) ≤ 4194304
  pub is : program_numbered (program_of_parts main r.0 r.1) ≡ q

not_more : (limit n : ℕ) → nat_lt limit n ≡ false → n ≤ limit
not_more limit n h = grind arith

finish_passed : (main : ℕ) (r : List plain.ProgramUnit × Whole) (q : plain.Program) → finished main r ≡ Ok q → Passed main r q
finish_passed main r q h = go (nat_lt 1024 (length (r.1.objects))) refl (nat_lt 4194304 (words_of (r.1.objects))) refl (nat_lt 16384 r.1.progress.sites) h
  where
    go : (a : Bool) → nat_lt 1024 (length (r.1.objects)) ≡ a → (b : Bool) → nat_lt 4194304 (words_of (r.1.objects)) ≡ b → (c : Bool)
        → (if a then Err (refusal.TooMany kind.Objects) else with_layout main r.0 r.1.progress (if b then Err (refusal.TooMany kind.Words) else Ok (laid_from 0 r.1.objects, words_of r.1.objects))) ≡ Ok q → Passed main r q
    go true e b f c h = cc
    go false e true f c h = cc
    go false e false f c h = last (nat_lt 16384 r.1.progress.sites) h
      where
        last : (d : Bool) → (if d then Err (refusal.TooMany kind.Sites) else Ok (program_numbered (program_of_parts main r.0 r.1))) ≡ Ok q → Passed main r q
        last true h = cc
        last false h = record { few = not_more 1024 (length (r.1.objects)) e; small = not_more 4194304 (words_of (r.1.objects)) f; is = cc }

-- ---- the law

-- what units resolve to
abbrev resolved_from : List PUnit → List plain.ProgramUnit × Whole
resolved_from us = each (units_from 0 us (map scope_of us)) nothing_yet

abbrev program_from : List PUnit → plain.Program
program_from us = program_of_parts (main_from 0 us) ((resolved_from us).0) ((resolved_from us).1)

record Accepted (us : List PUnit) (q : plain.Program) : Type 0 where
  pub shape : EachNone shape_in (map scope_of us)
  pub quiet : Each IsQuiet us
  pub passed : Passed (main_from 0 us) (resolved_from us) q

all_quiet : (us : List PUnit) → EachNone shape_in (map scope_of us) → EachNone do_variable_in (map scope_of us) → EachNone doall_body_in us → EachNone not_private_in (map scope_of us)
    → Each (λ u. Each AreSlots (body_lists u.body)) us → Each HasLoops us → Each IsQuiet us
all_quiet [] shape do_variable doall_body not_private slots loops = tt
all_quiet (u ∷ us) shape do_variable doall_body not_private slots loops = (
  record { shape = shape.0; do_variable = do_variable.0; doall_body = doall_body.0; not_private = not_private.0; slots = slots.0; loops = loops.0 },
  all_quiet us shape.1 do_variable.1 doall_body.1 not_private.1 slots.1 loops.1,
)

accepted : (us : List PUnit) (q : plain.Program) → checked us ≡ Ok q → AreBuilt us → Accepted us q
accepted us q h built =
    let ss : List PScope = map scope_of us in
    let r : List plain.ProgramUnit × Whole = resolved_from us in
    let a : (names_refused us ss ≡ None) × (unless_refused (counts_refused us) (finished (main_from 0 us) r) ≡ Ok q) = unless_none (names_refused us ss) (unless_refused (counts_refused us) (finished (main_from 0 us) r)) q h in
    let b : (counts_refused us ≡ None) × (finished (main_from 0 us) r ≡ Ok q) = unless_none (counts_refused us) (finished (main_from 0 us) r) q a.1 in
    let names : NamesPass us ss = names_pass us ss a.0 in
    let shape : EachNone shape_in ss = none_first shape_in ss names.shape in
    record {
      shape = shape;
      quiet = all_quiet us shape (none_first do_variable_in ss names.do_variable) (none_first doall_body_in us names.doall_body) (none_first not_private_in ss names.not_private)
          (units_slots us names.duplicate (few_slots us b.0)) built.loops;
      passed = finish_passed (main_from 0 us) r q b.1;
    }

abbrev AllDone : (us : List PUnit) → length ((resolved_from us).1.objects) ≤ 1024 → Type 0
AllDone us few =
    EachDone ((resolved_from us).0) (main_from 0 us) ((resolved_from us).1.objects) ((resolved_from us).1.progress.texts) ((resolved_from us).1.progress.sites) ((resolved_from us).1.progress.doalls) (words_of ((resolved_from us).1.objects)) few ((resolved_from us).0)

all_done : (us : List PUnit) → Each IsQuiet us → (few : length ((resolved_from us).1.objects) ≤ 1024) → AllDone us few
all_done us quiet few =
    let r : List plain.ProgramUnit × Whole = resolved_from us in
    let F : List Shape = r.1.objects in
    let w : Progress = r.1.progress in
    let ended : UnitsEnd r.0 (main_from 0 us) F w.texts w.sites w.doalls (words_of F) few nothing_yet r = units_end r.0 (main_from 0 us) F w.texts w.sites w.doalls (words_of F) few us 0 nothing_yet [] (whole_list F) quiet in
    ended.done (omega arith) (omega arith)
  where
    whole_list : (xs : List Shape) → xs ≡ xs ++ []
    whole_list [] = refl
    whole_list (x ∷ xs) = ap (λ l. x ∷ l) (whole_list xs)

-- what the body of each unit keeps
abbrev Done : (us : List PUnit) → length ((resolved_from us).1.objects) ≤ 1024 → plain.Stmt → Type 0
Done us few =
    BodyDone ((resolved_from us).0) (main_from 0 us) ((resolved_from us).1.objects) ((resolved_from us).1.progress.texts) ((resolved_from us).1.progress.sites) ((resolved_from us).1.progress.doalls) (words_of ((resolved_from us).1.objects)) few

body_done : (us : List PUnit) → Each IsQuiet us → (few : length ((resolved_from us).1.objects) ≤ 1024) → (u : ℕ) → Done us few (body_in (slice_get ((resolved_from us).0) u))
body_done us quiet few u =
    let r : List plain.ProgramUnit × Whole = resolved_from us in
    let w : Progress = r.1.progress in
    body_at r.0 (main_from 0 us) r.1.objects w.texts w.sites w.doalls (words_of r.1.objects) few r.0 (all_done us quiet few) u

resolved_parts : (us : List PUnit) → EachNone shape_in (map scope_of us) → Each IsQuiet us → 0 < length us
    → length ((resolved_from us).1.objects) ≤ 1024 → words_of ((resolved_from us).1.objects) ≤ 4194304 → IsResolved (program_from us)
resolved_parts us none quiet some few small =
    let r : List plain.ProgramUnit × Whole = resolved_from us in
    let F : List Shape = r.1.objects in
    let w : Progress = r.1.progress in
    let fine : AllFine F = units_fine us 0 nothing_yet none tt in
    let count : length r.0 ≡ length us = units_length us 0 nothing_yet in
    let zero_more : 0 + words_of F ≡ words_of F = omega arith in
    let done : AllDone us few = all_done us quiet few in
    record {
      laid_out = subst (AreLaidOut 0 (laid_from 0 F)) zero_more (laid_out 0 F fine);
      shaped = all_shaped 0 F fine;
      small = small;
      main = main_low us 0 (length r.0) (omega arith) (omega arith);
      main_alone = alone_at r.0 (main_from 0 us) F w.texts w.sites w.doalls (words_of F) few r.0 done (main_from 0 us);
      ranks = λ u. 0;
      ranked = λ u l. omega arith;
      fits = λ u l. subst (λ shapes. StmtFits (program_from us) (λ v. 0) 0 shapes 0 (body_in (slice_get r.0 u)))
          (sym (alone_at r.0 (main_from 0 us) F w.texts w.sites w.doalls (words_of F) few r.0 done u)) ((body_done us quiet few u).fits);
    }

premises_parts : (us : List PUnit) → Each IsQuiet us → (few : length ((resolved_from us).1.objects) ≤ 1024) → IsResolved (program_from us) → KeepsPremises (program_from us)
premises_parts us quiet few resolved = record {
  resolved = resolved;
  alone = λ u. (body_done us quiet few u).stores;
  loops = λ u. (body_done us quiet few u).dos;
  indexes = λ u number slots k body is stores. (body_done us quiet few u).index (doall_stores (program_from us) (Slot 0) (body_in (slice_get ((resolved_from us).0) u)) number slots k body is stores);
  unaliased = uncalled_unaliased (program_from us) resolved (λ u. (body_done us quiet few u).only);
}

-- what the program is, where its statements are built: its CALLs, of which there are none, need no numbers
program_is : (us : List PUnit) (q : plain.Program) → Accepted us q → program_from us ≡ q
program_is us q a = sym (without_calls (program_from us) (λ u. (body_done us a.quiet a.passed.few u).calls)) ∙ a.passed.is

pub accepted_is_resolved : (us : List PUnit) (q : plain.Program) → checked us ≡ Ok q → AreBuilt us → 0 < length us → IsResolved q
accepted_is_resolved us q h built some =
    let a : Accepted us q = accepted us q h built in
    subst IsResolved (program_is us q a) (resolved_parts us a.shape a.quiet some a.passed.few a.passed.small)

pub accepted_keeps_premises : (us : List PUnit) (q : plain.Program) → checked us ≡ Ok q → AreBuilt us → 0 < length us → KeepsPremises q
accepted_keeps_premises us q h built some =
    let a : Accepted us q = accepted us q h built in
    subst KeepsPremises (program_is us q a) (premises_parts us a.quiet a.passed.few (resolved_parts us a.shape a.quiet some a.passed.few a.passed.small))

pub accepted_calls_nothing : (us : List PUnit) (q : plain.Program) → checked us ≡ Ok q → AreBuilt us → 0 < length us → HasNoCall q
accepted_calls_nothing us q h built some =
    let a : Accepted us q = accepted us q h built in
    subst HasNoCall (program_is us q a) (λ u. (body_done us a.quiet a.passed.few u).only)

pub accepted_doalls_numbered : (us : List PUnit) (q : plain.Program) → checked us ≡ Ok q → AreBuilt us → 0 < length us → HasDoallNumbers q
accepted_doalls_numbered us q h built some =
    let a : Accepted us q = accepted us q h built in
    subst HasDoallNumbers (program_is us q a) (λ u number slots k body is. (body_done us a.quiet a.passed.few u).numbers number slots k body is)

-- the same of the answer of a call
pub answers_premises : (us : List PUnit) (r : Result Program CheckRefusal) → Answers program_of r (checked us) → AreBuilt us → 0 < length us → IfOk r (λ program. KeepsPremises (program_of program))
answers_premises us (Ok program) h built some = accepted_keeps_premises us (program_of program) h built some
answers_premises us (Err e) h built some = tt

pub answers_calls : (us : List PUnit) (r : Result Program CheckRefusal) → Answers program_of r (checked us) → AreBuilt us → 0 < length us → IfOk r (λ program. HasNoCall (program_of program))
answers_calls us (Ok program) h built some = accepted_calls_nothing us (program_of program) h built some
answers_calls us (Err e) h built some = tt

pub answers_doalls : (us : List PUnit) (r : Result Program CheckRefusal) → Answers program_of r (checked us) → AreBuilt us → 0 < length us → IfOk r (λ program. HasDoallNumbers (program_of program))
answers_doalls us (Ok program) h built some = accepted_doalls_numbered us (program_of program) h built some
answers_doalls us (Err e) h built some = tt
