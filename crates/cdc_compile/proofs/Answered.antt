-- What each stage answers is an answer for the source.
use Rattle.std.proofs.Common.{◌≡◌, ℕ, ◌≤◌, Bool, true, false, List, map, length, Option, Some, None, Result, Ok, Err, refl, inl, inr}
use Rattle.std.specs.Prelude.{◌≢◌, nat_lt, if◌then◌else◌}
use Rattle.std.specs.List.{list_any}
use Rattle.cdc_base.specs.declared.place.Place.{Place}
use Rattle.cdc_token.specs.declared.token.LexRefusal.{LexRefusal}
use Rattle.cdc_token.specs.declared.token.LexRefusal.TheVariants as l
use Rattle.cdc_token.specs.Refusals.{IsRefused}
use Rattle.cdc_tree.specs.Forms.{PStatement}
use Rattle.cdc_tree.specs.Units.{PUnit}
use Rattle.cdc_tree.specs.Order.{InOrder}
use Rattle.cdc_token.specs.Lines.{Line}
use Rattle.cdc_tree.specs.declared.refusal.ParseRefusal.{ParseRefusal}
use Rattle.cdc_tree.specs.declared.refusal.ParseRefusal.TheVariants as p
use Rattle.cdc_parse.specs.Lines.{AreStatements}
use Rattle.cdc_nest.specs.Units.{AreNested}
use Rattle.cdc_prog.specs.declared.program.Object.{Object}
use Rattle.cdc_prog.specs.declared.program.Kind.TheVariants as k
use Rattle.cdc_prog.specs.Numbered.{program_numbered}
use Rattle.cdc_prog.specs.Plain as plain
use Rattle.cdc_prog.specs.Translation.{program_of}
use Rattle.cdc_check.specs.declared.refusal.CheckRefusal.{CheckRefusal}
use Rattle.cdc_check.specs.declared.refusal.CheckRefusal.TheVariants as c
use Rattle.cdc_names.specs.Places.{first_of}
use Rattle.cdc_names.specs.Scopes.{scope_of}
use Rattle.cdc_names.specs.Undeclared.{undeclared_in}
use Rattle.cdc_names.specs.Duplicates.{duplicate_in, dummy_names, slot_lists}
use Rattle.cdc_names.specs.NotConstant.{not_constant_in}
use Rattle.cdc_names.specs.Shapes.{shape_in}
use Rattle.cdc_names.specs.DoVariables.{do_variable_in}
use Rattle.cdc_names.specs.DoallBodies.{doall_body_in}
use Rattle.cdc_names.specs.Privates.{not_private_in}
use Rattle.cdc_check.specs.declared.progress.Progress.{Progress}
use Rattle.cdc_check.specs.declared.progress.Shape.{Shape}
use Rattle.cdc_check.specs.Threads.{each}
use Rattle.cdc_check.specs.Layout.{laid_from, words_of, layout}
use Rattle.cdc_check.specs.Units.{Whole, units_from, nothing_yet, main_from}
use Rattle.cdc_check.specs.Check.{names_refused, counts_refused, over, unless_refused, with_layout, finished, checked}
use Rattle.cdc_check.specs.Refusals.{or_else, Answers}
use Rattle.cdc_compile.specs.declared.refusal.Refusal.{Refusal}
use Rattle.cdc_compile.specs.declared.refusal.Refusal.TheVariants.{Lex, Parse, Check, Conflict, Memory}
use Rattle.cdc_compile.specs.Refusals.{of_lex, of_parse, of_check, IsNamed}
use Rattle.cdc_compile.specs.Source.{HasLines, HasStatements, HasBuiltUnits, IsProgramOf}
use Rattle.cdc_compile.proofs.Ascending.{statements_in_order}

-- the lines of the statements ascend
pub has_order : (source : List ℕ) (ss : List PStatement) → HasStatements source ss → InOrder ss
has_order source ss has = statements_in_order source has.lines ss has.has_lines.are_lines has.are_statements

pub lex_answered : (source : List ℕ) (r : LexRefusal) → length source ≤ 262144 → IsRefused source r → IsProgramOf source (Err (of_lex r))
lex_answered source (l.BadByte at) within is = (within, is)
lex_answered source (l.OpenText at) within is = (within, is)
lex_answered source (l.NameLong at) within is = (within, is)
lex_answered source (l.NumberWide at) within is = (within, is)
lex_answered source (l.LineLong at) within is = (within, is)
lex_answered source l.Memory within is = tt

pub lines_answered : (source : List ℕ) (lines : List Line) (r : ParseRefusal) → HasLines source lines → AreStatements lines (Err r) → IsProgramOf source (Err (of_parse r))
lines_answered source lines (p.NotAStatement n) has is = inl (record { lines = lines; has_lines = has; refused = is })
lines_answered source lines (p.Depth n) has is = inl (record { lines = lines; has_lines = has; refused = is })
lines_answered source lines (p.Nesting n) has is = absurd is
lines_answered source lines p.Memory has is = tt

pub statements_answered : (source : List ℕ) (ss : List PStatement) (r : ParseRefusal) → HasStatements source ss → AreNested ss (Err r) → IsProgramOf source (Err (of_parse r))
statements_answered source ss (p.NotAStatement n) has is = absurd is
statements_answered source ss (p.Depth n) has is = inr (record { statements = ss; has_statements = has; refused = is })
statements_answered source ss (p.Nesting n) has is = record { statements = ss; has_statements = has; refused = is }
statements_answered source ss p.Memory has is = tt

-- ---- the check never says that a source is too long

names_never : (a : Option Place) (b : Option (Place × Place)) (d e f g h : Option Place)
    → or_else a c.Undeclared (or_else b (λ pair. c.Duplicate pair.0 pair.1) (or_else d c.NotConstant (or_else e c.Shape (or_else f c.DoVariable (or_else g c.DoallBody (or_else h c.NotPrivate None)))))) ≡ Some (c.TooMany k.Source) → ⊥
names_never (Some x) b d e f g h is = cc
names_never None (Some x) d e f g h is = cc
names_never None None (Some x) e f g h is = cc
names_never None None None (Some x) f g h is = cc
names_never None None None None (Some x) g h is = cc
names_never None None None None None (Some x) h is = cc
names_never None None None None None None (Some x) is = cc
names_never None None None None None None None is = cc

counts_never : (a b d : Bool) → over a k.Units (over b k.Dummies (over d k.Privates None)) ≡ Some (c.TooMany k.Source) → ⊥
counts_never true b d is = cc
counts_never false true d is = cc
counts_never false false true is = cc
counts_never false false false is = cc

-- the refusal is not that of a long source
NotLong : {A : Type 0} → Result A CheckRefusal → Type 0
NotLong r = r ≡ Err (c.TooMany k.Source) → ⊥

unless_never : (a b : Option CheckRefusal) (r : Result plain.Program CheckRefusal) → (a ≡ Some (c.TooMany k.Source) → ⊥) → (b ≡ Some (c.TooMany k.Source) → ⊥) → NotLong r
    → NotLong (unless_refused a (unless_refused b r))
unfolding NotLong
unless_never (Some x) b r na nb nr is = na cc
unless_never None (Some x) r na nb nr is = nb cc
unless_never None None r na nb nr is = nr is

either_never : {A : Type 0} (b : Bool) (x y : Result A CheckRefusal) → NotLong x → NotLong y → NotLong (if b then x else y)
either_never true x y nx ny = nx
either_never false x y nx ny = ny

with_layout_never : (main : ℕ) (units : List plain.ProgramUnit) (progress : Progress) (laid : Result (List Object × ℕ) CheckRefusal) → NotLong laid → NotLong (with_layout main units progress laid)
unfolding NotLong
with_layout_never main units progress (Err r) never = λ is. never cc
with_layout_never main units progress (Ok laid) never =
    either_never (nat_lt 16384 progress.sites) (Err (c.TooMany k.Sites))
    (Ok (program_numbered (record { units = units; main = main; objects = laid.0; texts = progress.texts; sites = progress.sites; doalls = progress.doalls; words = laid.1 }))) (λ is. cc) (λ is. cc)

layout_never : (shapes : List Shape) → NotLong (layout shapes)
unfolding NotLong
layout_never shapes = either_never (nat_lt 4194304 (words_of shapes)) (Err (c.TooMany k.Words)) (Ok (laid_from 0 shapes, words_of shapes)) (λ is. cc) (λ is. cc)

finished_never : (main : ℕ) (r : List plain.ProgramUnit × Whole) → NotLong (finished main r)
unfolding NotLong
finished_never main r =
    either_never (nat_lt 1024 (length r.1.objects)) (Err (c.TooMany k.Objects)) (with_layout main r.0 r.1.progress (layout r.1.objects)) (λ is. cc)
    (with_layout_never main r.0 r.1.progress (layout r.1.objects) (layout_never r.1.objects))

checked_never : (us : List PUnit) → NotLong (checked us)
checked_never us =
    let ss = map scope_of us in
    unless_never (names_refused us ss) (counts_refused us) (finished (main_from 0 us) (each (units_from 0 us ss) nothing_yet))
    (names_never (first_of undeclared_in ss) (duplicate_in us) (first_of not_constant_in ss) (first_of shape_in ss) (first_of do_variable_in ss) (first_of doall_body_in us) (first_of not_private_in ss))
    (counts_never (nat_lt 64 (length us)) (list_any (λ u. nat_lt 32 (length (dummy_names u.head.form))) us) (list_any (λ ns. nat_lt 33 (length ns)) (slot_lists us)))
    (finished_never (main_from 0 us) (each (units_from 0 us ss) nothing_yet))

-- ---- the check

pub check_answered : (source : List ℕ) (us : List PUnit) (r : CheckRefusal) → HasBuiltUnits source us → Answers program_of (Err r) (checked us) → IsProgramOf source (Err (of_check r))
unfolding NotLong
check_answered source us (c.Undeclared at) has is = (us, has, is)
check_answered source us (c.Duplicate at other) has is = (us, has, is)
check_answered source us (c.NotConstant at) has is = (us, has, is)
check_answered source us (c.Shape at) has is = (us, has, is)
check_answered source us (c.DoVariable at) has is = (us, has, is)
check_answered source us (c.DoallBody at) has is = (us, has, is)
check_answered source us (c.NotPrivate at) has is = (us, has, is)
check_answered source us (c.NoUnit at) has is = (us, has, is)
check_answered source us (c.Arguments at) has is = (us, has, is)
check_answered source us (c.ActualNotVariable at) has is = (us, has, is)
check_answered source us (c.Recursive at) has is = (us, has, is)
check_answered source us (c.Aliased at other) has is = (us, has, is)
check_answered source us (c.TooMany k.Source) has is = absurd (checked_never us is)
check_answered source us (c.TooMany k.Units) has is = (us, has, is)
check_answered source us (c.TooMany k.Dummies) has is = (us, has, is)
check_answered source us (c.TooMany k.Privates) has is = (us, has, is)
check_answered source us (c.TooMany k.Objects) has is = (us, has, is)
check_answered source us (c.TooMany k.Words) has is = (us, has, is)
check_answered source us (c.TooMany k.Sites) has is = (us, has, is)
check_answered source us (c.TooMany k.Paths) has is = (us, has, is)
check_answered source us c.Memory has is = tt

-- ---- for callers

-- an answer that is not want of memory has a text
pub is_named : (source : List ℕ) (r : Refusal) → IsProgramOf source (Err r) → r ≢ Memory → IsNamed r
is_named source (Lex (l.BadByte at)) is other = tt
is_named source (Lex (l.OpenText at)) is other = tt
is_named source (Lex (l.NameLong at)) is other = tt
is_named source (Lex (l.NumberWide at)) is other = tt
is_named source (Lex (l.LineLong at)) is other = tt
is_named source (Lex l.Memory) is other = absurd is
is_named source (Parse (p.NotAStatement n)) is other = tt
is_named source (Parse (p.Depth n)) is other = tt
is_named source (Parse (p.Nesting n)) is other = tt
is_named source (Parse p.Memory) is other = absurd is
is_named source (Check (c.Undeclared at)) is other = tt
is_named source (Check (c.Duplicate at second)) is other = tt
is_named source (Check (c.NotConstant at)) is other = tt
is_named source (Check (c.Shape at)) is other = tt
is_named source (Check (c.DoVariable at)) is other = tt
is_named source (Check (c.DoallBody at)) is other = tt
is_named source (Check (c.NotPrivate at)) is other = tt
is_named source (Check (c.NoUnit at)) is other = tt
is_named source (Check (c.Arguments at)) is other = tt
is_named source (Check (c.ActualNotVariable at)) is other = tt
is_named source (Check (c.Recursive at)) is other = tt
is_named source (Check (c.Aliased at second)) is other = tt
is_named source (Check (c.TooMany kind)) is other = tt
is_named source (Check c.Memory) is other = absurd is
is_named source (Conflict at second) is other = tt
is_named source Memory is other = absurd (other refl)
