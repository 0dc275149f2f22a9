-- The resolved program, or the first refusal: the kinds in their order.
use Rattle.std.specs.Prelude.{ℕ, ◌+◌, Bool, nat_lt, List, map, length, Option, Some, None, Result, Ok, Err, if◌then◌else◌}
use Rattle.std.specs.List.{list_any}
use Rattle.cdc_tree.specs.Units.{PUnit}
use Rattle.cdc_prog.specs.declared.program.Kind.{Kind}
use Rattle.cdc_prog.specs.declared.program.Kind.TheVariants.{Units, Dummies, Privates, Objects, Sites}
use Rattle.cdc_prog.specs.declared.program.Object.{Object}
use Rattle.cdc_prog.specs.Limits.{limit}
use Rattle.cdc_prog.specs.Numbered.{program_numbered}
use Rattle.cdc_prog.specs.Plain as plain
use Rattle.cdc_names.specs.Places.{first_of}
use Rattle.cdc_names.specs.Scopes.{PScope, scope_of}
use Rattle.cdc_names.specs.Undeclared.{undeclared_in}
use Rattle.cdc_names.specs.Duplicates.{duplicate_in, dummy_names, slot_lists}
use Rattle.cdc_names.specs.NotConstant.{not_constant_in}
use Rattle.cdc_names.specs.Shapes.{shape_in}
use Rattle.cdc_names.specs.DoVariables.{do_variable_in}
use Rattle.cdc_names.specs.DoallBodies.{doall_body_in}
use Rattle.cdc_names.specs.Privates.{not_private_in}
use Rattle.cdc_check.specs.declared.progress.Progress.{Progress}
use Rattle.cdc_check.specs.declared.refusal.CheckRefusal.{CheckRefusal}
use Rattle.cdc_check.specs.declared.refusal.CheckRefusal.TheVariants.{Undeclared, Duplicate, NotConstant, Shape, DoVariable, DoallBody, NotPrivate, TooMany}
use Rattle.cdc_check.specs.Threads.{each}
use Rattle.cdc_check.specs.Layout.{layout}
use Rattle.cdc_check.specs.Refusals.{or_else}
use Rattle.cdc_check.specs.Units.{Whole, units_from, nothing_yet, main_from}

-- the refusals of names, in order
abbrev pub names_refused : List PUnit → List PScope → Option CheckRefusal
names_refused us ss =
    or_else (first_of undeclared_in ss) Undeclared
    (or_else (duplicate_in us) (λ p. Duplicate p.0 p.1)
    (or_else (first_of not_constant_in ss) NotConstant
    (or_else (first_of shape_in ss) Shape
    (or_else (first_of do_variable_in ss) DoVariable
    (or_else (first_of doall_body_in us) DoallBody
    (or_else (first_of not_private_in ss) NotPrivate None))))))

-- a quantity over its limit, and else what the later kinds say
abbrev pub over : Bool → Kind → Option CheckRefusal → Option CheckRefusal
over b kind later = if b then Some (TooMany kind) else later

-- units, dummies of a unit, and private names of a DOALL, whose slots are these and the index
abbrev pub counts_refused : List PUnit → Option CheckRefusal
counts_refused us =
    over (nat_lt (limit Units) (length us)) Units
    (over (list_any (λ u. nat_lt (limit Dummies) (length (dummy_names u.head.form))) us) Dummies
    (over (list_any (λ ns. nat_lt (limit Privates + 1) (length ns)) (slot_lists us)) Privates None))

abbrev pub program_with : ℕ → List plain.ProgramUnit → Progress → List Object × ℕ → Result plain.Program CheckRefusal
program_with main units k laid =
    if nat_lt (limit Sites) k.sites then Err (TooMany Sites)
    else Ok (program_numbered (record { units = units; main = main; objects = laid.0; texts = k.texts; sites = k.sites; doalls = k.doalls; words = laid.1 }))

abbrev pub with_layout : ℕ → List plain.ProgramUnit → Progress → Result (List Object × ℕ) CheckRefusal → Result plain.Program CheckRefusal
with_layout main units k (Err refusal) = Err refusal
with_layout main units k (Ok laid) = program_with main units k laid

abbrev pub finished : ℕ → List plain.ProgramUnit × Whole → Result plain.Program CheckRefusal
finished main r =
    if nat_lt (limit Objects) (length r.1.objects) then Err (TooMany Objects)
    else with_layout main r.0 r.1.progress (layout r.1.objects)

abbrev pub unless_refused : Option CheckRefusal → Result plain.Program CheckRefusal → Result plain.Program CheckRefusal
unless_refused (Some refusal) program = Err refusal
unless_refused None program = program

abbrev pub checked_in : List PUnit → List PScope → Result plain.Program CheckRefusal
checked_in us ss =
    unless_refused (names_refused us ss)
    (unless_refused (counts_refused us)
    (finished (main_from 0 us) (each (units_from 0 us ss) nothing_yet)))

abbrev pub checked : List PUnit → Result plain.Program CheckRefusal
checked us = checked_in us (map scope_of us)
