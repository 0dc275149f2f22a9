use Rattle.std.proofs.Common.{◌∙◌, List, ℕ, map, ap, ap₂, sym}
use Rattle.cdc_prog.specs.declared.program.Object.{Object}
use Rattle.cdc_prog.specs.declared.program.Unit.{Unit as ProgramUnit}
use Rattle.cdc_report.specs.Listing.{Named}
use Rattle.cdc_report.proofs.Lines.{same_names}
use Rattle.cdc_report.proofs.operands.Named.by.Goals as goal

abbrev viewed : List ProgramUnit → List Object → Named
viewed units objects = record { units = map (λ (u : ProgramUnit). u.name) units; objects = objects }

pub returns : goal.returns
returns c =
    let p = c.args.program.now in
    ap₂ viewed c.as_slice.ensures c.as_slice-2.ensures ∙ ap (λ (units : List (List ℕ)). record { units = units; objects = p.objects }) (sym (same_names 0 p.units))
