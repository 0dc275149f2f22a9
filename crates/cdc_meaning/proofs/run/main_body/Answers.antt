use Rattle.std.proofs.Common.{◌<◌, List, length, ap, ◌∙◌, sym, subst, get_or}
use Rattle.cdc_prog.specs.declared.program.Unit.{Unit as ProgramUnit}
use Rattle.cdc_prog.specs.Units.{shapes_in}
use Rattle.cdc_prog.specs.Translation.{stmts_of, program_of}
use Rattle.std.specs.Prelude.{slice_get}
use Rattle.cdc_meaning.proofs.Answers.{body_is, units_many}
use Rattle.cdc_meaning.proofs.run.main_body.Goals as goal

pub bounds-as_slice-program : goal.bounds-as_slice-program
bounds-as_slice-program c =
    let p = program_of c.args.program.now in
    subst (λ (units : List ProgramUnit). p.main < length units) (sym c.as_slice.ensures) (subst (λ n. p.main < n) (units_many c.args.program.now.units) c.requires.resolved.main)

pub returns : goal.returns
returns c =
    let d = c.index-as_slice-program.result in
    let p = program_of c.args.program.now in
    let h = c.requires.resolved in
    let there : p.main < length c.args.program.now.units = subst (λ n. p.main < n) (units_many c.args.program.now.units) h.main in
    ap stmts_of (c.as_slice-2.ensures ∙ ap (λ (units : List ProgramUnit). (get_or units p.main d).body) c.as_slice.ensures)
    ∙ body_is c.args.program.now.units p.main d p h.ranks (h.ranks p.main) (shapes_in (slice_get p.units p.main)) there (h.fits p.main h.main) (c.requires.calls p.main)
