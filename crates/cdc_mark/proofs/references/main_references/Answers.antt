use Rattle.std.proofs.Common.{◌∙◌}
use Rattle.cdc_mark.proofs.MainUnit.{main_refs_of}
use Rattle.cdc_mark.proofs.references.main_references.Goals as goal

pub returns : goal.returns
returns c =
    c.in_ok-stmts_references.ensures
    ∙ (rw (c.new-refs.ensures.items, c.as_slice.ensures, c.new.ensures, c.new-2.ensures, c.as_slice-body.ensures, c.as_slice-units.ensures) (main_refs_of c.args.program.now c.index-units-main.result c.requires))
