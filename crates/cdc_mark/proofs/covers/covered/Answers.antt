use Rattle.std.proofs.Common.{◌↔◌, ◌⊎◌, List, sym, subst, ◌∙◌, rules}
use Rattle.cdc_prog.specs.declared.program.Unit.{Unit as ProgramUnit}
use Rattle.cdc_prog.specs.Translation.{program_of}
use Rattle.cdc_mark.specs.Covered.{HasRunIn}
use Rattle.cdc_mark.specs.Least.{IsIn}
use Rattle.cdc_mark.specs.Marked.{AreCovered}
use Rattle.cdc_mark.proofs.Covering.{are_covered, whole_bits}
use Rattle.cdc_mark.proofs.covers.covered.Goals as goal

pub returns : goal.returns
returns c =
    let p = c.args.program.now in
    let new = c.cover_units.new.covered in
    let old = c.deref_mut.result.now in
    let bits = c.in_ok-covered.covered in
    subst (AreCovered (program_of p) c.args.room) (sym (whole_bits new bits.items bits.len (search rules) (search rules)))
    (are_covered p c.args.room old new c.requires.resolved c.requires.calls (c.deref_mut.ensures.value ∙ c.in_ok-covered.ensures)
    (λ site lt. subst (λ (us : List ProgramUnit). IsIn new site ↔ (IsIn old site ⊎ HasRunIn site us)) c.as_slice.ensures (c.in_ok-cover_units.ensures.bits site lt)))
