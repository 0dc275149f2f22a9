use Rattle.std.proofs.Common.{map, length, ap, sym, ◌∙◌}
use Rattle.std.proofs.lemmas.List.{length-map}
use Rattle.cdc_prog.proofs.Numbered.{as_many}
use Rattle.cdc_prog.specs.Translation.{unit_of}
use Rattle.cdc_report.proofs.accepted.unit_count.Goals as goal

pub returns : goal.returns
returns c =
    let units = c.args.program.now.units in
    ap (λ us. length us) c.as_slice.ensures ∙ sym (as_many 0 (map unit_of units) ∙ length-map units unit_of)
