use Rattle.std.proofs.Common.{◌+◌, ◌∷◌, length, sym, ◌∙◌, ap}
use Rattle.std.specs.Str.Lines.{lines}
use Rattle.std.proofs.Math.Seq.{drop-length}
use Rattle.cdc_input.proofs.Lines.{first_line, last_line, rest_whole}
use Rattle.cdc_input.proofs.file.next_line.Goals as goal

pub returns-in-Some-clause-lines : goal.returns-in-Some-clause-lines
returns-in-Some-clause-lines c =
    let bytes = c.args.bytes.now in
    first_line bytes c.in-Some.end c.in-Some.ensures ∙ (λ i. sym c.without_return.ensures.value i ∷ lines (sym (rest_whole (c.in-Some.end + 1) bytes) i))

pub returns-in-None-clause-lines : goal.returns-in-None-clause-lines
returns-in-None-clause-lines c =
    let bytes = c.args.bytes.now in
    last_line bytes c.requires c.in-None.ensures ∙ ap (λ z. bytes ∷ lines z) (sym (rest_whole (length bytes) bytes ∙ drop-length bytes))
