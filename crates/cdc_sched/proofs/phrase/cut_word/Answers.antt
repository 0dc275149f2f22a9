use Rattle.std.proofs.Common.{◌+◌, ◌∷◌, length, take, sym, ◌∙◌, ap}
use Rattle.std.proofs.Math.Seq.{drop-length}
use Rattle.cdc_sched.specs.Lines.{words}
use Rattle.cdc_sched.proofs.Cuts.{rest_whole}
use Rattle.cdc_sched.proofs.Words.{word_to, word_last}
use Rattle.cdc_sched.proofs.phrase.cut_word.Goals as goal

pub returns-in-Some : goal.returns-in-Some
returns-in-Some c =
    let line = c.args.line.now in
    word_to line c.in-Some.end c.requires.some c.requires.begins c.in-Some.ensures ∙ (λ i. take c.in-Some.end line ∷ words (sym (rest_whole (c.in-Some.end + 1) line) i))

pub returns-in-None : goal.returns-in-None
returns-in-None c =
    let line = c.args.line.now in
    word_last line c.requires.some c.in-None.ensures ∙ ap (λ z. line ∷ words z) (sym (rest_whole (length line) line ∙ drop-length line))
