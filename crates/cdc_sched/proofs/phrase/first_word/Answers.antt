use Rattle.std.proofs.Common.{◌≡◌, ◌+◌, get_or, sym, ◌∙◌, ap, arith}
use Rattle.std.proofs.lemmas.List.{get_or-drop}
use Rattle.cdc_sched.specs.Lines.{is_blank, words}
use Rattle.cdc_sched.proofs.Cuts.{rest_whole}
use Rattle.cdc_sched.proofs.Words.{word_from, no_word}
use Rattle.cdc_sched.proofs.phrase.first_word.Goals as goal

pub cut_word-requires-clause-begins : goal.cut_word-requires-clause-begins
cut_word-requires-clause-begins c =
    let line = c.args.line.now in
    let start = c.in-Some.start in
    let first : start + 0 ≡ start = omega arith in
    ap (λ z. is_blank (get_or z 0 0)) (rest_whole start line) ∙ ap is_blank (get_or-drop start line 0 0) ∙
    ap (λ k. is_blank (get_or line k 0)) first ∙ (word_from line start c.in-Some.ensures).2

pub returns-in-Some : goal.returns-in-Some
returns-in-Some c =
    let line = c.args.line.now in
    let start = c.in-Some.start in
    (word_from line start c.in-Some.ensures).0 ∙ ap words (sym (rest_whole start line)) ∙ c.cut_word.ensures

pub returns-in-None : goal.returns-in-None
returns-in-None c = no_word c.args.line.now c.in-None.ensures
