use Rattle.std.proofs.Common.{[], ◌∷◌, ◌++◌, ℕ, List}
use Rattle.std.specs.Prelude.{codes}
use Rattle.cdc_text.proofs.Gathers.{gathered_first, gathered_second}
use Rattle.cdc_text.specs.Texts.{number, joined}
use Rattle.cdc_report.specs.declared.boundaries.Loop.{Loop}
use Rattle.cdc_report.specs.MarkLines.{list_text}
use Rattle.cdc_report.proofs.boundaries.gather_boundary.Goals as goal

abbrev head : Loop → List ℕ → List ℕ
head loop boundary = joined (codes "doall " ∷ number loop.number ∷ codes " line " ∷ number loop.line ∷ boundary ∷ [])

pub returns-in_err-gather_texts : goal.returns-in_err-gather_texts
returns-in_err-gather_texts g c =
    let a = head c.args.at c.args.boundary.now in
    let b = list_text c.args.named.now c.args.written.now in
    gathered_first a (b ++ codes "\n") c.from_residual.result _ _ _ _ _ _ c.from_residual.ensures.0 c.in_err-gather_texts.ensures.part

pub returns-in_err-gather_list : goal.returns-in_err-gather_list
returns-in_err-gather_list g c =
    let a = head c.args.at c.args.boundary.now in
    let b = list_text c.args.named.now c.args.written.now in
    let r = c.from_residual-in_err-gather_list.result in
    gathered_second a (b ++ codes "\n") r _ _ _ _ _ _ _ _ _ c.in_ok-gather_texts.ensures.whole
    (gathered_first b (codes "\n") r _ _ _ _ _ _ c.from_residual-in_err-gather_list.ensures.0 c.in_err-gather_list.ensures.part)

pub returns : goal.returns
returns g c =
    let a = head c.args.at c.args.boundary.now in
    let b = list_text c.args.named.now c.args.written.now in
    gathered_second a (b ++ codes "\n") c.gather_texts-2.result _ _ _ _ _ _ _ _ _ c.in_ok-gather_texts.ensures.whole
    (gathered_second b (codes "\n") c.gather_texts-2.result _ _ _ _ _ _ _ _ _ c.in_ok-gather_list.ensures.whole c.gather_texts-2.ensures)
