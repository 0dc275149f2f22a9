use Rattle.std.proofs.Common.{[], ◌∷◌, map, sym, ap, ◌∙◌}
use Rattle.std.specs.Prelude.{reverse}
use Rattle.std.proofs.lemmas.List.{reverse-append}
use Rattle.cdc_task.specs.Held.{Held}
use Rattle.cdc_task.specs.Parts.{loop_of}
use Rattle.cdc_task.proofs.task.Task.innermost.Goals as goal

pub returns : goal.returns
returns c =
    let front = c.in_ok-open.field-0-1.now in
    let held = ap (λ (h : Held). h.loops) (sym c.self.view_is) in
    let items = sym c.as_slice.ensures.value ∙ c.in_ok-open.ensures.cases.0 in
    (map loop_of (reverse front), held ∙ (ap (λ l. map loop_of (reverse l)) items ∙ ap (map loop_of) (reverse-append front (c.in_ok-open.open.now ∷ []))))
