use Rattle.std.proofs.Common.{◌∙◌}
use Rattle.cdc_emit.proofs.Renumbered.{assembled}
use Rattle.cdc_emit.proofs.program.emit.Goals as goal

pub returns : goal.returns
returns c =
    assembled c.args.program.now c.args.marks.now c.as_slice-units.result.now c.as_slice.result.now c.new-steps.result c.steps.inside.items.items _ _ _ _ _ _
    c.as_slice-units.ensures c.as_slice.ensures c.new-steps.ensures (c.steps.view_is ∙ c.in_ok-starts.ensures.steps) c.in_ok-starts.ensures.starts c.in_ok-shapes.ensures
    (c.in_ok-copied_objects.ensures ∙ c.as_slice-2.ensures) (c.in_ok-copied_lists.ensures ∙ c.as_slice-3.ensures) (c.in_ok-copied_lists-2.ensures ∙ c.as_slice-4.ensures) (c.in_ok-copied_lists-3.ensures ∙ c.as_slice-5.ensures)
