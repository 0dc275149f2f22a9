use Rattle.std.proofs.Common.{pos, ◌∷◌, ap, ◌∙◌}
use Rattle.std.specs.Prelude.{replicate}
use Rattle.std.proofs.lemmas.Int.{to_z-of_z}
use Rattle.cdc_prog.specs.Held.{store_of}
use Rattle.cdc_task.proofs.Slots.{of_index}
use Rattle.cdc_task.proofs.task.first_slots.Goals as goal

pub returns : goal.returns
returns c = ap (λ z. store_of (z ∷ replicate 32 (pos 0))) (to_z-of_z _ c.args.index c.ranges.index) ∙ of_index 32 c.args.index
