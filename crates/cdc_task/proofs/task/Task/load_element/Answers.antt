use Rattle.std.proofs.Common.{ap}
use Rattle.cdc_task.specs.Held.{Held}
use Rattle.cdc_task.proofs.Room.{room_to_read}
use Rattle.cdc_task.proofs.task.Task.load_element.Goals as goal

pub push-requires : goal.push-requires
push-requires g c = room_to_read _ _ _ _ _ _ _ _ c.in-Some.number _ _ (ap (λ (h : Held). h.stack) c.in-Some.ensures) c.requires.fit.3.1
