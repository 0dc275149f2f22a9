use Rattle.std.proofs.Common.{◌≡◌, ◌-◌, length}
use Rattle.cdc_prog.specs.Input.{take}
use Rattle.cdc_task.specs.Held.{left_at}
use Rattle.cdc_task.proofs.place.Place.take.Given as goal

abbrev pub decreases-loop-record : goal.decreases-loop-record
decreases-loop-record l = length l.records - l.self.records

abbrev pub invariant-loop-record : goal.invariant-loop-record
invariant-loop-record l = take (left_at l.records l.initial.self) ≡ take (left_at l.records l.self)
