use Rattle.std.proofs.Common.{◌≡◌, length}
use Rattle.cdc_prog.specs.Input.{take}
use Rattle.cdc_prog.specs.Unread.{left_of}
use Rattle.cdc_prog.proofs.unread.Unread.take.Given as goal

abbrev pub decreases-loop-record : goal.decreases-loop-record
decreases-loop-record l = length l.self.records.now

abbrev pub invariant-loop-record : goal.invariant-loop-record
invariant-loop-record l = take (left_of l.initial.self) ≡ take (left_of l.self)
