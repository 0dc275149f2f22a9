use Rattle.std.proofs.Common.{take}
use Rattle.cdc_mark.specs.Classes.{HaveRoom}
use Rattle.cdc_mark.proofs.classes.room.Given as goal

abbrev pub invariant-loop-q : goal.invariant-loop-q
invariant-loop-q l = HaveRoom (take l.q-index l.refs) l.room
