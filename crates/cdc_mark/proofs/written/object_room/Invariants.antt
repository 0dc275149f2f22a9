use Rattle.std.proofs.Common.{take, ◌≤◌, ◌^◌}
use Rattle.cdc_mark.specs.Rows.{AreBelow}
use Rattle.cdc_mark.proofs.written.object_room.Given as goal

abbrev pub invariant-loop-q : goal.invariant-loop-q
invariant-loop-q l = record {
  room : AreBelow (take l.q-index l.refs) l.room;
  bound : l.room ≤ 2 ^ 32;
}
