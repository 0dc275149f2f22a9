use Rattle.std.proofs.Common.{arith}
use Rattle.cdc_mark.proofs.Sets.{room_more, room_all}
use Rattle.cdc_mark.proofs.classes.room.Goals as goal

pub loop-q-preserved : goal.loop-q-preserved
loop-q-preserved c =
    room_more c.args.refs.now c.loop-q.q-index c.loop-q.room c.raised-room.result c.q-item.result (omega arith) c.q-item.is c.raised-room.ensures.room c.raised-room.ensures.site c.loop-q.invariant

pub returns : goal.returns
returns c = room_all c.args.refs.now c.loop-q.q-index c.loop-q.room (omega arith) c.loop-q.invariant
