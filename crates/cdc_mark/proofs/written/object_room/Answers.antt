use Rattle.std.proofs.Common.{arith}
use Rattle.cdc_mark.proofs.Columns.{below_more, below_all}
use Rattle.cdc_mark.proofs.written.object_room.Goals as goal

pub loop-q-preserved : goal.loop-q-preserved
loop-q-preserved c =
    let e = c.raised_above-room.ensures in
    record {
      room = below_more c.args.refs.now c.loop-q.q-index c.loop-q.room c.raised_above-room.result c.q-item.result (omega arith) c.q-item.is e.room e.object c.loop-q.invariant.room;
      bound = e.bound;
    }

pub returns-clause-room : goal.returns-clause-room
returns-clause-room c = below_all c.args.refs.now c.loop-q.q-index c.loop-q.room (omega arith) c.loop-q.invariant.room
