use Rattle.std.proofs.Common.{[]}
use Rattle.cdc_base.specs.Gathered.{waiting}
use Rattle.cdc_sched.specs.Tail.{tail_event}
use Rattle.cdc_replay.specs.Applied.{has_ended, with_tail}
use Rattle.cdc_replay.proofs.Finishes.{listed_out, tail_out, tail_cut}
use Rattle.cdc_replay.proofs.run.play.Goals as goal

pub play_tail-requires-clause-playing : goal.play_tail-requires-clause-playing
play_tail-requires-clause-playing g c =
    let p = c.requires.playing in
    let at = c.in-Ok.ensures.plays p.0 p.1 p.2 in
    (p.0, at.0, at.1)

pub returns-in-Err-clause-plays : goal.returns-in-Err-clause-plays
returns-in-Err-clause-plays g c = λ o h kind procs lines ts.
    listed_out g.F.Fabric o (g.E.Events.told c.args.events.now) (tail_event kind procs lines) c.in-Err.end c.args.machine.now c.args.progress.now (waiting c.args.gathered.now) (g.K.Sink.taken c.args.out.now)
    c.play_listed.new.machine c.play_listed.new.progress (waiting c.play_listed.new.gathered) (g.K.Sink.taken c.play_listed.new.out) h (c.in-Err.ensures.plays o [] h)

pub returns-in-Ok-play_tail-clause-plays : goal.returns-in-Ok-play_tail-clause-plays
returns-in-Ok-play_tail-clause-plays g c = λ o h kind procs lines ts.
    let at = c.in-Ok.ensures.plays o [] h in (
      with_tail (has_ended o.code o.records) (tail_event kind procs lines) c.play_listed.new.progress.left 0 at.0,
      c.in-Ok-play_tail.ensures.plays o at.0 at.1 kind procs lines 0 ts,
      tail_out g.F.Fabric o (g.E.Events.told c.args.events.now) (tail_event kind procs lines) c.args.machine.now c.args.progress.now (waiting c.args.gathered.now) (g.K.Sink.taken c.args.out.now) c.play_listed.new.progress.left at.0 h at.2,
    )

pub returns-in-Err-play_tail-clause-plays : goal.returns-in-Err-play_tail-clause-plays
returns-in-Err-play_tail-clause-plays g c = λ o h kind procs lines ts.
    let at = c.in-Ok.ensures.plays o [] h in
    let broken = c.in-Err-play_tail.ensures.broken o at.0 at.1 kind procs lines 0 ts in (
      broken.0,
      broken.2,
      tail_cut g.F.Fabric o (g.E.Events.told c.args.events.now) (tail_event kind procs lines) c.args.machine.now c.args.progress.now (waiting c.args.gathered.now) (g.K.Sink.taken c.args.out.now)
          c.play_listed.new.progress.left at.0 broken.0 broken.1 h at.2 broken.3,
    )
