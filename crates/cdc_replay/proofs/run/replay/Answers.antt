use Rattle.std.proofs.Common.{[], refl, subst}
use Rattle.cdc_base.specs.Gathered.{waiting}
use Rattle.cdc_sched.specs.Tail.{tail_event}
use Rattle.cdc_epoch.specs.declared.outcome.Outcome.{Outcome}
use Rattle.cdc_replay.specs.Replays.{HandsOut, opening_of}
use Rattle.cdc_replay.proofs.Finishes.{begins, finishes, left_within, reads_end, cause_end}
use Rattle.cdc_replay.proofs.run.replay.Goals as goal

pub play-played-requires-clause-playing : goal.play-played-requires-clause-playing
play-played-requires-clause-playing g c =
    let o = opening_of c.args.machine.now c.args.bound (g.K.Sink.taken c.args.out.now) in
    (o, [], begins g.F.Fabric o c.args.machine.now c.start-progress.result (waiting c.new-gathered.result) refl refl refl c.requires.first c.ranges.bound.fits c.start-progress.ensures c.new-gathered.ensures)

pub overflow_sub-result : goal.overflow_sub-result
overflow_sub-result g c =
    let o = opening_of c.args.machine.now c.args.bound (g.K.Sink.taken c.args.out.now) in
    let h = begins g.F.Fabric o c.args.machine.now c.start-progress.result (waiting c.new-gathered.result) refl refl refl c.requires.first c.ranges.bound.fits c.start-progress.ensures c.new-gathered.ensures in
    let t = c.requires.first_of_tail in
    left_within g.F.Fabric o (g.E.Events.told c.args.events.now) (tail_event t.0 t.1 t.2) c.play-played.result c.play-played.new.machine c.play-played.new.progress (waiting c.play-played.new.gathered) (g.K.Sink.taken c.play-played.new.out)
    (c.play-played.ensures.plays o h t.0 t.1 t.2 t.3)

pub returns-clause-replays : goal.returns-clause-replays
returns-clause-replays g c = λ kind procs lines ts.
    let o = opening_of c.args.machine.now c.args.bound (g.K.Sink.taken c.args.out.now) in
    let h = begins g.F.Fabric o c.args.machine.now c.start-progress.result (waiting c.new-gathered.result) refl refl refl c.requires.first c.ranges.bound.fits c.start-progress.ensures c.new-gathered.ensures in
    finishes g.F.Fabric o (g.E.Events.told c.args.events.now) (tail_event kind procs lines) c.play-played.result c.play-played.new.machine c.play-played.new.progress (waiting c.play-played.new.gathered) (g.K.Sink.taken c.play-played.new.out)
    (g.K.Sink.taken c.hand_out.new.out) c.hand_out.result (g.K.Sink.faults c.play-played.new.out) (g.K.Sink.faults c.hand_out.new.out) (c.play-played.ensures.plays o h kind procs lines ts)
    (subst (λ (e : Outcome). HandsOut e c.hand_out.result (g.K.Sink.taken c.play-played.new.out) (g.K.Sink.taken c.hand_out.new.out) (waiting c.play-played.new.gathered) (g.K.Sink.faults c.play-played.new.out) (g.K.Sink.faults c.hand_out.new.out))
    c.end_of_run-end.ensures c.hand_out.ensures)

pub returns-clause-read : goal.returns-clause-read
returns-clause-read g c =
    let o = opening_of c.args.machine.now c.args.bound (g.K.Sink.taken c.args.out.now) in
    let h = begins g.F.Fabric o c.args.machine.now c.start-progress.result (waiting c.new-gathered.result) refl refl refl c.requires.first c.ranges.bound.fits c.start-progress.ensures c.new-gathered.ensures in
    let t = c.requires.first_of_tail in
    reads_end g.F.Fabric o g.E.Events c.args.events.now c.play-played.new.events (g.E.Events.told c.args.events.now) (tail_event t.0 t.1 t.2) c.play-played.result c.play-played.new.machine c.play-played.new.progress (waiting c.play-played.new.gathered)
    (g.K.Sink.taken c.play-played.new.out) (g.K.Sink.taken c.hand_out.new.out) c.hand_out.result (g.K.Sink.faults c.play-played.new.out) (g.K.Sink.faults c.hand_out.new.out) (c.play-played.ensures.plays o h t.0 t.1 t.2 t.3) c.play-played.ensures.read
    (subst (λ (e : Outcome). HandsOut e c.hand_out.result (g.K.Sink.taken c.play-played.new.out) (g.K.Sink.taken c.hand_out.new.out) (waiting c.play-played.new.gathered) (g.K.Sink.faults c.play-played.new.out) (g.K.Sink.faults c.hand_out.new.out))
    c.end_of_run-end.ensures c.hand_out.ensures)

pub returns-clause-cause : goal.returns-clause-cause
returns-clause-cause g c =
    let o = opening_of c.args.machine.now c.args.bound (g.K.Sink.taken c.args.out.now) in
    let h = begins g.F.Fabric o c.args.machine.now c.start-progress.result (waiting c.new-gathered.result) refl refl refl c.requires.first c.ranges.bound.fits c.start-progress.ensures c.new-gathered.ensures in
    let t = c.requires.first_of_tail in
    cause_end g.F.Fabric o (g.K.Sink.faults c.args.out.now) (g.E.Events.told c.args.events.now) (tail_event t.0 t.1 t.2) c.play-played.result c.play-played.new.machine c.play-played.new.progress (waiting c.play-played.new.gathered)
    (g.K.Sink.taken c.play-played.new.out) (g.K.Sink.taken c.hand_out.new.out) c.hand_out.result (g.K.Sink.faults c.play-played.new.out) (g.K.Sink.faults c.hand_out.new.out) (c.play-played.ensures.plays o h t.0 t.1 t.2 t.3) c.play-played.ensures.cause
    (subst (λ (e : Outcome). HandsOut e c.hand_out.result (g.K.Sink.taken c.play-played.new.out) (g.K.Sink.taken c.hand_out.new.out) (waiting c.play-played.new.gathered) (g.K.Sink.faults c.play-played.new.out) (g.K.Sink.faults c.hand_out.new.out))
    c.end_of_run-end.ensures c.hand_out.ensures)
