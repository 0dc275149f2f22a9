use Rattle.std.specs.Prelude.{Option, ◌||◌}
use Rattle.cdc_sched.specs.declared.event.Event.{Event}
use Rattle.cdc_sched.specs.Told.{Gives}
use Rattle.std.proofs.Common.{◌≡◌, refl, sym, ◌∙◌, subst, ◌∷◌, Ok, Err, Bool, true, false}
use Rattle.cdc_base.specs.Gathered.{waiting}
use Rattle.cdc_epoch.specs.declared.outcome.Outcome.{Outcome}
use Rattle.cdc_replay.specs.Replays.{ListedEnd}
use Rattle.cdc_replay.proofs.Reading.{starts, takes_on, begins_on, reads_all, refused_there}
use Rattle.cdc_replay.proofs.run.play_listed.Goals as goal

or_false : (b : Bool) → (b || false) ≡ b
or_false true = refl
or_false false = refl

pub loop-refusal-init : goal.loop-refusal-init
loop-refusal-init g c = record {
  can = c.requires.can;
  sides = refl;
  procs = refl;
  failed = refl;
  faults = refl;
  plays = λ o applied h. (applied, h, starts g.F.Fabric o (g.E.Events.told c.args.events.now) c.args.progress.now.left applied);
  quiet = refl;
}

pub returns-in-Err-clause-plays : goal.returns-in-Err-clause-plays
returns-in-Err-clause-plays g c = λ o applied h.
    let at = c.loop-refusal.invariant.plays o applied h in
    subst (λ (e : Outcome). ListedEnd g.F.Fabric o (g.E.Events.told c.args.events.now) c.args.progress.now.left applied (Err e) c.loop-refusal.machine c.loop-refusal.progress (waiting c.loop-refusal.gathered) (g.K.Sink.taken c.loop-refusal.out)) (sym c.refused.ensures)
    (refused_there g.F.Fabric o (g.E.Events.told c.args.events.now) (g.E.Events.told c.loop-refusal.events) (g.E.Events.told c.next_event.new.self) c.in-Err.refusal c.args.progress.now.left applied at.0 c.loop-refusal.machine c.loop-refusal.progress
    (waiting c.loop-refusal.gathered) (g.K.Sink.taken c.loop-refusal.out) at.1 at.2 c.in-Err.ensures.told)

pub returns-in-Ok-None-clause-plays : goal.returns-in-Ok-None-clause-plays
returns-in-Ok-None-clause-plays g c = λ o applied h.
    let at = c.loop-refusal.invariant.plays o applied h in (
      at.0,
      at.1,
      reads_all g.F.Fabric o (g.E.Events.told c.args.events.now) (g.E.Events.told c.loop-refusal.events) (g.E.Events.told c.next_event.new.self) c.args.progress.now.left c.loop-refusal.progress.left applied at.0 at.2
          (subst (λ (x : Option Event). Gives (g.E.Events.told c.loop-refusal.events) (g.E.Events.told c.next_event.new.self) (Ok x)) c.in-Ok-None.field-0-is c.in-Ok-None.ensures.told),
    )

pub take_event-requires-clause-playing : goal.take_event-requires-clause-playing
take_event-requires-clause-playing g c =
    let p = c.requires.playing in
    let at = c.loop-refusal.invariant.plays p.0 p.1 p.2 in
    (p.0, at.0, at.1)

pub returns-in-Err-take_event-clause-plays : goal.returns-in-Err-take_event-clause-plays
returns-in-Err-take_event-clause-plays g c = λ o applied h.
    let at = c.loop-refusal.invariant.plays o applied h in
    let gives = subst (λ (x : Option Event). Gives (g.E.Events.told c.loop-refusal.events) (g.E.Events.told c.next_event.new.self) (Ok x)) c.in-Ok-Some.field-0-is c.in-Ok-Some.ensures.told in
    let broken = c.in-Err-take_event.ensures.broken o at.0 at.1 in (
      c.in-Ok-Some.event ∷ at.0,
      broken.0,
      begins_on g.F.Fabric o (g.E.Events.told c.args.events.now) (g.E.Events.told c.loop-refusal.events) (g.E.Events.told c.next_event.new.self) c.in-Ok-Some.event
          c.args.progress.now.left c.loop-refusal.progress.left applied at.0 at.2 gives broken.1,
    )

pub loop-refusal-preserved : goal.loop-refusal-preserved
loop-refusal-preserved g c = record {
  can = c.take_event.ensures.can;
  sides = c.take_event.ensures.procs ∙ c.loop-refusal.invariant.sides;
  procs = c.take_event.ensures.events.procs ∙ (c.next_event.ensures.procs ∙ c.loop-refusal.invariant.procs);
  failed = c.take_event.ensures.events.failed ∙ (c.in-Ok-Some.ensures.failed ∙ (or_false (g.E.Events.failed c.loop-refusal.events) ∙ c.loop-refusal.invariant.failed));
  faults = c.take_event.ensures.events.faults ∙ (c.in-Ok-Some.ensures.cause.kept refl ∙ c.loop-refusal.invariant.faults);
  plays = λ o applied h.
      let at = c.loop-refusal.invariant.plays o applied h in
      let gives = subst (λ (x : Option Event). Gives (g.E.Events.told c.loop-refusal.events) (g.E.Events.told c.next_event.new.self) (Ok x)) c.in-Ok-Some.field-0-is c.in-Ok-Some.ensures.told in
      let took = c.in-Ok.ensures.plays o at.0 at.1 in (
        took.0,
        took.1,
        takes_on g.F.Fabric o (g.E.Events.told c.args.events.now) (g.E.Events.told c.loop-refusal.events) (g.E.Events.told c.next_event.new.self) (g.E.Events.told c.take_event.new.events) c.in-Ok-Some.event
            c.args.progress.now.left c.loop-refusal.progress.left c.take_event.new.progress.left applied at.0 took.0 at.2 gives took.2,
      );
  quiet = c.in-Ok.ensures.cause.kept ∙ c.loop-refusal.invariant.quiet;
}
