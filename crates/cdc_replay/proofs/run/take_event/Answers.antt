use Rattle.std.proofs.Common.{◌≤◌, ◌∙◌, ◌++◌, ◌∷◌, ◌-◌, ap, sym, subst, ℕ, Ok, Err}
use Rattle.std.specs.Prelude.{Result, OnErr, replicate}
use Rattle.cdc_base.specs.Gathered.{waiting}
use Rattle.cdc_replay.specs.declared.progress.Progress.{Progress}
use Rattle.cdc_replay.specs.Replays.{Playing}
use Rattle.cdc_replay.proofs.Listing.{stopped, running, passes, takes, begins, many_play, can_left, left_after}
use Rattle.cdc_replay.proofs.Passing.{skipped}
use Rattle.cdc_replay.proofs.run.take_event.Goals as goal

on_err : {T E P : Type 0} (r : Result T E) → P → OnErr r P
on_err (Ok x) p = tt
on_err (Err e) p = p

pub returns-then-not-can_go_on-clause-plays : goal.returns-then-not-can_go_on-clause-plays
returns-then-not-can_go_on-clause-plays g c = λ o applied h.
    let stops = stopped g.F.Fabric o applied c.args.machine.now c.args.progress.now (waiting c.args.gathered.now) _ h (sym c.can_go_on.ensures ∙ c.if-not-can_go_on.true) in (
      applied,
      h,
      passes g.F.Fabric o c.args.event (g.E.Events.told c.args.events.now) (g.E.Events.told c.pass_same.new.self) c.pass_same.result c.args.progress.now.left applied stops
          (skipped c.args.event (g.E.Events.told c.args.events.now) (g.E.Events.told c.pass_same.new.self) (g.E.Events.last c.args.events.now) c.pass_same.result c.requires.last c.pass_same.ensures.told),
    )

pub returns-in_err-effect-clause-broken : goal.returns-in_err-effect-clause-broken
returns-in_err-effect-clause-broken g c = λ o applied h.
    let can = sym c.can_go_on.ensures ∙ c.if-not-can_go_on.false in
    on_err c.from_residual.result (
      c.in_err-effect.ensures.broken o applied h,
      λ t told. begins g.F.Fabric o c.args.event t c.args.progress.now.left applied (can_left c.args.progress.now can) (running g.F.Fabric o applied c.args.machine.now c.args.progress.now (waiting c.args.gathered.now) _ h can),
    )

pub returns-clause-plays : goal.returns-clause-plays
returns-clause-plays g c = λ o applied h.
    let can = sym c.can_go_on.ensures ∙ c.if-not-can_go_on.false in
    let some = can_left c.args.progress.now can in
    let runs = running g.F.Fabric o applied c.args.machine.now c.args.progress.now (waiting c.args.gathered.now) _ h can in
    let played = c.in_ok-effect.ensures.plays o applied h in
    let is = c.in_ok-effect.ensures.effect o applied h in
    let n = c.pass_idle.ensures.passed.0 in
    let within = c.pass_idle.ensures.passed.1 in
    let after = c.pass_idle.ensures.passed.2 in
    let idle = c.pass_idle.ensures.passed.3 in
    let left = left_after g.F.Fabric o c.args.event applied c.args.machine.now c.apply_event.new.machine c.args.progress.now c.apply_event.new.progress (waiting c.args.gathered.now) (waiting c.apply_event.new.gathered) _ _ h played in
    let more = many_play g.F.Fabric o n c.args.event applied c.args.machine.now.side c.in_ok-effect.effect c.apply_event.new.machine c.apply_event.new.progress (waiting c.apply_event.new.gathered) _ idle is within played in (
      replicate n c.args.event ++ c.args.event ∷ applied,
      subst (λ (q : Progress). Playing g.F.Fabric o (replicate n c.args.event ++ c.args.event ∷ applied) c.apply_event.new.machine q (waiting c.apply_event.new.gathered) (g.K.Sink.taken c.apply_event.new.out)) (sym after) more,
      takes g.F.Fabric o c.args.event (g.E.Events.told c.args.events.now) (g.E.Events.told c.pass_idle.new.events) n c.args.progress.now.left c.pass_idle.new.progress.left applied c.args.machine.now.side c.in_ok-effect.effect
          some (subst (λ (l : ℕ). n ≤ l) left within) (ap (λ (q : Progress). q.left) after ∙ ap (λ (l : ℕ). l - n) left) idle is runs c.pass_idle.ensures.passed.4,
    )
