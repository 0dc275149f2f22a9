use Rattle.std.proofs.Common.{◌∙◌, ap, Ok, Err}
use Rattle.std.specs.Prelude.{Result, OnErr}
use Rattle.cdc_base.specs.Gathered.{waiting}
use Rattle.cdc_prog.specs.Lines.{opened}
use Rattle.cdc_prog.specs.Meaning.{bytes_of}
use Rattle.cdc_replay.specs.Effects.{piece_in}
use Rattle.cdc_replay.specs.declared.progress.Progress.{Progress}
use Rattle.cdc_replay.proofs.Applying.{can_next, plays_next, breaks_next, tells_next}
use Rattle.cdc_replay.proofs.run.apply_event.Goals as goal

on_err : {T E P : Type 0} (r : Result T E) → P → OnErr r P
on_err (Ok x) p = tt
on_err (Err e) p = p

pub returns-in_err-progress-clause-broken : goal.returns-in_err-progress-clause-broken
returns-in_err-progress-clause-broken g c = λ o applied h.
    on_err c.from_residual.result (breaks_next g.F.Fabric c.args.event o applied c.args.machine.now c.apply-effect.new.self c.args.progress.now c.count.new.self c.apply-effect.result (waiting c.args.gathered.now) _ _ c.texts.result.now
    c.requires.can c.apply-effect.ensures.step c.apply-effect.ensures.carry h c.requires.running c.requires.some c.count.ensures c.texts.ensures c.in_err-progress.ensures.failed)

pub returns-in_err-progress-clause-can : goal.returns-in_err-progress-clause-can
returns-in_err-progress-clause-can g c =
    let at = c.requires.playing in
    (can_next g.F.Fabric c.args.event at.0 at.1 c.args.machine.now c.apply-effect.new.self c.args.progress.now c.apply-effect.result _ _ c.requires.can c.apply-effect.ensures.step at.2 c.requires.running).0

pub returns-in_err-progress-clause-procs : goal.returns-in_err-progress-clause-procs
returns-in_err-progress-clause-procs g c =
    let at = c.requires.playing in
    (can_next g.F.Fabric c.args.event at.0 at.1 c.args.machine.now c.apply-effect.new.self c.args.progress.now c.apply-effect.result _ _ c.requires.can c.apply-effect.ensures.step at.2 c.requires.running).1

pub returns-clause-plays : goal.returns-clause-plays
returns-clause-plays g c = λ o applied h.
    plays_next g.F.Fabric c.args.event o applied c.args.machine.now c.apply-effect.new.self c.args.progress.now c.count.new.self c.apply-effect.result (waiting c.args.gathered.now) (waiting c.say_effect.new.gathered) _ _ c.in_ok-progress.field-0 c.texts.result.now
    c.requires.can c.apply-effect.ensures.step c.apply-effect.ensures.carry h c.requires.running c.requires.some c.count.ensures c.texts.ensures c.in_ok-progress.ensures.ok
    (c.in_ok-progress.ensures.line ∙ ap (λ (p : Progress). opened p.is_open (bytes_of c.texts.result.now (piece_in c.apply-effect.result))) c.count.ensures)

pub returns-clause-effect : goal.returns-clause-effect
returns-clause-effect g c = λ o applied h.
    tells_next g.F.Fabric c.args.event o applied c.args.machine.now c.apply-effect.new.self c.args.progress.now c.apply-effect.result (waiting c.args.gathered.now) _ c.requires.can c.apply-effect.ensures.step h c.requires.running

pub returns-clause-can : goal.returns-clause-can
returns-clause-can g c =
    let at = c.requires.playing in
    (can_next g.F.Fabric c.args.event at.0 at.1 c.args.machine.now c.apply-effect.new.self c.args.progress.now c.apply-effect.result _ _ c.requires.can c.apply-effect.ensures.step at.2 c.requires.running).0

pub returns-clause-procs : goal.returns-clause-procs
returns-clause-procs g c =
    let at = c.requires.playing in
    (can_next g.F.Fabric c.args.event at.0 at.1 c.args.machine.now c.apply-effect.new.self c.args.progress.now c.apply-effect.result _ _ c.requires.can c.apply-effect.ensures.step at.2 c.requires.running).1
