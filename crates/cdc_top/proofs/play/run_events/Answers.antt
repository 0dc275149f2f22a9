use Rattle.std.proofs.Common.{◌≡◌, refl, inl, subst}
use Rattle.cdc_code.specs.declared.code.Code.{Code}
use Rattle.cdc_prog.specs.Input.{Input}
use Rattle.cdc_top.specs.Answer.{SaidOneOf}
use Rattle.cdc_top.specs.Run.{played}
use Rattle.cdc_top.proofs.Begun.{begun_here}
use Rattle.cdc_top.proofs.play.run_events.Goals as goal

pub play_out-requires-clause-begun : goal.play_out-requires-clause-begun
play_out-requires-clause-begun g c = begun_here _ _ _ c.in-Ok.machine c.in-Ok.ensures

pub returns-in-Ok : goal.returns-in-Ok
returns-in-Ok g c = λ t told.
    let loaded = c.args.loaded in
    let old = g.K.Sink.taken c.args.out.now in
    let new = g.K.Sink.taken c.play_out.new.out in
    let before = g.K.Sink.faults c.args.out.now in
    let now = g.K.Sink.faults c.play_out.new.out in
    subst (λ (k : Code). SaidOneOf (λ a. a ≡ played k loaded.records.records t c.args.header) c.play_out.result old new before now) c.in-Ok.ensures.code_is
    (subst (λ (r : Input). SaidOneOf (λ a. a ≡ played c.in-Ok.machine.code r t c.args.header) c.play_out.result old new before now) c.in-Ok.ensures.records_are (c.play_out.ensures t told))

pub returns : goal.returns
returns g c = λ t told. inl (refl, refl, refl)
