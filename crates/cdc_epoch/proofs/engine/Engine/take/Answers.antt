use Rattle.std.proofs.Common.{◌≡◌, None, get_or, refl, sym, ◌∙◌}
use Rattle.cdc_sched.specs.declared.event.Event.TheVariants as event
use Rattle.cdc_machine.specs.Machine.{Rests, deed}
use Rattle.cdc_epoch.proofs.Taking.{idles, some_busy, gone, no_hand, does_take}
use Rattle.cdc_epoch.proofs.engine.Engine.take.Goals as goal
use Rattle.cdc_epoch.proofs.engine.Engine.take.Goals.{then-is_some-via-then-is_some, then-is_some-via-else-is_some+then-not-is_free}

pub returns-then-is_some : goal.returns-then-is_some
returns-then-is_some g c =
    λ m can. let old = c.args.self.now in
    let rests : deed (event.Take c.args.p c.args.i) m ≡ Rests = elim c.then-is_some.branch [
      | then-is_some-via-then-is_some w ↦ some_busy g.F.Fabric old m can c.args.p c.args.i c.hand.result c.hand.ensures (sym c.is_some.ensures ∙ w.if-is_some.true)
      | then-is_some-via-else-is_some+then-not-is_free w ↦
          gone g.F.Fabric old m can c.args.p c.args.i (no_hand c.hand.result (get_or old.roster.held c.args.p None) c.hand.ensures (sym c.is_some.ensures ∙ w.if-is_some.false)) (sym w.is_free.ensures ∙ w.if-not-is_free.true)
    ] in
    idles g.F.Fabric old m can (deed (event.Take c.args.p c.args.i) m) rests _ (record { code = refl; records = refl; memory = refl; parts = refl }) refl refl refl

pub returns : goal.returns
returns g c =
    λ m can. let old = c.args.self.now in
    does_take g.F.Fabric old m can c.args.p c.args.i c.hold.result c.hold.new.self (no_hand c.hand.result (get_or old.roster.held c.args.p None) c.hand.ensures (sym c.is_some.ensures ∙ c.if-is_some.false))
    (sym c.is_free.ensures ∙ c.if-not-is_free.false) (λ at free. c.hold.ensures m at can free)
