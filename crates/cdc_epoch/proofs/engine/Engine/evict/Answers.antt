use Rattle.std.proofs.Common.{refl, ap, sym, ◌∙◌, Bool, if◌then◌else◌}
use Rattle.cdc_machine.specs.declared.effect.Effect.TheVariants as effect
use Rattle.cdc_epoch.specs.Side.{Stays}
use Rattle.cdc_epoch.proofs.Applies.{drops}
use Rattle.cdc_epoch.proofs.engine.Engine.evict.Goals as goal

pub returns-then-evict : goal.returns-then-evict
returns-then-evict g c = λ m can.
    let e = c.evict.ensures in
    let stays : Stays g.F.Fabric c.args.self.now.side c.evict.new.self = record { procs = e.procs; words = e.words; made = e.made; lines = e.lines; plain = e.plain } in
    drops g.F.Fabric c.args.self.now _ m can c.args.p c.args.line effect.Dropped refl refl refl stays e.step (ap (λ (b : Bool). if b then effect.Dropped else effect.Idle) (sym c.if-evict.true ∙ e.was))

pub returns-else-evict : goal.returns-else-evict
returns-else-evict g c = λ m can.
    let e = c.evict.ensures in
    let stays : Stays g.F.Fabric c.args.self.now.side c.evict.new.self = record { procs = e.procs; words = e.words; made = e.made; lines = e.lines; plain = e.plain } in
    drops g.F.Fabric c.args.self.now _ m can c.args.p c.args.line effect.Idle refl refl refl stays e.step (ap (λ (b : Bool). if b then effect.Dropped else effect.Idle) (sym c.if-evict.false ∙ e.was))
