use Rattle.std.proofs.Common.{refl, sym, subst, ◌<◌}
use Rattle.cdc_epoch.proofs.Applies.{with_count, counted, counted_can, held_counted}
use Rattle.cdc_epoch.proofs.engine.Engine.act.Goals as goal

pub carry_out-requires : goal.carry_out-requires
carry_out-requires g c =
    let old = c.args.self.now in
    let h = c.requires.held in
    record {
      proc = c.requires.proc;
      held = (with_count h.0 c.args.p, h.1, counted_can g.F.Fabric old _ h.0 c.args.p refl refl refl c.count.ensures refl c.requires.proc old.counted h.2, held_counted h.0 c.args.p c.args.p c.args.i h.1 h.3);
    }

pub returns : goal.returns
returns g c = λ m at can held.
    let old = c.args.self.now in
    counted g.F.Fabric old _ m c.args.p c.args.i at refl refl refl c.carry_out.result c.carry_out.new.self
    (c.carry_out.ensures (with_count m c.args.p) at (counted_can g.F.Fabric old _ m c.args.p refl refl refl c.count.ensures refl c.requires.proc old.counted can) (held_counted m c.args.p c.args.p c.args.i at held))
