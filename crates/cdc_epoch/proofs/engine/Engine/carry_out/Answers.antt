use Rattle.std.proofs.Common.{ℕ, sym, subst}
use Rattle.cdc_epoch.specs.Ties.{IsHeld, DoesAct}
use Rattle.cdc_epoch.proofs.Applies.{in_serial, is_first}
use Rattle.cdc_epoch.proofs.engine.Engine.carry_out.Goals as goal

pub act_on_serial-requires : goal.act_on_serial-requires
act_on_serial-requires g c =
    let h = c.requires.held in
    let first = is_first g.F.Fabric c.args.self.now h.0 h.2 c.args.p c.args.i h.1 h.3 c.in_default.not-Doall in
    record {
      proc = c.requires.proc;
      serial = in_serial g.F.Fabric c.args.self.now h.0 h.2 c.args.p c.args.i h.1 h.3 c.in_default.not-Doall;
      held = (h.0, h.1, h.2, subst (λ (j : ℕ). IsHeld h.0 c.args.p j h.1) first h.3);
    }

pub returns-in_default : goal.returns-in_default
returns-in_default g c = λ m at can held.
    let first = is_first g.F.Fabric c.args.self.now m can c.args.p c.args.i at held c.in_default.not-Doall in
    subst (λ (j : ℕ). DoesAct g.F.Fabric c.args.p j at m c.args.self.now c.act_on_serial.result c.act_on_serial.new.self) (sym first)
    (c.act_on_serial.ensures m at can (subst (λ (j : ℕ). IsHeld m c.args.p j at) first held))
