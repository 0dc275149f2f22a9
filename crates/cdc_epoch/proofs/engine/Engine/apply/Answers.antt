use Rattle.cdc_machine.specs.Code.{run}
use Rattle.cdc_epoch.proofs.Carries.{IsLawful, event_carries}
use Rattle.cdc_epoch.proofs.Fitting.{call_fits}
use Rattle.cdc_epoch.proofs.engine.Engine.apply.Goals as goal

pub returns-clause-carry : goal.returns-clause-carry
returns-clause-carry g c = λ events stands ready order.
    let old = c.args.self.now in
    let m = (run old.code old.records.records events).machine in
    let laws : IsLawful g.F.Fabric = record {
      load_right = g.met.F.Fabric.load_right;
      load_carries = g.met.F.Fabric.load_carries;
      store_carries = g.met.F.Fabric.store_carries;
      evict_carries = g.met.F.Fabric.evict_carries;
      boundary_carries = g.met.F.Fabric.boundary_carries;
    } in
    event_carries g.F.Fabric laws c.args.event events old c.meet.new.self c.meet.result stands (call_fits g.F.Fabric old m ready old.worded c.args.event c.requires.proc) order (c.meet.ensures m stands.ties ready)
