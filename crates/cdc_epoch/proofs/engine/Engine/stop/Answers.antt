use Rattle.std.proofs.Common.{refl}
use Rattle.cdc_epoch.proofs.Opening.{stops}
use Rattle.cdc_epoch.proofs.engine.Engine.stop.Goals as goal

pub returns : goal.returns
returns g c = λ m can ended. stops g.F.Fabric c.args.self.now m can ended c.requires.epoch.0 c.requires.epoch.1 c.args.least _ c.requires.fault (record { code = refl; records = refl; memory = refl; parts = refl })
