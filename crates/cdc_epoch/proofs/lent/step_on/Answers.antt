use Rattle.std.proofs.Common.{rules}
use Rattle.cdc_code.specs.Rows.{act}
use Rattle.cdc_task.specs.Held.{frame_of}
use Rattle.cdc_epoch.proofs.Ports.{step_stays}
use Rattle.cdc_epoch.proofs.lent.step_on.Goals as goal

pub returns-clause-stays : goal.returns-clause-stays
returns-clause-stays g c =
    let records = c.args.records.now.records in
    step_stays g.F.Fabric c.args.p records (act c.args.code.now (frame_of c.requires.goes.0 records c.args.task.now)) c.args.side.now c.step.result c.step.new.self _ (search (rules, c.step.ensures.step c.requires.goes.0))
