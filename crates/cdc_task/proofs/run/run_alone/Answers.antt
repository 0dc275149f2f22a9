use Rattle.std.proofs.Common.{refl}
use Rattle.cdc_prog.specs.Meaning.{meaning}
use Rattle.cdc_task.proofs.run.run_alone.Goals as goal

pub returns-in-Err-clause-run : goal.returns-in-Err-clause-run
returns-in-Err-clause-run g c =
    let records = c.args.records.now.records in
    (meaning c.requires.sound.program records, c.requires.sound.runs records, refl)
