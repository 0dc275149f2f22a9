use Rattle.std.proofs.Common.{refl, inr}
use Rattle.cdc_prog.specs.Translation.{program_of}
use Rattle.cdc_report.specs.Accepted.{accepted_text}
use Rattle.cdc_top.specs.Report.{answer}
use Rattle.cdc_top.proofs.check.check_source.Goals as goal

pub returns-in-Ok : goal.returns-in-Ok
returns-in-Ok g c =
    let p = program_of c.in-Ok.program in inr (answer (accepted_text p) 0, inr (p, c.in-Ok.ensures.answer, refl), c.say_accepted.ensures)
