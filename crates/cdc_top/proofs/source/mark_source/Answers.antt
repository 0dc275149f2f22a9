use Rattle.std.proofs.Common.{refl, inr}
use Rattle.cdc_prog.specs.Translation.{program_of}
use Rattle.cdc_report.specs.MarkLines.{marks_text}
use Rattle.cdc_top.specs.Report.{answer}
use Rattle.cdc_top.proofs.source.mark_source.Goals as goal

pub returns-in-Ok : goal.returns-in-Ok
returns-in-Ok g c =
    let p = program_of c.in-Ok.compiled.program in
    let marks = c.in-Ok.compiled.marks in
    inr (answer (marks_text p marks) 0, inr (p, marks, record { accepted = c.in-Ok.ensures.answer; marks_are = c.in-Ok.ensures.marks }, refl), c.say_marks.ensures)
