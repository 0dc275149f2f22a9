use Rattle.std.proofs.Common.{subst, refl, inr}
use Rattle.cdc_code.specs.declared.code.Code.{Code}
use Rattle.cdc_compile.proofs.Coded.{sound_is_code}
use Rattle.cdc_prog.specs.Translation.{program_of}
use Rattle.cdc_report.specs.Listing.{code_text}
use Rattle.cdc_top.specs.Answer.{Said, listing}
use Rattle.cdc_top.specs.Report.{answer}
use Rattle.cdc_top.proofs.source.list_source.Goals as goal

pub returns-in-Ok : goal.returns-in-Ok
returns-in-Ok g c =
    let p = program_of c.in-Ok.compiled.program in
    let marks = c.in-Ok.compiled.marks in
    let is = sound_is_code p marks c.in-Ok.compiled.code c.in-Ok.ensures.sound in
    let said = subst
    (λ (code : Code). Said (answer (code_text p code) 0) c.say_code.result (g.K.Sink.taken c.args.out.now) (g.K.Sink.taken c.say_code.new.out) (g.K.Sink.faults c.args.out.now) (g.K.Sink.faults c.say_code.new.out))
    is c.say_code.ensures in
    inr (answer (listing p marks) 0, inr (p, marks, record { accepted = c.in-Ok.ensures.answer; marks_are = c.in-Ok.ensures.marks }, refl), said)
