use Rattle.cdc_prog.specs.Translation.{program_of}
use Rattle.cdc_compile.proofs.Sound.{emitted_sound}
use Rattle.cdc_compile.proofs.compiled.compile.Goals as goal

pub returns-clause-sound : goal.returns-clause-sound
returns-clause-sound c = emitted_sound c.args.source.now (program_of c.in_ok-program.program) c.in_ok-marks.marks c.in_ok-code.code c.in_ok-program.ensures.answer c.in_ok-code.ensures
