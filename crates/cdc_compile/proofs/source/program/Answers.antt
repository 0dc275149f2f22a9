use Rattle.std.proofs.Common.{sym, ◌∙◌}
use Rattle.cdc_prog.specs.Translation.{program_of}
use Rattle.cdc_compile.proofs.Conflicting.{no_conflict_apart}
use Rattle.cdc_compile.proofs.RoomLaws.{has_room, program_calls_numbered}
use Rattle.cdc_compile.proofs.source.program.Goals as goal

pub returns-in-None-clause-apart : goal.returns-in-None-clause-apart
returns-in-None-clause-apart c =
    let known = c.in_ok-program.ensures in
    no_conflict_apart (program_of c.in_ok-program.program) known.premises known.doalls (sym c.in_ok-first_conflict.ensures ∙ c.in-None.is)

pub returns-in-None-clause-room : goal.returns-in-None-clause-room
returns-in-None-clause-room c = has_room c.args.source.now (program_of c.in_ok-program.program) c.in_ok-program.ensures.checked

pub returns-in-None-clause-numbered : goal.returns-in-None-clause-numbered
returns-in-None-clause-numbered c = program_calls_numbered c.in_ok-program.program
