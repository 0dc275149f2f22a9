use Rattle.std.proofs.Common.{ap, ◌∙◌}
use Rattle.cdc_prog.specs.Translation.{program_of}
use Rattle.cdc_path.proofs.OneMarks.{lists_increase}
use Rattle.cdc_compile.proofs.Coded.{sound_is_code}
use Rattle.cdc_compile.proofs.Sound.{accepted_is_sound}
use Rattle.cdc_replay.proofs.Ready.{can_replay}
use Rattle.cdc_replay_tests.proofs.runs.run_on.Goals as goal

pub replay-requires-clause-can : goal.replay-requires-clause-can
replay-requires-clause-can g c =
    let compiled = c.in-Ok.compiled in
    let p = program_of compiled.program in
    let accepted = accepted_is_sound c.as_bytes.result.now p c.in-Ok.ensures.answer in
    let lists = lists_increase p compiled.marks c.in-Ok.ensures.marks in
    let engine = c.in_ok-engine.engine in
    let side_is = c.in_ok-engine.ensures.side in
    can_replay p compiled.marks (accepted.sound compiled.marks).sound accepted.bare lists.0 lists.1 g.F.Fabric engine
    (c.in_ok-engine.ensures.code ∙ sound_is_code p compiled.marks compiled.code c.in-Ok.ensures.sound)
    (ap g.F.Fabric.plain side_is ∙ c.requires.plain) (ap g.F.Fabric.made side_is ∙ c.requires.made)
