use Rattle.std.proofs.Common.{◌≡◌, [], drop, map}
use Rattle.cdc_prog.specs.Translation.{target_of}
use Rattle.cdc_path.specs.Courses.{reads_course}
use Rattle.cdc_flow.specs.Built.{built}
use Rattle.cdc_flow.proofs.expressions.add_targets.Given as goal

abbrev pub invariant-loop-target : goal.invariant-loop-target
invariant-loop-target l = built (reads_course [] (map target_of (drop l.target-index l.targets))) l.g ≡ built (reads_course [] (map target_of l.targets)) l.initial.g
