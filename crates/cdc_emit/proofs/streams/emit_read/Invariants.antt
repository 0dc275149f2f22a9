use Rattle.std.proofs.Common.{◌≡◌, ◌++◌, drop, map}
use Rattle.cdc_prog.specs.Translation.{target_of}
use Rattle.cdc_code.specs.Template.{reads_code}
use Rattle.cdc_emit.proofs.streams.emit_read.Given as goal

abbrev pub invariant-loop-target : goal.invariant-loop-target
invariant-loop-target l =
    l.steps ++ reads_code l.marks l.line (map target_of (drop l.target-index l.targets)) ≡ l.initial.steps ++ reads_code l.marks l.line (map target_of l.targets)
