use Rattle.std.proofs.Common.{◌≡◌, ◌++◌, drop, map}
use Rattle.cdc_prog.specs.Translation.{target_of}
use Rattle.cdc_path.specs.References.{outside, reads_refs}
use Rattle.cdc_mark.specs.Covered.{spot_of}
use Rattle.cdc_mark.proofs.covers.targets_mentions.Given as goal

abbrev pub invariant-loop-t : goal.invariant-loop-t
invariant-loop-t l = map spot_of l.run.items ++ reads_refs outside (map target_of (drop l.t-index l.targets)) ≡ map spot_of l.initial.run.items ++ reads_refs outside (map target_of l.targets)
