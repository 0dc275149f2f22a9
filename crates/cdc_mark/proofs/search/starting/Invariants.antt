use Rattle.std.proofs.Common.{◌≡◌, map, take}
use Rattle.cdc_mark.specs.Least.{starts}
use Rattle.cdc_mark.proofs.search.starting.Given as goal

abbrev pub invariant-loop-source : goal.invariant-loop-source
invariant-loop-source l = l.dist.items ≡ map starts (take l.source-index l.sources)
