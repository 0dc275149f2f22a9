use Rattle.std.proofs.Common.{◌≡◌, ◌*◌, ◌≤◌, drop}
use Rattle.cdc_check.specs.Objects.{capped}
use Rattle.cdc_prog.specs.Data.{size_of}
use Rattle.cdc_check.proofs.layout.size.Given as goal

abbrev pub invariant-loop-d : goal.invariant-loop-d
invariant-loop-d l = (capped (l.n * size_of (drop l.d-index l.dims)) ≡ capped (size_of l.dims)) × (l.n ≤ 4194305)
