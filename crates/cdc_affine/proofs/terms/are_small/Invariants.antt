use Rattle.std.proofs.Common.{◌≡◌, drop}
use Rattle.cdc_prog.specs.Affine.{are_small}
use Rattle.cdc_affine.proofs.terms.are_small.Given as goal

abbrev pub invariant-loop-t : goal.invariant-loop-t
invariant-loop-t l = are_small (drop l.t-index l.terms) ≡ are_small l.terms
