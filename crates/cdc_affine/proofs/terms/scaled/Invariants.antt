use Rattle.std.proofs.Common.{◌≡◌, ◌++◌, drop, true}
use Rattle.cdc_prog.specs.Affine.{are_small, scaled}
use Rattle.cdc_affine.proofs.terms.scaled.Given as goal

abbrev pub invariant-loop-t : goal.invariant-loop-t
invariant-loop-t l = (l.out ++ scaled l.k (drop l.t-index l.terms) ≡ scaled l.k l.terms) × (are_small (drop l.t-index l.terms) ≡ true)
