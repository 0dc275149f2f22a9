use Rattle.std.proofs.Common.{◌≡◌, ◌≤◌, ◌++◌, ◌+◌, ◌-◌, length, drop}
use Rattle.cdc_prog.specs.Affine.{sum_terms}
use Rattle.cdc_affine.proofs.terms.sum_terms.Given as goal

abbrev pub invariant-loop-i : goal.invariant-loop-i
invariant-loop-i l = (l.out ++ sum_terms (drop l.i l.ts) (drop l.j l.us) ≡ sum_terms l.ts l.us) × (l.i ≤ length l.ts) × (l.j ≤ length l.us)

abbrev pub decreases-loop-i : goal.decreases-loop-i
decreases-loop-i l = (length l.ts - l.i) + (length l.us - l.j)
