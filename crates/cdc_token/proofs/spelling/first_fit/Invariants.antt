use Rattle.std.proofs.Common.{◌≡◌, length, map}
use Rattle.cdc_token.specs.Cutting.{first_fit}
use Rattle.cdc_token.proofs.spelling.first_fit.Given as goal

abbrev pub invariant-loop-table : goal.invariant-loop-table
invariant-loop-table l = first_fit (map (λ s. (s.0.now, s.1)) l.table) l.z ≡ first_fit (map (λ s. (s.0.now, s.1)) l.initial.table) l.z

abbrev pub decreases-loop-table : goal.decreases-loop-table
decreases-loop-table l = length l.table
