use Rattle.std.proofs.Common.{ℕ, ◌<◌}
use Rattle.cdc_mark.specs.Least.{IsIn}
use Rattle.cdc_mark.proofs.classes.any_bit.Given as goal

abbrev pub invariant-loop-bit : goal.invariant-loop-bit
invariant-loop-bit l = (w : ℕ) → w < l.bit-index → IsIn l.bits w → ⊥
