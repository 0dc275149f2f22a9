use Rattle.std.proofs.Common.{◌≡◌, ◌↔◌, ◌⊎◌, ℕ, length, drop}
use Rattle.cdc_mark.specs.Least.{IsIn}
use Rattle.cdc_mark.specs.Classes.{IsReadOf}
use Rattle.cdc_mark.proofs.classes.add_reads.Given as goal

abbrev pub invariant-loop-q : goal.invariant-loop-q
invariant-loop-q l = record {
  count : length l.bits ≡ length l.initial.bits;
  bits : (r : ℕ) → (IsIn l.bits r ⊎ IsReadOf (drop l.q-index l.refs) l.p r) ↔ (IsIn l.initial.bits r ⊎ IsReadOf l.refs l.p r);
}
