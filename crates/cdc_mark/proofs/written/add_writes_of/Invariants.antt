use Rattle.std.proofs.Common.{◌≡◌, ◌↔◌, ◌⊎◌, ℕ, length, drop}
use Rattle.cdc_mark.specs.Least.{IsIn}
use Rattle.cdc_mark.specs.Classes.{IsWriteOf}
use Rattle.cdc_mark.proofs.written.add_writes_of.Given as goal

abbrev pub invariant-loop-q : goal.invariant-loop-q
invariant-loop-q l = record {
  count : length l.bits ≡ length l.initial.bits;
  bits : (w : ℕ) → (IsIn l.bits w ⊎ IsWriteOf (drop l.q-index l.refs) l.object w) ↔ (IsIn l.initial.bits w ⊎ IsWriteOf l.refs l.object w);
}
