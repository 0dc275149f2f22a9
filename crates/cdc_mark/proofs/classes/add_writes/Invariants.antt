use Rattle.std.proofs.Common.{◌≡◌, ◌↔◌, ◌⊎◌, ℕ, length, drop}
use Rattle.cdc_mark.specs.Least.{IsIn}
use Rattle.cdc_mark.specs.Classes.{IsWriteFor}
use Rattle.cdc_mark.proofs.classes.add_writes.Given as goal

abbrev pub invariant-loop-q : goal.invariant-loop-q
invariant-loop-q l = record {
  count : length l.bits ≡ length l.initial.bits;
  bits : (w : ℕ) → (IsIn l.bits w ⊎ IsWriteFor (drop l.q-index l.refs) l.p w) ↔ (IsIn l.initial.bits w ⊎ IsWriteFor l.refs l.p w);
}
