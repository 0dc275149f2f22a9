use Rattle.std.proofs.Common.{◌≡◌, ◌↔◌, ◌⊎◌, ℕ, ◌<◌, length, drop}
use Rattle.cdc_mark.specs.Covered.{HasRunIn}
use Rattle.cdc_mark.specs.Least.{IsIn}
use Rattle.cdc_mark.proofs.covers.cover_units.Given as goal

abbrev pub invariant-loop-unit : goal.invariant-loop-unit
invariant-loop-unit l = record {
  count : length l.covered ≡ length l.initial.covered;
  bits : (site : ℕ) → site < length l.initial.covered → (IsIn l.covered site ⊎ HasRunIn site (drop l.unit-index l.units)) ↔ (IsIn l.initial.covered site ⊎ HasRunIn site l.units);
}
