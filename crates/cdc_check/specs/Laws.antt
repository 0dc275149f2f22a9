-- What holds of the answer for units.
use Rattle.std.specs.Prelude.{◌≡◌, List, map}
use Rattle.cdc_tree.specs.declared.unit.UnitText.{UnitText}
use Rattle.cdc_tree.specs.Units.{unit}
use Rattle.cdc_check.specs.Check.{checked}

-- units that are the same without pointers have the same answer
abbrev pub DependsOnPlainUnits : Type 0
DependsOnPlainUnits = (us vs : List UnitText) → map unit us ≡ map unit vs → checked (map unit us) ≡ checked (map unit vs)
