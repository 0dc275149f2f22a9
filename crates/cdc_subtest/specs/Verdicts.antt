-- The answer of the test.
use Rattle.std.specs.Prelude.{Option, Some, None}
use Rattle.cdc_base.specs.declared.place.Place.{Place}
use Rattle.cdc_prog.specs.Dependence.{Spot}
use Rattle.cdc_subtest.specs.declared.verdict.Verdict.{Verdict}
use Rattle.cdc_subtest.specs.declared.verdict.Verdict.TheVariants.{Apart, Conflict}

abbrev pub places : Option (Spot × Spot) → Option (Place × Place)
places None = None
places (Some pair) = Some (pair.0.at.place, pair.1.at.place)

abbrev pub verdict_with : Option (Place × Place) → Verdict
verdict_with None = Apart
verdict_with (Some pair) = Conflict pair.0 pair.1

-- the places of a failing pair, or none
abbrev pub verdict_of : Option (Spot × Spot) → Verdict
verdict_of o = verdict_with (places o)
