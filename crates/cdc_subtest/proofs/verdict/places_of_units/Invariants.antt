use Rattle.std.proofs.Common.{◌≡◌, drop, map}
use Rattle.cdc_prog.specs.Translation.{unit_of}
use Rattle.cdc_subtest.specs.Seen.{places_of_units}
use Rattle.cdc_subtest.proofs.verdict.places_of_units.Given as goal

abbrev pub invariant-loop-u : goal.invariant-loop-u
invariant-loop-u l = places_of_units l.number l.objects (map unit_of (drop l.u-index l.units)) ≡ places_of_units l.number l.objects (map unit_of l.units)
