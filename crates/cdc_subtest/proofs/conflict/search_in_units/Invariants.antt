use Rattle.std.proofs.Common.{◌≡◌, drop, map}
use Rattle.cdc_prog.specs.Translation.{unit_of}
use Rattle.cdc_subtest.specs.Searches.{searched_units}
use Rattle.cdc_subtest.proofs.conflict.search_in_units.Given as goal

abbrev pub invariant-loop-u : goal.invariant-loop-u
invariant-loop-u l = searched_units l.objects (map unit_of (drop l.u-index l.units)) l.found ≡ searched_units l.objects (map unit_of l.units) l.fn.search
