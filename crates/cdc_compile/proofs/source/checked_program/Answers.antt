use Rattle.std.proofs.Common.{map}
use Rattle.cdc_tree.specs.Units.{unit}
use Rattle.cdc_compile.proofs.Nested.{some_units, are_built}
use Rattle.cdc_compile.proofs.source.checked_program.Goals as goal

pub check-requires : goal.check-requires
check-requires c = record {
  built = are_built c.args.source.now (map unit c.in_ok-units.units) c.in_ok-units.ensures.units;
  some = some_units c.args.source.now c.in_ok-units.units c.in_ok-units.ensures.units;
}
