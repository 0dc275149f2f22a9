use Rattle.std.proofs.Common.{sym, ◌∙◌, refl}
use Rattle.cdc_sched.proofs.Powers.{geometry_is, no_geometry}
use Rattle.cdc_sched.proofs.fit.geometry.Goals as goal

pub returns-then-is_geometry-clause-shape : goal.returns-then-is_geometry-clause-shape
returns-then-is_geometry-clause-shape c = (geometry_is c.args.cache (sym c.is_geometry.ensures ∙ c.if-is_geometry.true), refl)

pub returns-else-is_geometry : goal.returns-else-is_geometry
returns-else-is_geometry c = record {
  shape = no_geometry c.args.cache (sym c.is_geometry.ensures ∙ c.if-is_geometry.false);
  words = tt;
  sets = tt;
  ways = tt;
}
