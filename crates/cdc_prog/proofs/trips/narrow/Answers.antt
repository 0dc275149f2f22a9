use Rattle.std.proofs.Common.{sym, subst, FitsSigned, w64}
use Rattle.std.proofs.lemmas.Int.{to_z-of_z}
use Rattle.cdc_prog.proofs.Indexes.{value_fits}
use Rattle.cdc_prog.proofs.trips.narrow.Goals as goal

pub overflow_cast-result : goal.overflow_cast-result
overflow_cast-result c = subst (FitsSigned w64) (sym (to_z-of_z _ c.args.value c.ranges.value)) (value_fits c.args.value c.requires)
