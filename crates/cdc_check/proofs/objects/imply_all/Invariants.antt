use Rattle.std.proofs.Common.{◌≡◌, drop}
use Rattle.cdc_check.specs.Objects.{naming, implied_from}
use Rattle.cdc_check.proofs.objects.imply_all.Given as goal

abbrev pub invariant-loop-u : goal.invariant-loop-u
invariant-loop-u l = implied_from l.unit (naming l.names l.objects) (drop l.u-index l.uses) ≡ implied_from l.unit (naming l.initial.names l.initial.objects) l.uses
