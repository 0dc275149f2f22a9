use Rattle.std.proofs.Common.{◌≡◌, drop, map}
use Rattle.cdc_names.specs.Declarations.{plain_declaration}
use Rattle.cdc_check.specs.Objects.{naming, declared_from}
use Rattle.cdc_check.proofs.objects.declare_all.Given as goal

abbrev pub invariant-loop-d : goal.invariant-loop-d
invariant-loop-d l = declared_from l.unit l.values (naming l.names l.objects) (map plain_declaration (drop l.d-index l.ds)) ≡ declared_from l.unit l.values (naming l.initial.names l.initial.objects) (map plain_declaration l.ds)
