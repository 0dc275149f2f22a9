use Rattle.std.proofs.Common.{◌≡◌, ◌++◌, drop, map}
use Rattle.cdc_names.specs.Declarations.{Declares, plain_declaration}
use Rattle.cdc_names.proofs.name_lists.declared.Given as goal

abbrev pub invariant-loop-d : goal.invariant-loop-d
invariant-loop-d l = l.names ++ map (λ (d : Declares). d.named) (map plain_declaration (drop l.d-index l.ds)) ≡ map (λ (d : Declares). d.named) (map plain_declaration l.ds)
