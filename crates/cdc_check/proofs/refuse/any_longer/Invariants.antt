use Rattle.std.proofs.Common.{◌≡◌, ◌+◌, drop, length}
use Rattle.std.specs.List.{list_any}
use Rattle.std.specs.Prelude.{nat_lt}
use Rattle.std.specs.Prelude.{List}
use Rattle.cdc_tree.specs.declared.tree.Named.{Named}
use Rattle.cdc_prog.specs.declared.program.Kind.TheVariants.{Privates}
use Rattle.cdc_prog.specs.Limits.{limit}
use Rattle.cdc_check.proofs.refuse.any_longer.Given as goal

abbrev pub invariant-loop-names : goal.invariant-loop-names
invariant-loop-names l = list_any (λ (ns : List Named). nat_lt (limit Privates + 1) (length ns)) (drop l.names-index l.lists) ≡ list_any (λ (ns : List Named). nat_lt (limit Privates + 1) (length ns)) l.lists
