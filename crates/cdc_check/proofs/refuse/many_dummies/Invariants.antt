use Rattle.std.proofs.Common.{◌≡◌, drop, length, map}
use Rattle.std.specs.List.{list_any}
use Rattle.std.specs.Prelude.{nat_lt}
use Rattle.cdc_tree.specs.Units.{PUnit, unit}
use Rattle.cdc_prog.specs.declared.program.Kind.TheVariants.{Dummies}
use Rattle.cdc_prog.specs.Limits.{limit}
use Rattle.cdc_names.specs.Duplicates.{dummy_names}
use Rattle.cdc_check.proofs.refuse.many_dummies.Given as goal

abbrev pub invariant-loop-u : goal.invariant-loop-u
invariant-loop-u l = list_any (λ (u : PUnit). nat_lt (limit Dummies) (length (dummy_names u.head.form))) (map unit (drop l.u-index l.units)) ≡ list_any (λ (u : PUnit). nat_lt (limit Dummies) (length (dummy_names u.head.form))) (map unit l.units)
