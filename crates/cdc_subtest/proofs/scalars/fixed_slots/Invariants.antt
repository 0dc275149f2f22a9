use Rattle.std.proofs.Common.{◌≡◌, ◌++◌, ◌-◌}
use Rattle.cdc_prog.specs.Dependence.{private_from}
use Rattle.cdc_subtest.proofs.scalars.fixed_slots.Given as goal

abbrev pub invariant-loop-k : goal.invariant-loop-k
invariant-loop-k l = l.out ++ private_from l.stored l.k (l.slots - l.k) ≡ l.initial.out ++ private_from l.stored 1 (l.slots - 1)
