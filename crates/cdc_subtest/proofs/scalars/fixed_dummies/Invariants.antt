use Rattle.std.proofs.Common.{◌≡◌, ◌++◌, drop}
use Rattle.cdc_prog.specs.declared.expr.Var.TheVariants as var
use Rattle.cdc_prog.specs.Dependence.{fixed_from, shapes_of}
use Rattle.cdc_subtest.proofs.scalars.fixed_dummies.Given as goal

abbrev pub invariant-loop-d : goal.invariant-loop-d
invariant-loop-d l =
    l.out ++ fixed_from l.stored var.Dummy l.k (shapes_of (drop l.d-index l.dummies)) ≡ l.initial.out ++ fixed_from l.stored var.Dummy 0 (shapes_of l.dummies)
