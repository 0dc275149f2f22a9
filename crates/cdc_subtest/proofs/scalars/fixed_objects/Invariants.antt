use Rattle.std.proofs.Common.{◌≡◌, ◌++◌, drop}
use Rattle.cdc_prog.specs.declared.expr.Var.TheVariants as var
use Rattle.cdc_prog.specs.Dependence.{fixed_from, object_shapes}
use Rattle.cdc_subtest.proofs.scalars.fixed_objects.Given as goal

abbrev pub invariant-loop-o : goal.invariant-loop-o
invariant-loop-o l =
    l.out ++ fixed_from l.stored var.Object l.k (object_shapes (drop l.o-index l.objects)) ≡ l.initial.out ++ fixed_from l.stored var.Object 0 (object_shapes l.objects)
