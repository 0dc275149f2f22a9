use Rattle.std.proofs.Common.{◌≡◌, ◌++◌, drop}
use Rattle.cdc_prog.specs.Translation.{stmts_of, arms_of}
use Rattle.cdc_prog.specs.Dependence.{stored_scalars}
use Rattle.cdc_subtest.proofs.scalars.+stored.Given as goal

abbrev pub invariant-stored_in_all-loop-s : goal.invariant-stored_in_all-loop-s
invariant-stored_in_all-loop-s l = l.out ++ stored_scalars (stmts_of (drop l.s-index l.ss)) ≡ l.initial.out ++ stored_scalars (stmts_of l.ss)

abbrev pub invariant-stored_in-loop-arm : goal.invariant-stored_in-loop-arm
invariant-stored_in-loop-arm l =
    l.out ++ stored_scalars (arms_of (drop l.arm-index l.arm-items) (stmts_of l.other)) ≡ l.initial.out ++ stored_scalars (arms_of l.arm-items (stmts_of l.other))
