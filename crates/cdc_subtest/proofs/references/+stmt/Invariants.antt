use Rattle.std.proofs.Common.{◌≡◌, ◌++◌, drop, map}
use Rattle.cdc_prog.specs.Translation.{stmts_of, arms_of}
use Rattle.cdc_prog.specs.Dependence.{spots}
use Rattle.cdc_subtest.specs.Seen.{seen, seen_of}
use Rattle.cdc_subtest.proofs.references.+stmt.Given as goal

abbrev pub invariant-stmts_references-loop-s : goal.invariant-stmts_references-loop-s
invariant-stmts_references-loop-s l =
    map seen_of l.out.items ++ map seen (spots l.scope (stmts_of (drop l.s-index l.ss))) ≡ map seen_of l.initial.out.items ++ map seen (spots l.scope (stmts_of l.ss))

abbrev pub invariant-stmt_references-loop-arm : goal.invariant-stmt_references-loop-arm
invariant-stmt_references-loop-arm l =
    map seen_of l.out.items ++ map seen (spots l.scope (arms_of (drop l.arm-index l.arm-items) (stmts_of l.other))) ≡ map seen_of l.initial.out.items ++ map seen (spots l.scope (arms_of l.arm-items (stmts_of l.other)))
