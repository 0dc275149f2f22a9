use Rattle.std.proofs.Common.{◌≡◌, ◌++◌, drop, map}
use Rattle.cdc_prog.specs.Translation.{stmts_of, arms_of}
use Rattle.cdc_path.specs.References.{refs}
use Rattle.cdc_mark.specs.Seen.{unbound, seen}
use Rattle.cdc_mark.proofs.references.+stmt.Given as goal

abbrev pub invariant-stmts_references-loop-s : goal.invariant-stmts_references-loop-s
invariant-stmts_references-loop-s l =
    l.out.items ++ map (seen (unbound l.objects)) (refs l.scope (stmts_of (drop l.s-index l.ss))) ≡ l.initial.out.items ++ map (seen (unbound l.objects)) (refs l.scope (stmts_of l.ss))

abbrev pub invariant-stmt_references-loop-arm : goal.invariant-stmt_references-loop-arm
invariant-stmt_references-loop-arm l =
    l.out.items ++ map (seen (unbound l.objects)) (refs l.scope (arms_of (drop l.arm-index l.arm-items) (stmts_of l.other))) ≡ l.initial.out.items ++ map (seen (unbound l.objects)) (refs l.scope (arms_of l.arm-items (stmts_of l.other)))
