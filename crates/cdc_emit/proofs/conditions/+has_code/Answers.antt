use Rattle.std.proofs.Common.{◌==◌, length, List, sym, ap, ◌∙◌}
use Rattle.cdc_prog.specs.declared.stmt.Arm.{Arm}
use Rattle.cdc_prog.specs.Translation.{stmt_of}
use Rattle.cdc_emit.specs.Parts.{has_code}
use Rattle.cdc_emit.proofs.Coded.{coded_if}
use Rattle.cdc_emit.proofs.conditions.+has_code.Goals as goal

pub is_coded-returns-else-is_empty : goal.is_coded-returns-else-is_empty
is_coded-returns-else-is_empty t c =
    let some = ap (λ (l : List Arm). length l == 0) (sym c.as_slice.ensures) ∙ sym c.is_empty.ensures ∙ c.if-is_empty.false in
    coded_if c.in-If.arms c.in-If.other some ∙ ap (λ s. has_code (stmt_of s)) (sym c.in-If.is)
