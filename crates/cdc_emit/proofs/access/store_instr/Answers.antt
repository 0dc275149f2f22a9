use Rattle.std.proofs.Common.{◌==◌, length, List, sym, ap, ◌∙◌}
use Rattle.cdc_prog.specs.declared.expr.Expr.{Expr}
use Rattle.cdc_emit.proofs.Targets.{stores_element}
use Rattle.cdc_emit.proofs.access.store_instr.Goals as goal

pub returns : goal.returns
returns c =
    stores_element c.args.target.now.at c.args.target.now.subs (ap (λ (l : List Expr). length l == 0) (sym c.as_slice.ensures) ∙ sym c.is_empty.ensures ∙ c.if-is_empty.false)
