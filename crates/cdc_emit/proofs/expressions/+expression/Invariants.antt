use Rattle.std.proofs.Common.{◌≡◌, ◌++◌, drop}
use Rattle.cdc_prog.specs.Translation.{exprs_of}
use Rattle.cdc_code.specs.Template.{exprs_code}
use Rattle.cdc_emit.proofs.expressions.+expression.Given as goal

abbrev pub invariant-emit_subscripts-loop-sub : goal.invariant-emit_subscripts-loop-sub
invariant-emit_subscripts-loop-sub l =
    l.steps ++ exprs_code l.marks l.line (exprs_of (drop l.sub-index l.subs)) ≡ l.initial.steps ++ exprs_code l.marks l.line (exprs_of l.subs)
