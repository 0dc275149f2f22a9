use Rattle.std.proofs.Common.{◌≡◌, rules}
use Rattle.std.specs.Prelude.{pos}
use Rattle.cdc_prog.specs.declared.expr.Expr.{Number, the_lemmas}
use Rattle.cdc_prog.specs.Plain as plain
use Rattle.cdc_prog.specs.Translation.{expr_of}
use Rattle.cdc_check.proofs.Others.{no_condition, with_state}
use Rattle.cdc_check.proofs.constructs.condition.Goals as goal

pub returns-in_default : goal.returns-in_default
returns-in_default c =
    let one : expr_of (Number (pos 1)) ≡ plain.Number (pos 1) = search (rules, the_lemmas) in
    with_state (expr_of (Number (pos 1))) (plain.Number (pos 1)) c.args.sites.now _ one (no_condition c.args.head.now c.args.names.now c.args.sites.now c.in_default.not-IfThen c.in_default.not-ElseIf)
