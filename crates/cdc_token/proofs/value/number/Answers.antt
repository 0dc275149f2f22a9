use Rattle.std.proofs.Common.{arith, ◌∙◌}
use Rattle.cdc_token.proofs.Values.{number_reaches}
use Rattle.cdc_token.proofs.value.number.Goals as goal

pub returns-then-value : goal.returns-then-value
returns-then-value c =
    let reaches = number_reaches _ _ _ c.from.result _ c.loop-b.invariant.0 c.loop-b-test.true (c.from.ensures ∙ c.saturating_sub.ensures) in
    omega (arith, reaches, c.if-value.true)
