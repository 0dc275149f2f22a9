use Rattle.std.proofs.Common.{arith, ap, pos}
use Rattle.std.proofs.lemmas.Grind.{common_steps}
use Rattle.cdc_token.proofs.Values.{wide_number, fitting_number, number_value}
use Rattle.cdc_token.proofs.meaning.number_meaning.Goals as goal

pub returns-in-None-clause-wrong : goal.returns-in-None-clause-wrong
returns-in-None-clause-wrong c = wide_number _ _ c.requires c.in-None.ensures

pub returns-in-Some-clause-ok : goal.returns-in-Some-clause-ok
returns-in-Some-clause-ok c =
    let same = ap pos (number_value _ c.requires) in
    let value = c.in-Some.ensures in
    (grind (arith, common_steps, value, same), fitting_number _ c.requires value.1)
