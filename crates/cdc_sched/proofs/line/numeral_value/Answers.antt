use Rattle.std.proofs.Common.{◌∙◌, subst}
use Rattle.std.specs.Str.Parse.{ParsesUnsigned}
use Rattle.cdc_sched.proofs.Numbers.{text_of_numeral, parsed}
use Rattle.cdc_sched.proofs.line.numeral_value.Goals as goal

pub returns-in_default : goal.returns-in_default
returns-in_default c = absurd (c.in_default.ensures.cases.0 (text_of_numeral c.args.digits.now c.requires))

pub returns : goal.returns
returns c =
    c.ok.ensures.value ∙ parsed c.args.digits.now c.parse.result c.requires (subst (λ w. ParsesUnsigned 64 10 w c.parse.result) c.in-Ok.ensures.cases.0 c.parse.ensures.value.0)
