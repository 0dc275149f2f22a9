use Rattle.cdc_input.proofs.Values.{text_of_value}
use Rattle.cdc_input.proofs.line.value_of.Goals as goal

pub returns-in_default : goal.returns-in_default
returns-in_default c = λ is. c.in_default.ensures.cases.0 (text_of_value c.args.run.now is)
