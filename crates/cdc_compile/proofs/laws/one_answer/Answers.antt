use Rattle.cdc_compile.proofs.OneAnswer as one
use Rattle.cdc_compile.proofs.OneCode.{compiled_once}
use Rattle.cdc_compile.proofs.laws.one_answer.Goals as goal

pub returns-clause-answer : goal.returns-clause-answer
returns-clause-answer c = one.one_answer

pub returns-clause-compiled : goal.returns-clause-compiled
returns-clause-compiled c = compiled_once
