use Rattle.cdc_sched.proofs.Given.{given}
use Rattle.cdc_sched.proofs.listed.Listed.give.Goals as goal

pub returns-clause-told : goal.returns-clause-told
returns-clause-told c = given _ _ _ _ c.requires
