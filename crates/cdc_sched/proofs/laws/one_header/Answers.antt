use Rattle.cdc_sched.proofs.Same.{one_header, one_refusal}
use Rattle.cdc_sched.proofs.laws.one_header.Goals as goal

pub returns-clause-header : goal.returns-clause-header
returns-clause-header c = one_header

pub returns-clause-refusal : goal.returns-clause-refusal
returns-clause-refusal c = one_refusal
