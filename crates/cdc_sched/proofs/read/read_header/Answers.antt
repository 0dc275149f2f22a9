use Rattle.cdc_sched.proofs.Exact.{accepts, refuses}
use Rattle.cdc_sched.proofs.read.read_header.Goals as goal

pub returns-clause-accepts : goal.returns-clause-accepts
returns-clause-accepts c = accepts c.read_lines.result c.read_lines.ensures.refused

pub returns-clause-refuses : goal.returns-clause-refuses
returns-clause-refuses c = refuses (λ r. r.0) (λ r. r.1) c.read_lines.result c.read_lines.ensures.header c.read_lines.ensures.refused
