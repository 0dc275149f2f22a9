use Rattle.std.proofs.Common.{arith}
use Rattle.cdc_sched.proofs.Given.{passed}
use Rattle.cdc_sched.proofs.listed.Listed.pass_pending.Goals as goal

pub returns-clause-told : goal.returns-clause-told
returns-clause-told c = passed _ c.args.self.now.pending.count _ _ _ (omega (arith, c.min-count.ensures))
