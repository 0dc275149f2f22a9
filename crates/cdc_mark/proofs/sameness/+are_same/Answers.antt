use Rattle.std.proofs.Common.{arith}
use Rattle.cdc_mark.proofs.Covering.{more_than_none}
use Rattle.cdc_mark.proofs.sameness.+are_same.Goals as goal

pub returns-in-len1-up-xs : goal.returns-in-len1-up-xs
returns-in-len1-up-xs t c = λ p. (λ e. cc, λ s. absurd (more_than_none c.args.xs.now c.args.ys.now (omega arith) (omega arith) s))
