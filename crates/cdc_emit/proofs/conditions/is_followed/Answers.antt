use Rattle.std.proofs.Common.{◌+◌, arith}
use Rattle.cdc_emit.proofs.Coded.{coded_arms}
use Rattle.cdc_emit.proofs.conditions.is_followed.Goals as goal

pub returns-then-number-arms : goal.returns-then-number-arms
returns-then-number-arms c = λ other _. coded_arms c.args.arms.now (c.args.number + 1) other (omega arith)
