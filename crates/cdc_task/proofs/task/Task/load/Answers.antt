use Rattle.std.proofs.Common.{pos, arith}
use Rattle.cdc_task.proofs.task.Task.load.Goals as goal

pub push-requires : goal.push-requires
push-requires g c = omega (arith, (c.requires.fit.3.1.1 (pos 0)).stack)
