use Rattle.std.proofs.Common.{arith}
use Rattle.cdc_meaning.proofs.InMemory.{in_memory}
use Rattle.cdc_meaning.proofs.frame.Frame.word.Goals as goal

pub overflow_add-result : goal.overflow_add-result
overflow_add-result c = omega (arith, (in_memory c.args.self.now c.args.var c.requires.placed c.requires.known).room, c.requires.placed.small)

pub returns-clause-within : goal.returns-clause-within
returns-clause-within c = omega (arith, (in_memory c.args.self.now c.args.var c.requires.placed c.requires.known).room)
