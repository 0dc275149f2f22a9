use Rattle.std.proofs.Common.{ap, Some}
use Rattle.cdc_words.specs.Matched.{chosen}
use Rattle.cdc_top.specs.Answer.{built}
use Rattle.cdc_top.proofs.Ends.{usage_ended}
use Rattle.cdc_top.proofs.tool.carry_out.Goals as goal

pub returns-in-Bench : goal.returns-in-Bench
returns-in-Bench g c = usage_ended _ _ _ _ _ _ _ _ (ap (λ x. built (Some (chosen x))) c.in-Bench.is) c.say.ensures
