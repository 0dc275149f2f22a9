use Rattle.std.proofs.Common.{ap, sym, ◌∙◌}
use Rattle.std.specs.Option.{option_map}
use Rattle.cdc_words.specs.Matched.{chosen}
use Rattle.cdc_top.specs.Answer.{built}
use Rattle.cdc_top.proofs.Ends.{memory_ended, usage_ended}
use Rattle.cdc_top.proofs.tool.answer_words.Goals as goal

pub returns-in-Err : goal.returns-in-Err
returns-in-Err g c = memory_ended _ _ _ _ _

pub returns-in-None : goal.returns-in-None
returns-in-None g c = usage_ended _ _ _ _ _ _ _ _ (ap built (sym c.in-Ok.ensures) ∙ ap (λ o. built (option_map chosen o)) c.in-None.is) c.say.ensures
