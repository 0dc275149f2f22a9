use Rattle.cdc_text.proofs.Gathers.{gathered_piece}
use Rattle.cdc_text.proofs.gather.gather_words.Goals as goal

pub returns : goal.returns
returns g c = gathered_piece c.args.words.now c.put.result _ _ _ _ _ _ c.put.ensures.ok c.put.ensures.failed c.put.ensures.cause
