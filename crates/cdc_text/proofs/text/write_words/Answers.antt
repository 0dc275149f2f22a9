use Rattle.cdc_text.proofs.Pieces.{wrote_piece}
use Rattle.cdc_text.proofs.text.write_words.Goals as goal

pub returns : goal.returns
returns g c = wrote_piece c.args.words.now c.put_all.result _ _ _ _ c.put_all.ensures.ok c.put_all.ensures.failed c.put_all.ensures.cause
