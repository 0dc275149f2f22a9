use Rattle.cdc_top.proofs.Complete.{completes}
use Rattle.cdc_top.proofs.Laws.{means_the_source, no_read_hits}
use Rattle.cdc_top.proofs.tool.run_tool.Goals as goal

pub returns-clause-meaning : goal.returns-clause-meaning
returns-clause-meaning g c = means_the_source

pub returns-clause-hits : goal.returns-clause-hits
returns-clause-hits g c = no_read_hits

pub returns-clause-completeness : goal.returns-clause-completeness
returns-clause-completeness g c = rw c.deref.ensures.value at (completes _ _ _ _ _ _ _ _ _ c.answer_words.ensures)
