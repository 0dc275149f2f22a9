use Rattle.cdc_mark.proofs.search.settle.Goals as goal

pub loop-preserved : goal.loop-preserved
loop-preserved c = λ sources f. c.sweep.ensures.fair sources (c.loop.invariant sources f)

pub returns-clause-fair : goal.returns-clause-fair
returns-clause-fair c = λ sources f. c.sweep.ensures.fair sources (c.loop.invariant sources f)
