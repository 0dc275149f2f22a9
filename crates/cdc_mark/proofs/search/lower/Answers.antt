use Rattle.cdc_mark.proofs.Searched.{lowers_edge}
use Rattle.cdc_mark.proofs.search.lower.Goals as goal

pub returns-then-lowered-clause-fair : goal.returns-then-lowered-clause-fair
returns-then-lowered-clause-fair c = λ sources f.
    lowers_edge c.args.graph.now _ c.args.dist.now c.as_slice-edges.result.now c.as_slice-points.result.now c.args.at c.past-distance.result _ _ c.as_slice-edges.ensures c.as_slice-points.ensures c.requires.graph c.requires.count c.requires.at c.past-distance.ensures c.if-lowered.true f
