use Rattle.cdc_parse.proofs.LineLaws.{passed_more}
use Rattle.cdc_parse.proofs.lines.any_deep.Goals as goal

pub loop-line-preserved : goal.loop-line-preserved
loop-line-preserved c =
    passed_more c.args.lines c.loop-line.rest _ _ c.args.number c.loop-line.invariant c.in-Some.ensures (c.deep_here.ensures.within c.if-deep_here.false)
