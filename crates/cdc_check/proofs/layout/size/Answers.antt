use Rattle.cdc_check.proofs.Laid.{size_step, size_end}
use Rattle.cdc_check.proofs.layout.size.Goals as goal

pub loop-d-preserved : goal.loop-d-preserved
loop-d-preserved c = size_step c.args.dims.now c.loop-d.d-index c.loop-d.n c.times-n.result _ _ c.loop-d-test.true c.times-n.ensures c.loop-d.invariant.0

pub returns : goal.returns
returns c = size_end c.args.dims.now c.loop-d.d-index c.loop-d.n _ c.loop-d-test.false c.loop-d.invariant.0 c.loop-d.invariant.1
