use Rattle.cdc_top.proofs.Begun.{begun_if}
use Rattle.cdc_top.proofs.play.prepare.Goals as goal

pub returns : goal.returns
returns c =
    begun_if c.args.loaded.code c.requires c.args.loaded.records c.args.procs c.in_ok-memory.memory c.in_ok-memory.ensures.procs c.in_ok-memory.ensures.words c.in_ok-memory.ensures.counts c.around.result
    c.around.ensures.code c.around.ensures.records c.around.ensures.side c.around.ensures.stands
