use Rattle.std.proofs.Common.{◌∙◌}
use Rattle.cdc_version.proofs.Lists.{found}
use Rattle.cdc_version.proofs.version.is_written.Goals as goal

pub returns : goal.returns
returns c = c.is_ok.ensures.value ∙ found c.args.written.now c.args.object c.binary_search.result c.requires.order c.binary_search.ensures.position
