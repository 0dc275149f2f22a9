use Rattle.cdc_nest.proofs.Puts.{is_full}
use Rattle.cdc_nest.proofs.inside.is_empty.Goals as goal

pub returns-in-len1-up : goal.returns-in-len1-up
returns-in-len1-up c = is_full c.args.nodes.now c.in-len1-up.len_at_least
