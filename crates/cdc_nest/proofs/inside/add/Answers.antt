use Rattle.std.proofs.Common.{ap}
use Rattle.cdc_tree.proofs.Options.{some}
use Rattle.cdc_nest.proofs.Puts.{node_put}
use Rattle.cdc_nest.proofs.inside.add.Goals as goal

pub returns : goal.returns
returns c = ap some (node_put c.args.«open».frame.value c.args.«open».nodes.items c.push.new.self.items c.args.item c.in_ok-push.ensures.items)
