use Rattle.cdc_nest.proofs.Puts.{node_else}
use Rattle.cdc_nest.proofs.inside.else_node.Goals as goal

pub returns : goal.returns
returns c = node_else c.args.branches.items _ c.args.head c.args.nodes.items _ c.args.end c.of.ensures c.of-body.ensures
