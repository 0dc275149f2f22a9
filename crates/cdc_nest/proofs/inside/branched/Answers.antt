use Rattle.cdc_nest.proofs.Puts.{made_put}
use Rattle.cdc_nest.proofs.inside.branched.Goals as goal

pub returns : goal.returns
returns c = made_put c.args.branches.items c.push.new.self.items c.args.head c.args.nodes.items c.of-body.result c.in_ok-push.ensures.items c.of-body.ensures
