use Rattle.std.proofs.Common.{◌≡◌, OnOk, subst, rules}
use Rattle.cdc_flow.specs.Built.{built}
use Rattle.cdc_flow.proofs.Stores.{stores_element}
use Rattle.cdc_flow.proofs.expressions.add_store.Goals as goal

pub returns-in-len1-up : goal.returns-in-len1-up
returns-in-len1-up c =
    subst (λ x. OnOk c.point.result (c.point.new.self ≡ built x c.args.g.now)) (stores_element c.args.target.now.at c.args.target.now.subs (search rules)) c.point.ensures
