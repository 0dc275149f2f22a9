use Rattle.std.proofs.Common.{rules, length, arith, map}
use Rattle.cdc_parse.specs.Reading.{more}
use Rattle.cdc_parse.proofs.Loops.{more_step, more_goes_on, more_over, map_put}
use Rattle.cdc_parse.proofs.commas.more.Goals as goal

pub returns-in_err-item-in-Some : goal.returns-in_err-item-in-Some
returns-in_err-item-in-Some g c =
    let next = more_step g.T.Item.item_at c.items.counter (length c.args.tokens.now) _ c.items.rest.now c.in-Some.next.now _ (omega (arith, c.items-test.true)) c.in-Some.ensures c.items.invariant in
    search (rules, next)

pub returns-in-None : goal.returns-in-None
returns-in-None g c = more_over g.T.Item.item_at _ _ c.items.rest.now _ c.in-None.ensures c.items.invariant

pub items-preserved : goal.items-preserved
items-preserved g c =
    let longer = map_put g.T.Item.seen c.items.items.items _ c.in_ok-item-in-Some.item c.in_ok-push-in-Some.ensures.items in
    more_goes_on g.T.Item.item_at c.items.counter (length c.args.tokens.now) _ _ _ c.items.rest.now c.in-Some.next.now c.in_ok-item-in-Some.next.now
    (more g.T.Item.item_at (length c.args.tokens.now) (map g.T.Item.seen c.args.before.items) c.args.tokens.now) (omega (arith, c.items-test.true)) c.in-Some.ensures c.in_ok-item-in-Some.ensures longer c.items.invariant
