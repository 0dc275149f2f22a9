use Rattle.std.proofs.Common.{◌≡◌, ◌-◌, map, length}
use Rattle.cdc_parse.specs.Reading as r
use Rattle.cdc_parse.proofs.commas.more.Given as goal

abbrev pub invariant-items : goal.invariant-items
invariant-items g l =
    let get = g.T.Item.item_at in
    r.more get (l.end - l.counter) (map g.T.Item.seen l.items.items) l.rest ≡ r.more get (length l.tokens) (map g.T.Item.seen l.fn.before.items) l.tokens
