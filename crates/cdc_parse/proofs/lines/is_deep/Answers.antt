use Rattle.std.proofs.Common.{◌+◌, drop, sym, inl}
use Rattle.cdc_parse.proofs.LineLaws.{tells_step, tells_deep}
use Rattle.cdc_parse.proofs.lines.is_deep.Goals as goal

pub returns-then-count-gt-MOST_OPEN-clause-deep : goal.returns-then-count-gt-MOST_OPEN-clause-deep
returns-then-count-gt-MOST_OPEN-clause-deep c _ =
    inl (tells_deep (drop (c.loop-lexed.lexed-index + 1) c.args.tokens.now) c.args.tokens.now c.opened-count.result c.if-count-gt-MOST_OPEN.true
    (tells_step c.args.tokens.now c.loop-lexed.lexed-index c.lexed-item.result c.lexed-item.result c.loop-lexed.count c.opened-count.result c.loop-lexed-test.true (sym c.lexed-item.is) c.opened-count.ensures c.loop-lexed.invariant.0 c.loop-lexed.invariant.1))
