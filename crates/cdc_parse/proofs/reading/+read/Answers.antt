use Rattle.std.proofs.Common.{rules, ◌-◌, length, arith, map}
use Rattle.cdc_tree.specs.Plain.{plain}
use Rattle.cdc_parse.specs.Reading.{read, inside, separated}
use Rattle.cdc_parse.proofs.Loops.{chain_starts, chain_goes_on, more_step, more_goes_on, more_over, map_put}
use Rattle.cdc_parse.proofs.reading.+read.Goals as goal

pub read-chain-init : goal.read-chain-init
read-chain-init t c = chain_starts c.args.depth c.args.height (c.args.height - 1) c.args.tokens.now (plain c.in_ok-tree.tree, c.in_ok-tree.rest.now) _ (omega (arith, c.if-height-eq0.false)) (omega arith) c.in_ok-tree.ensures

pub read-chain-preserved : goal.read-chain-preserved
read-chain-preserved t c =
    let next = chain_goes_on (read c.args.depth (c.args.height - 1)) (c.args.height - 1) c.chain.counter (length c.in_ok-tree.rest.now) c.in-Some.op (plain c.chain.tree) (plain c.in_ok-right-in-Some.right) c.chain.rest.now c.in-Some.next.now c.in_ok-right-in-Some.next.now (read c.args.depth c.args.height c.args.tokens.now) (omega (arith, c.chain-test.true)) c.in-Some.ensures c.in_ok-right-in-Some.ensures c.chain.invariant in
    search (rules, next)

pub trees-returns-in_err-tree-in-Some : goal.trees-returns-in_err-tree-in-Some
trees-returns-in_err-tree-in-Some t c =
    let next = more_step (inside c.args.depth) c.items.counter (length c.in_ok-tree.rest.now) (map plain c.items.trees.items) c.items.rest.now c.in-Some.next.now (separated (inside c.args.depth) c.args.tokens.now) (omega (arith, c.items-test.true)) c.in-Some.ensures c.items.invariant in
    search (rules, next)

pub trees-returns-in-None : goal.trees-returns-in-None
trees-returns-in-None t c = more_over (inside c.args.depth) _ (map plain c.items.trees.items) c.items.rest.now _ c.in-None.ensures c.items.invariant

pub trees-items-preserved : goal.trees-items-preserved
trees-items-preserved t c =
    more_goes_on (inside c.args.depth) c.items.counter (length c.in_ok-tree.rest.now) (map plain c.items.trees.items) _ (plain c.in_ok-tree-in-Some.tree) c.items.rest.now c.in-Some.next.now c.in_ok-tree-in-Some.next.now _ (omega (arith, c.items-test.true)) c.in-Some.ensures c.in_ok-tree-in-Some.ensures (map_put plain c.items.trees.items _ c.in_ok-tree-in-Some.tree c.in_ok-push-in-Some.ensures.items) c.items.invariant
