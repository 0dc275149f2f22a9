use Rattle.std.proofs.Common.{◌≡◌, ◌+◌, ◌-◌, ◌*◌, map}
use Rattle.cdc_tree.specs.Plain.{plain}
use Rattle.cdc_parse.specs.Reading.{read, chain, more, separated, inside}
use Rattle.cdc_parse.proofs.reading.+read.Given as goal

abbrev pub decreases-inside : goal.decreases-inside
decreases-inside l = 64 * l.depth

abbrev pub decreases-trees : goal.decreases-trees
decreases-trees l = 64 * l.depth + 1

abbrev pub decreases-arguments : goal.decreases-arguments
decreases-arguments l = 64 * l.depth + 2

abbrev pub decreases-reference : goal.decreases-reference
decreases-reference l = 64 * l.depth + 3

abbrev pub decreases-known : goal.decreases-known
decreases-known l = 64 * l.depth + 3

abbrev pub decreases-paren : goal.decreases-paren
decreases-paren l = 64 * l.depth + 3

abbrev pub decreases-factor : goal.decreases-factor
decreases-factor l = 64 * l.depth + 4

abbrev pub decreases-first : goal.decreases-first
decreases-first l = 64 * l.depth + 2 * l.rank + 6

abbrev pub decreases-read : goal.decreases-read
decreases-read l = 64 * l.depth + 2 * l.height + 5

abbrev pub invariant-trees-items : goal.invariant-trees-items
invariant-trees-items l = more (inside l.depth) (l.end - l.counter) (map plain l.trees.items) l.rest ≡ separated (inside l.depth) l.tokens

abbrev pub invariant-read-chain : goal.invariant-read-chain
invariant-read-chain l = chain (read l.depth l.rank) l.rank (l.end - l.counter) (plain l.tree) l.rest ≡ read l.depth l.height l.tokens
