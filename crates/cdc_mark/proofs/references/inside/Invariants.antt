use Rattle.std.proofs.Common.{◌≡◌, ◌∷◌, ◌++◌, drop}
use Rattle.cdc_mark.proofs.references.inside.Given as goal

abbrev pub invariant-loop-j : goal.invariant-loop-j
invariant-loop-j l = l.indexes ++ drop l.j-index l.j-items ≡ l.fn.i ∷ l.j-items

abbrev pub invariant-loop-v : goal.invariant-loop-v
invariant-loop-v l = l.fixed ++ drop l.v-index l.v-items ≡ l.v-items
