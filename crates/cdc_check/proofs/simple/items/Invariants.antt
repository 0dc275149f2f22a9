use Rattle.std.proofs.Common.{◌≡◌, ◌++◌, drop, map}
use Rattle.cdc_tree.specs.Forms as forms
use Rattle.cdc_prog.specs.Translation.{item_of}
use Rattle.cdc_check.specs.Threads.{on}
use Rattle.cdc_check.specs.Statements.{items}
use Rattle.cdc_check.proofs.simple.items.Given as goal

abbrev pub invariant-loop-s : goal.invariant-loop-s
invariant-loop-s l = on (items l.names (map forms.shown (drop l.s-index l.shown)) l.state) (λ rest k. (map item_of l.found ++ rest, k)) ≡ items l.names (map forms.shown l.shown) l.initial.state
