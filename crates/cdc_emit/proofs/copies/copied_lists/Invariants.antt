use Rattle.std.proofs.Common.{◌≡◌, take}
use Rattle.cdc_emit.proofs.copies.copied_lists.Given as goal

abbrev pub invariant-loop-list : goal.invariant-loop-list
invariant-loop-list g l = l.copy.items ≡ take l.list-index l.lists
