use Rattle.std.proofs.Common.{◌≡◌, ◌++◌, drop, map, true}
use Rattle.cdc_prog.specs.Translation.{item_of}
use Rattle.cdc_code.specs.Template.{items_code}
use Rattle.cdc_emit.proofs.streams.emit_print.Given as goal

abbrev pub invariant-loop-item : goal.invariant-loop-item
invariant-loop-item l =
    l.steps ++ items_code l.marks l.line l.is_first (map item_of (drop l.item-index l.items)) ≡ l.initial.steps ++ items_code l.marks l.line true (map item_of l.items)
