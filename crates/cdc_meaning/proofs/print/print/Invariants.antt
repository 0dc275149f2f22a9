use Rattle.std.proofs.Common.{map, drop}
use Rattle.std.specs.Prelude.{true}
use Rattle.cdc_prog.specs.Input.{Input}
use Rattle.cdc_prog.specs.Process.{Process}
use Rattle.cdc_prog.specs.Statements.{items}
use Rattle.cdc_prog.specs.Translation.{item_of}
use Rattle.cdc_meaning.specs.Frames.{binding}
use Rattle.cdc_prog.specs.Held.{around}
use Rattle.cdc_meaning.specs.Carried.{output_of, Follows, state}
use Rattle.cdc_meaning.proofs.print.print.Given as goal

abbrev pub invariant-loop-item : goal.invariant-loop-item
invariant-loop-item g l =
    (left : Input) (rest : Process) → Follows l.frame.program.now.texts
    (items (binding l.frame) l.line true (map item_of l.shown) (around l.slots left) rest) (state l.words l.slots left (output_of (g.K.Sink.taken l.initial.out) l.initial.page (g.K.Sink.faults l.initial.out)))
    (items (binding l.frame) l.line l.first (map item_of (drop l.item-index l.shown)) (around l.slots left) rest) (state l.words l.slots left (output_of (g.K.Sink.taken l.out) l.page (g.K.Sink.faults l.out)))
