use Rattle.std.proofs.Common.{◌≡◌, length}
use Rattle.cdc_task.specs.contracts.words.WordsPort.TheImpl.{ghosts}
use Rattle.cdc_task.specs.Course.{remaining}
use Rattle.cdc_task.specs.Memory.{memory_of}
use Rattle.cdc_prog.specs.Output.{output_of}
use Rattle.cdc_task.specs.Running.{inside, EndsWithin}
use Rattle.cdc_task.proofs.Cells.{plain}
use Rattle.cdc_task.proofs.Turns.{Midst}
use Rattle.cdc_task.proofs.run.run_turn.Given as goal

abbrev pub invariant-loop-piece : goal.invariant-loop-piece
invariant-loop-piece g l =
    let code = l.whole.code.now in
    let records = l.whole.records.now.records in
    let x = output_of (g.K.Sink.taken l.fn.out) l.fn.shared.gathered (g.K.Sink.faults l.fn.out) in
    let y = output_of (g.K.Sink.taken l.out) l.shared.gathered (g.K.Sink.faults l.out) in
    record {
      words : length l.shared.words.cells.items ≡ length l.fn.shared.words.cells.items;
      midst : Midst code records ghosts memory_of plain l.serial l.fn.fork l.k (memory_of l.fn.shared.words) x l.lane (memory_of l.shared.words) y;
      ends : EndsWithin code l.whole.ends.0 (inside records l.serial l.fn.fork l.k l.lane, memory_of l.shared.words);
    }

abbrev pub decreases-loop-piece : goal.decreases-loop-piece
decreases-loop-piece g l = remaining l.whole.code.now l.whole.ends.0 (inside l.whole.records.now.records l.serial l.fn.fork l.k l.lane, memory_of l.shared.words)
