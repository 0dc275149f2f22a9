use Rattle.std.proofs.Common.{◌≡◌, length}
use Rattle.cdc_task.specs.Memory.{memory_of}
use Rattle.cdc_prog.specs.Output.{output_of}
use Rattle.cdc_task.proofs.Forks.{Between}
use Rattle.cdc_task.proofs.run.run_turns.Given as goal

abbrev pub invariant-loop-k : goal.invariant-loop-k
invariant-loop-k g l =
    let x = output_of (g.K.Sink.taken l.fn.out) l.fn.shared.gathered (g.K.Sink.faults l.fn.out) in
    let y = output_of (g.K.Sink.taken l.out) l.shared.gathered (g.K.Sink.faults l.out) in
    record {
      words : length l.shared.words.cells.items ≡ length l.fn.shared.words.cells.items;
      between : Between l.whole.code.now l.whole.records.now.records l.serial l.fn.fork l.whole.ends.0 (memory_of l.fn.shared.words) x l.k (memory_of l.shared.words) y;
    }
