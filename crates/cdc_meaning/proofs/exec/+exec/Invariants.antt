use Rattle.std.proofs.Common.{◌-◌, List, ℤ, ℕ, length, drop}
use Rattle.cdc_prog.specs.Process.{Process}
use Rattle.cdc_prog.specs.Expressions.{Surroundings}
use Rattle.cdc_prog.specs.Statements.{Calls, stmt}
use Rattle.cdc_prog.specs.Bodies.{HasOnly}
use Rattle.cdc_prog.specs.Resolved.{StmtFits}
use Rattle.cdc_prog.specs.Translation.{stmt_of, stmts_of, arms_of, program_of}
use Rattle.cdc_meaning.specs.Frames.{shapes_of, binding}
use Rattle.cdc_prog.specs.Held.{around}
use Rattle.cdc_prog.specs.Unread.{left_of}
use Rattle.cdc_meaning.specs.Carried.{output_of, Follows, state}
use Rattle.cdc_meaning.specs.Loops.{turns_left}
use Rattle.cdc_meaning.specs.Doall.{forked, SlotsWithin}
use Rattle.cdc_meaning.proofs.Iterations.{iterations_left}
use Rattle.cdc_meaning.proofs.exec.+exec.Given as goal

abbrev pub invariant-exec_all-loop-statement : goal.invariant-exec_all-loop-statement
invariant-exec_all-loop-statement g l = record {
  fits : StmtFits (program_of l.frame.program.now) (λ u. 0) 0 (shapes_of l.frame) (length l.slots) (stmts_of (drop l.statement-index l.statements));
  calls : HasOnly (Unit {0}) (Unit {0}) ⊥ (stmts_of (drop l.statement-index l.statements));
  lane : SlotsWithin (length l.lane) (stmts_of (drop l.statement-index l.statements));
  follows : (calls : Calls) (rest : Surroundings → Process) → Follows l.frame.program.now.texts
      (stmt calls (binding l.frame) (stmts_of l.statements) (around l.initial.slots (left_of l.initial.streams.unread)) rest) (state l.initial.words l.initial.slots (left_of l.initial.streams.unread) (output_of (g.K.Sink.taken l.initial.out) l.initial.streams.page (g.K.Sink.faults l.initial.out)))
      (stmt calls (binding l.frame) (stmts_of (drop l.statement-index l.statements)) (around l.slots (left_of l.streams.unread)) rest) (state l.words l.slots (left_of l.streams.unread) (output_of (g.K.Sink.taken l.out) l.streams.page (g.K.Sink.faults l.out)));
}

abbrev pub invariant-repeat-loop : goal.invariant-repeat-loop
invariant-repeat-loop g l =
    (calls : Calls) (rest : Surroundings → Process) → Follows l.frame.program.now.texts
    (turns_left l.turns.count (binding l.frame) l.turns (stmt calls (binding l.frame) (stmts_of l.body)) (around l.initial.slots (left_of l.initial.streams.unread)) rest) (state l.initial.words l.initial.slots (left_of l.initial.streams.unread) (output_of (g.K.Sink.taken l.initial.out) l.initial.streams.page (g.K.Sink.faults l.initial.out)))
    (turns_left (l.turns.count - l.counter) (binding l.frame) l.turns (stmt calls (binding l.frame) (stmts_of l.body)) (around l.slots (left_of l.streams.unread)) rest) (state l.words l.slots (left_of l.streams.unread) (output_of (g.K.Sink.taken l.out) l.streams.page (g.K.Sink.faults l.out)))

abbrev pub invariant-exec_other-loop-arm : goal.invariant-exec_other-loop-arm
invariant-exec_other-loop-arm g l = record {
  fits : StmtFits (program_of l.frame.program.now) (λ u. 0) 0 (shapes_of l.frame) (length l.slots) (arms_of (drop l.arm-index l.arm-items) (stmts_of l.other));
  calls : HasOnly (Unit {0}) (Unit {0}) ⊥ (arms_of (drop l.arm-index l.arm-items) (stmts_of l.other));
  lane : SlotsWithin (length l.lane) (arms_of (drop l.arm-index l.arm-items) (stmts_of l.other));
  follows : (calls : Calls) (rest : Surroundings → Process) → Follows l.frame.program.now.texts
      (stmt calls (binding l.frame) (stmt_of l.statement) (around l.initial.slots (left_of l.initial.streams.unread)) rest) (state l.initial.words l.initial.slots (left_of l.initial.streams.unread) (output_of (g.K.Sink.taken l.initial.out) l.initial.streams.page (g.K.Sink.faults l.initial.out)))
      (stmt calls (binding l.frame) (arms_of (drop l.arm-index l.arm-items) (stmts_of l.other)) (around l.slots (left_of l.streams.unread)) rest) (state l.words l.slots (left_of l.streams.unread) (output_of (g.K.Sink.taken l.out) l.streams.page (g.K.Sink.faults l.out)));
}

abbrev pub invariant-iterate-loop-k : goal.invariant-iterate-loop-k
invariant-iterate-loop-k g l =
    (slots : List ℤ) (calls : Calls) (number : ℕ) (rest : Surroundings → Process) → Follows l.frame.program.now.texts
    (forked (binding l.frame) number l.fork (stmt calls (binding l.frame) (stmts_of l.body)) (around slots (left_of l.initial.streams.unread)) rest) (state l.initial.words slots (left_of l.initial.streams.unread) (output_of (g.K.Sink.taken l.initial.out) l.initial.streams.page (g.K.Sink.faults l.initial.out)))
    (iterations_left (l.fork.count - l.k) l.k l.fork.from l.fork.by (stmt calls (binding l.frame) (stmts_of l.body)) (around slots (left_of l.streams.unread)) rest) (state l.words slots (left_of l.streams.unread) (output_of (g.K.Sink.taken l.out) l.streams.page (g.K.Sink.faults l.out)))
