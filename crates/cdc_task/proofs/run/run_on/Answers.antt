use Rattle.std.proofs.Common.{sym, subst}
use Rattle.cdc_prog.specs.Answers.{IsRun, HasPlainCause}
use Rattle.cdc_prog.specs.InOrder.{run}
use Rattle.cdc_prog.specs.Meaning.{Meaning, meaning}
use Rattle.cdc_prog.specs.Output.{output_of, meaning_of}
use Rattle.cdc_prog.specs.Units.{process_of}
use Rattle.cdc_prog.proofs.Answers.{all_zeros, is_run, has_cause}
use Rattle.cdc_task.specs.Memory.{memory_of}
use Rattle.cdc_task.proofs.Ends.{ends}
use Rattle.cdc_task.proofs.Starts.{starts_doing, starts_within, meant}
use Rattle.cdc_task.proofs.run.run_on.Goals as goal

pub invariant_of-whole : goal.invariant_of-whole
invariant_of-whole g c = record { ends = ends c.args.code.now c.requires.sound c.args.records.now.records }

pub run_serial-end-requires-clause-doing : goal.run_serial-end-requires-clause-doing
run_serial-end-requires-clause-doing g c =
    let records = c.args.records.now.records in
    starts_doing c.args.code.now records c.serial-serial.result (c.serial-serial.ensures records) c.requires.sound c.requires.arrays

pub run_serial-end-requires-clause-ends : goal.run_serial-end-requires-clause-ends
run_serial-end-requires-clause-ends g c =
    let records = c.args.records.now.records in
    let store = all_zeros c.args.cells.items c.args.code.now.words c.requires.zeros in
    starts_within c.args.code.now records c.serial-serial.result (c.serial-serial.ensures records) (memory_of (record { cells = c.args.cells })) store c.whole-1.given.0

pub returns-clause-run : goal.returns-clause-run
returns-clause-run g c =
    let code = c.args.code.now in
    let records = c.args.records.now.records in
    let sound = c.requires.sound in
    let s = memory_of (record { cells = c.args.cells }) in
    let q = process_of sound.program records in
    let n = c.run_serial-end.new in
    let x = output_of (g.K.Sink.taken c.args.out.now) c.new.result (g.K.Sink.faults c.args.out.now) in
    let y = output_of (g.K.Sink.taken n.out) n.shared.gathered (g.K.Sink.faults n.out) in
    let now = g.K.Sink.taken c.hand_on.new.out in
    let risen = g.K.Sink.faults c.hand_on.new.out in
    let d = starts_doing code records c.serial-serial.result (c.serial-serial.ensures records) sound c.requires.arrays in
    let store = all_zeros c.args.cells.items code.words c.requires.zeros in
    let is = is_run (meaning_of code.texts (run q s)) x y c.hand_on.result now risen c.new.ensures c.run_serial-end.result (c.run_serial-end.ensures d) c.hand_on.ensures in (
      meaning sound.program records,
      sound.runs records,
      subst (λ (m : Meaning). IsRun m x.taken now c.answer.result) (meant code sound records s store)
          (subst (IsRun _ x.taken now) (sym c.answer.ensures) is),
    )

pub returns-clause-cause : goal.returns-clause-cause
returns-clause-cause g c =
    let code = c.args.code.now in
    let records = c.args.records.now.records in
    let sound = c.requires.sound in
    let s = memory_of (record { cells = c.args.cells }) in
    let q = process_of sound.program records in
    let n = c.run_serial-end.new in
    let x = output_of (g.K.Sink.taken c.args.out.now) c.new.result (g.K.Sink.faults c.args.out.now) in
    let y = output_of (g.K.Sink.taken n.out) n.shared.gathered (g.K.Sink.faults n.out) in
    let now = g.K.Sink.taken c.hand_on.new.out in
    let risen = g.K.Sink.faults c.hand_on.new.out in
    let d = starts_doing code records c.serial-serial.result (c.serial-serial.ensures records) sound c.requires.arrays in
    subst (HasPlainCause x.faults risen) (sym c.answer.ensures)
    (has_cause (meaning_of code.texts (run q s)) x y c.hand_on.result now risen c.new.ensures c.run_serial-end.result (c.run_serial-end.ensures d) c.hand_on.ensures)
