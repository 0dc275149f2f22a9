use Rattle.std.proofs.Common.{◌≡◌, ◌+ℤ◌, ◌*ℤ◌, ℤ, pos, refl, ◌∙◌, ℕ, List, Ok, Err, ap, ap₂, sym, subst, rules, to_z, of_z, w64}
use Rattle.std.proofs.lemmas.Result.{err_from_is_err_and}
use Rattle.cdc_task.specs.contracts.words.WordsPort.TheImpl.{ghosts}
use Rattle.cdc_task.specs.Memory.{memory_of}
use Rattle.cdc_task.specs.Held.{frame_of, begun}
use Rattle.cdc_prog.specs.Output.{output_of}
use Rattle.cdc_task.specs.Running.{Says, Comes, turn}
use Rattle.cdc_task.proofs.Cells.{plain}
use Rattle.cdc_task.proofs.Turns as turns
use Rattle.cdc_task.proofs.Turns.{doing_goes_on}
use Rattle.cdc_task.proofs.run.run_turn.Goals as goal

pub loop-piece-init : goal.loop-piece-init
loop-piece-init g c =
    let code = c.args.whole.now.code.now in
    let records = c.args.whole.now.records.now.records in
    let serial = c.args.serial.now in
    let fork = c.args.fork in
    let k = c.args.k in
    let h = c.iteration.new.self in
    let x = output_of (g.K.Sink.taken c.args.out.now) c.args.shared.now.gathered (g.K.Sink.faults c.args.out.now) in
    let from : to_z w64 (of_z w64 fork.from) ≡ fork.from = search rules in
    let by : to_z w64 (of_z w64 fork.by) ≡ fork.by = search rules in
    let index : to_z w64 (of_z w64 c.index_of.result) ≡ c.index_of.result = search rules in
    let is : (path : List ℕ) → frame_of path records h ≡ begun path records serial (fork.from +ℤ (pos k *ℤ fork.by)) =
    λ path. c.iteration.ensures path records ∙ ap (begun path records serial) (index ∙ c.index_of.ensures) ∙ ap₂ (λ (a b : ℤ). begun path records serial (a +ℤ (pos k *ℤ b))) from by in
    record {
      words = refl;
      midst = turns.begins code records ghosts memory_of plain serial fork k h (memory_of c.args.shared.now.words) x is c.requires.there c.requires.forking;
      ends = turns.begins_within code records ghosts memory_of plain serial fork k c.args.whole.now.ends.0 h c.args.shared.now.words is c.requires.there c.requires.ends;
    }

pub step-requires-clause-goes : goal.step-requires-clause-goes
step-requires-clause-goes g c = doing_goes_on c.args.whole.now.code.now c.args.whole.now.records.now.records c.loop-piece.lane c.loop-piece.invariant.midst.some

pub loop-piece-smaller-in-Went : goal.loop-piece-smaller-in-Went
loop-piece-smaller-in-Went g c =
    let i = c.loop-piece.invariant in
    turns.went_less c.args.whole.now.code.now c.args.whole.now.records.now.records ghosts memory_of plain c.args.serial.now c.args.fork c.args.k c.args.whole.now.ends.0
    c.loop-piece.lane c.loop-piece.shared.words c.step.new.self c.step.new.port i.midst.some c.in-Went.ensures.step i.ends

pub loop-piece-preserved-in-Went : goal.loop-piece-preserved-in-Went
loop-piece-preserved-in-Went g c =
    let code = c.args.whole.now.code.now in
    let records = c.args.whole.now.records.now.records in
    let i = c.loop-piece.invariant in
    record {
      words = c.in-Went.ensures.words ∙ i.words;
      midst = turns.went_on code records ghosts memory_of plain c.args.serial.now c.args.fork c.args.k _ _ c.loop-piece.lane _ c.loop-piece.shared.words c.step.new.self c.step.new.port i.midst c.in-Went.ensures.step;
      ends = turns.went_within code records ghosts memory_of plain c.args.serial.now c.args.fork c.args.k c.args.whole.now.ends.0 c.loop-piece.lane c.loop-piece.shared.words c.step.new.self c.step.new.port i.midst.some c.in-Went.ensures.step i.ends;
    }

pub loop-piece-smaller : goal.loop-piece-smaller
loop-piece-smaller g c =
    let i = c.loop-piece.invariant in
    turns.printed_less c.args.whole.now.code.now c.args.whole.now.records.now.records ghosts memory_of plain c.args.serial.now c.args.fork c.args.k c.args.whole.now.ends.0
    c.loop-piece.lane c.loop-piece.shared.words c.in-Printed.piece c.step.new.self c.step.new.port i.midst.some c.in-Printed.ensures.step i.ends

pub loop-piece-preserved : goal.loop-piece-preserved
loop-piece-preserved g c =
    let code = c.args.whole.now.code.now in
    let records = c.args.whole.now.records.now.records in
    let i = c.loop-piece.invariant in
    let y = output_of (g.K.Sink.taken c.loop-piece.out) c.loop-piece.shared.gathered (g.K.Sink.faults c.loop-piece.out) in
    let z = output_of (g.K.Sink.taken c.say.new.out) c.say.new.gathered (g.K.Sink.faults c.say.new.out) in
    let says : Says code.texts c.in-Printed.piece y (Ok tt) z = subst (λ (texts : List (List ℕ)). Says texts c.in-Printed.piece y (Ok tt) z) c.as_slice-texts.ensures c.in_ok-say-in-Printed.ensures in
    record {
      words = c.in-Printed.ensures.words ∙ i.words;
      midst = turns.printed_on code records ghosts memory_of plain c.args.serial.now c.args.fork c.args.k _ _ c.loop-piece.lane y c.loop-piece.shared.words c.in-Printed.piece c.step.new.self c.step.new.port z i.midst c.in-Printed.ensures.step says;
      ends = turns.printed_within code records ghosts memory_of plain c.args.serial.now c.args.fork c.args.k c.args.whole.now.ends.0 c.loop-piece.lane c.loop-piece.shared.words c.in-Printed.piece c.step.new.self c.step.new.port i.midst.some c.in-Printed.ensures.step i.ends;
    }

pub returns-in_err-say-in-Printed-clause-turn : goal.returns-in_err-say-in-Printed-clause-turn
returns-in_err-say-in-Printed-clause-turn g c =
    λ d rest. let code = c.args.whole.now.code.now in
    let records = c.args.whole.now.records.now.records in
    let i = c.loop-piece.invariant in
    let y = output_of (g.K.Sink.taken c.loop-piece.out) c.loop-piece.shared.gathered (g.K.Sink.faults c.loop-piece.out) in
    let z = output_of (g.K.Sink.taken c.say.new.out) c.say.new.gathered (g.K.Sink.faults c.say.new.out) in
    let r = err_from_is_err_and c.from_residual.result c.from_residual.ensures.1 in
    let says : Says code.texts c.in-Printed.piece y (Err r.0) z = subst (λ (texts : List (List ℕ)). Says texts c.in-Printed.piece y (Err r.0) z) c.as_slice-texts.ensures (subst (λ e. Says c.as_slice-texts.result.now c.in-Printed.piece y (Err e) z) (sym r.2) c.in_err-say-in-Printed.ensures) in
    let comes = turns.cut code records ghosts memory_of plain c.args.serial.now c.args.fork c.args.k _ _ c.loop-piece.lane y c.loop-piece.shared.words c.in-Printed.piece c.step.new.self c.step.new.port r.0 z i.midst c.in-Printed.ensures.step says d rest in
    subst (λ e. Comes code.texts (turn (d.body c.args.k) (memory_of c.args.shared.now.words) rest) (output_of (g.K.Sink.taken c.args.out.now) c.args.shared.now.gathered (g.K.Sink.faults c.args.out.now)) e rest z) (sym r.1) comes

pub returns-in-Faulted-clause-turn : goal.returns-in-Faulted-clause-turn
returns-in-Faulted-clause-turn g c =
    turns.faulted c.args.whole.now.code.now c.args.whole.now.records.now.records ghosts memory_of plain c.args.serial.now c.args.fork c.args.k _ _ c.loop-piece.lane _ c.loop-piece.shared.words c.in-Faulted.kind c.in-Faulted.line c.step.new.self c.step.new.port
    c.loop-piece.invariant.midst c.in-Faulted.ensures.step

pub returns-in-Forked-clause-turn : goal.returns-in-Forked-clause-turn
returns-in-Forked-clause-turn g c =
    turns.ended_turn c.args.whole.now.code.now c.args.whole.now.records.now.records ghosts memory_of plain c.args.serial.now c.args.fork c.args.k _ _ c.loop-piece.lane _ c.loop-piece.shared.words c.step.result c.step.new.self c.step.new.port
    c.loop-piece.invariant.midst c.in-Forked.is c.step.ensures.step

pub returns-in-Forked-clause-memory : goal.returns-in-Forked-clause-memory
returns-in-Forked-clause-memory g c =
    turns.ended_memory c.args.whole.now.code.now c.args.whole.now.records.now.records ghosts memory_of plain c.args.serial.now c.args.fork c.args.k _ _ c.loop-piece.lane _ c.loop-piece.shared.words c.step.result c.step.new.self c.step.new.port
    c.loop-piece.invariant.midst c.in-Forked.is c.step.ensures.step

pub returns-in-Forked-clause-nearer : goal.returns-in-Forked-clause-nearer
returns-in-Forked-clause-nearer g c =
    turns.ended_nearer c.args.whole.now.code.now c.args.whole.now.records.now.records ghosts memory_of plain c.args.serial.now c.args.fork c.args.k _ _ c.loop-piece.lane _ c.loop-piece.shared.words c.step.result c.step.new.self c.step.new.port
    c.loop-piece.invariant.midst c.in-Forked.is c.step.ensures.step
