use Rattle.std.proofs.Common.{◌≡◌, ◌<◌, ℕ, ℤ, List, [], refl, Ok, Err, ◌∙◌, sym, subst, rules, to_z, of_z, w64}
use Rattle.std.proofs.lemmas.Result.{err_from_is_err_and}
use Rattle.cdc_code.specs.Rows.{act}
use Rattle.cdc_task.specs.contracts.words.WordsPort.TheImpl.{ghosts}
use Rattle.cdc_task.specs.declared.end.StepEnd.TheVariants.{Forked}
use Rattle.cdc_task.specs.declared.run.Fork.{Fork}
use Rattle.cdc_prog.specs.InOrder.{run}
use Rattle.cdc_task.specs.Held.{Held, frame_of}
use Rattle.cdc_task.specs.Memory.{memory_of}
use Rattle.cdc_task.specs.Course.{Serial, remaining}
use Rattle.cdc_prog.specs.Output.{output_of}
use Rattle.cdc_task.specs.Running.{nothing, turns, EndsWithin, Says, Comes}
use Rattle.cdc_task.specs.Steps.{Stepped}
use Rattle.cdc_task.proofs.Cells.{plain}
use Rattle.cdc_task.proofs.Serial as serial
use Rattle.cdc_task.proofs.Serial.{Midst}
use Rattle.cdc_task.proofs.Turns.{doing_goes_on}
use Rattle.cdc_task.proofs.run.run_serial.Goals as goal

pub loop-piece-init : goal.loop-piece-init
loop-piece-init g c = record {
  words = refl;
  midst = serial.starts c.args.whole.now.code.now c.args.whole.now.records.now.records ghosts memory_of plain c.args.serial.now _ _ c.requires.doing;
  ends = c.requires.ends;
}

pub step-requires-clause-goes : goal.step-requires-clause-goes
step-requires-clause-goes g c = doing_goes_on c.args.whole.now.code.now c.args.whole.now.records.now.records c.loop-piece.serial c.loop-piece.invariant.midst.some

pub loop-piece-smaller-in-Went : goal.loop-piece-smaller-in-Went
loop-piece-smaller-in-Went g c =
    let i = c.loop-piece.invariant in
    serial.went_less c.args.whole.now.code.now c.args.whole.now.records.now.records ghosts memory_of plain c.args.whole.now.ends.0 c.loop-piece.serial c.loop-piece.shared.words c.step.new.self c.step.new.port i.midst.some c.in-Went.ensures.step i.ends

pub loop-piece-preserved-in-Went : goal.loop-piece-preserved-in-Went
loop-piece-preserved-in-Went g c =
    let code = c.args.whole.now.code.now in
    let records = c.args.whole.now.records.now.records in
    let i = c.loop-piece.invariant in
    record {
      words = c.in-Went.ensures.words ∙ i.words;
      midst = serial.went_on code records ghosts memory_of plain c.args.serial.now _ _ c.loop-piece.serial _ c.loop-piece.shared.words c.step.new.self c.step.new.port i.midst c.in-Went.ensures.step;
      ends = serial.went_within code records ghosts memory_of plain c.args.whole.now.ends.0 c.loop-piece.serial c.loop-piece.shared.words c.step.new.self c.step.new.port i.midst.some c.in-Went.ensures.step i.ends;
    }

pub loop-piece-smaller-in-Continue-1 : goal.loop-piece-smaller-in-Continue-1
loop-piece-smaller-in-Continue-1 g c =
    let i = c.loop-piece.invariant in
    serial.printed_less c.args.whole.now.code.now c.args.whole.now.records.now.records ghosts memory_of plain c.args.whole.now.ends.0 c.loop-piece.serial c.loop-piece.shared.words c.in-Printed.piece c.step.new.self c.step.new.port i.midst.some c.in-Printed.ensures.step i.ends

pub loop-piece-preserved-in-Continue-1 : goal.loop-piece-preserved-in-Continue-1
loop-piece-preserved-in-Continue-1 g c =
    let code = c.args.whole.now.code.now in
    let records = c.args.whole.now.records.now.records in
    let i = c.loop-piece.invariant in
    let y = output_of (g.K.Sink.taken c.loop-piece.out) c.loop-piece.shared.gathered (g.K.Sink.faults c.loop-piece.out) in
    let z = output_of (g.K.Sink.taken c.say.new.out) c.say.new.gathered (g.K.Sink.faults c.say.new.out) in
    let says : Says code.texts c.in-Printed.piece y (Ok tt) z = subst (λ (texts : List (List ℕ)). Says texts c.in-Printed.piece y (Ok tt) z) c.as_slice-texts.ensures c.in_ok-say-in-Printed.ensures in
    record {
      words = c.in-Printed.ensures.words ∙ i.words;
      midst = serial.printed_on code records ghosts memory_of plain c.args.serial.now _ _ c.loop-piece.serial y c.loop-piece.shared.words c.in-Printed.piece c.step.new.self c.step.new.port z i.midst c.in-Printed.ensures.step says;
      ends = serial.printed_within code records ghosts memory_of plain c.args.whole.now.ends.0 c.loop-piece.serial c.loop-piece.shared.words c.in-Printed.piece c.step.new.self c.step.new.port i.midst.some c.in-Printed.ensures.step i.ends;
    }

pub returns-in_err-say-in-Printed : goal.returns-in_err-say-in-Printed
returns-in_err-say-in-Printed g c =
    λ d. let code = c.args.whole.now.code.now in
    let records = c.args.whole.now.records.now.records in
    let y = output_of (g.K.Sink.taken c.loop-piece.out) c.loop-piece.shared.gathered (g.K.Sink.faults c.loop-piece.out) in
    let z = output_of (g.K.Sink.taken c.say.new.out) c.say.new.gathered (g.K.Sink.faults c.say.new.out) in
    let r = err_from_is_err_and c.from_residual.result c.from_residual.ensures.1 in
    let says : Says code.texts c.in-Printed.piece y (Err r.0) z = subst (λ (texts : List (List ℕ)). Says texts c.in-Printed.piece y (Err r.0) z) c.as_slice-texts.ensures (subst (λ e. Says c.as_slice-texts.result.now c.in-Printed.piece y (Err e) z) (sym r.2) c.in_err-say-in-Printed.ensures) in
    let comes = serial.cut code records ghosts memory_of plain c.args.serial.now _ _ c.loop-piece.serial y c.loop-piece.shared.words c.in-Printed.piece c.step.new.self c.step.new.port r.0 z c.loop-piece.invariant.midst c.in-Printed.ensures.step says d in
    subst (λ e. Comes code.texts (run d.process (memory_of c.args.shared.now.words)) (output_of (g.K.Sink.taken c.args.out.now) c.args.shared.now.gathered (g.K.Sink.faults c.args.out.now)) e nothing z) (sym r.1) comes

-- what was forked, as it is handed on
abbrev handed : (count : ℕ) (from by : ℤ) → Fork
handed count from by = record { count = count; from = to_z w64 (of_z w64 from); by = to_z w64 (of_z w64 by) }

as_handed : (A : ℤ → ℤ → Type 0) (from by : ℤ) → to_z w64 (of_z w64 from) ≡ from → to_z w64 (of_z w64 by) ≡ by → A from by → A (to_z w64 (of_z w64 from)) (to_z w64 (of_z w64 by))
as_handed A from by f b h = subst (λ x. A x (to_z w64 (of_z w64 by))) (sym f) (subst (A from) (sym b) h)

pub run_turns-requires-clause-forking : goal.run_turns-requires-clause-forking
run_turns-requires-clause-forking g c =
    let code = c.args.whole.now.code.now in
    let records = c.args.whole.now.records.now.records in
    let fork = handed c.in-Forked.count c.in-Forked.from c.in-Forked.by in
    let from : to_z w64 (of_z w64 c.in-Forked.from) ≡ c.in-Forked.from = search rules in
    let by : to_z w64 (of_z w64 c.in-Forked.by) ≡ c.in-Forked.by = search rules in
    let h = c.loop-piece.serial in
    let p = c.loop-piece.shared.words in
    let steps = as_handed (λ a b. (path : List ℕ) → Stepped ghosts records (act code (frame_of path records h)) p (Forked c.in-Forked.number c.in-Forked.count a b) c.step.new.self c.step.new.port) c.in-Forked.from c.in-Forked.by from by c.in-Forked.ensures.step in
    serial.forked_each code records ghosts memory_of plain h p c.in-Forked.number fork c.step.new.self c.step.new.port steps c.loop-piece.invariant.midst.some

pub run_turns-requires-clause-ends : goal.run_turns-requires-clause-ends
run_turns-requires-clause-ends g c =
    let code = c.args.whole.now.code.now in
    let records = c.args.whole.now.records.now.records in
    let fork = handed c.in-Forked.count c.in-Forked.from c.in-Forked.by in
    let from : to_z w64 (of_z w64 c.in-Forked.from) ≡ c.in-Forked.from = search rules in
    let by : to_z w64 (of_z w64 c.in-Forked.by) ≡ c.in-Forked.by = search rules in
    let h = c.loop-piece.serial in
    let p = c.loop-piece.shared.words in
    let steps = as_handed (λ a b. (path : List ℕ) → Stepped ghosts records (act code (frame_of path records h)) p (Forked c.in-Forked.number c.in-Forked.count a b) c.step.new.self c.step.new.port) c.in-Forked.from c.in-Forked.by from by c.in-Forked.ensures.step in
    serial.forked_within code records ghosts memory_of plain h p c.in-Forked.number fork c.step.new.self c.step.new.port steps c.args.whole.now.ends.0 c.loop-piece.invariant.midst.some c.loop-piece.invariant.ends

pub returns-in_err-run_turns-in-Forked : goal.returns-in_err-run_turns-in-Forked
returns-in_err-run_turns-in-Forked g c =
    λ d. let code = c.args.whole.now.code.now in
    let records = c.args.whole.now.records.now.records in
    let fork = handed c.in-Forked.count c.in-Forked.from c.in-Forked.by in
    let from : to_z w64 (of_z w64 c.in-Forked.from) ≡ c.in-Forked.from = search rules in
    let by : to_z w64 (of_z w64 c.in-Forked.by) ≡ c.in-Forked.by = search rules in
    let h = c.loop-piece.serial in
    let p = c.loop-piece.shared.words in
    let p' = c.step.new.port in
    let u = memory_of c.run_turns.new.shared.words in
    let s = memory_of c.args.shared.now.words in
    let x = output_of (g.K.Sink.taken c.args.out.now) c.args.shared.now.gathered (g.K.Sink.faults c.args.out.now) in
    let y = output_of (g.K.Sink.taken c.loop-piece.out) c.loop-piece.shared.gathered (g.K.Sink.faults c.loop-piece.out) in
    let z = output_of (g.K.Sink.taken c.run_turns.new.out) c.run_turns.new.shared.gathered (g.K.Sink.faults c.run_turns.new.out) in
    let steps = as_handed (λ a b. (path : List ℕ) → Stepped ghosts records (act code (frame_of path records h)) p (Forked c.in-Forked.number c.in-Forked.count a b) c.step.new.self p') c.in-Forked.from c.in-Forked.by from by c.in-Forked.ensures.step in
    let r = err_from_is_err_and c.from_residual-in_err-run_turns-in-Forked.result c.from_residual-in_err-run_turns-in-Forked.ensures.1 in
    let comes = serial.resumed_cut code records ghosts memory_of plain h p c.in-Forked.number fork c.step.new.self p' steps c.args.serial.now s x y r.0 u z c.loop-piece.invariant.midst
    (λ e rest. subst (λ f. Comes code.texts (turns fork.count 0 e.body (memory_of p') rest) y (Err f) (rest u) z) (sym r.2) (c.in_err-run_turns-in-Forked.ensures.turns e rest)) d in
    subst (λ e. Comes code.texts (run d.process s) x e nothing z) (sym r.1) comes

pub loop-piece-smaller : goal.loop-piece-smaller
loop-piece-smaller g c =
    let code = c.args.whole.now.code.now in
    let records = c.args.whole.now.records.now.records in
    let most = c.args.whole.now.ends.0 in
    let fork = handed c.in-Forked.count c.in-Forked.from c.in-Forked.by in
    let from : to_z w64 (of_z w64 c.in-Forked.from) ≡ c.in-Forked.from = search rules in
    let by : to_z w64 (of_z w64 c.in-Forked.by) ≡ c.in-Forked.by = search rules in
    let h = c.loop-piece.serial in
    let p = c.loop-piece.shared.words in
    let u = memory_of c.run_turns.new.shared.words in
    let steps = as_handed (λ a b. (path : List ℕ) → Stepped ghosts records (act code (frame_of path records h)) p (Forked c.in-Forked.number c.in-Forked.count a b) c.step.new.self c.step.new.port) c.in-Forked.from c.in-Forked.by from by c.in-Forked.ensures.step in
    subst (λ (k : Held). remaining code most (Serial (frame_of [] records k), u) < remaining code most (Serial (frame_of [] records h), memory_of p)) (sym c.resume.ensures)
    (serial.resumed_less code records ghosts memory_of plain h p c.in-Forked.number fork c.step.new.self c.step.new.port steps most u c.loop-piece.invariant.midst.some c.loop-piece.invariant.ends c.in_ok-run_turns-in-Forked.ensures.nearer)

pub loop-piece-preserved : goal.loop-piece-preserved
loop-piece-preserved g c =
    let code = c.args.whole.now.code.now in
    let records = c.args.whole.now.records.now.records in
    let most = c.args.whole.now.ends.0 in
    let fork = handed c.in-Forked.count c.in-Forked.from c.in-Forked.by in
    let from : to_z w64 (of_z w64 c.in-Forked.from) ≡ c.in-Forked.from = search rules in
    let by : to_z w64 (of_z w64 c.in-Forked.by) ≡ c.in-Forked.by = search rules in
    let h = c.loop-piece.serial in
    let p = c.loop-piece.shared.words in
    let u = memory_of c.run_turns.new.shared.words in
    let s = memory_of c.args.shared.now.words in
    let x = output_of (g.K.Sink.taken c.args.out.now) c.args.shared.now.gathered (g.K.Sink.faults c.args.out.now) in
    let y = output_of (g.K.Sink.taken c.loop-piece.out) c.loop-piece.shared.gathered (g.K.Sink.faults c.loop-piece.out) in
    let z = output_of (g.K.Sink.taken c.run_turns.new.out) c.run_turns.new.shared.gathered (g.K.Sink.faults c.run_turns.new.out) in
    let steps = as_handed (λ a b. (path : List ℕ) → Stepped ghosts records (act code (frame_of path records h)) p (Forked c.in-Forked.number c.in-Forked.count a b) c.step.new.self c.step.new.port) c.in-Forked.from c.in-Forked.by from by c.in-Forked.ensures.step in
    let e = c.in_ok-run_turns-in-Forked.ensures in
    record {
      words = e.words ∙ c.in-Forked.ensures.words ∙ c.loop-piece.invariant.words;
      midst = subst (λ (k : Held). Midst code records ghosts memory_of plain c.args.serial.now s x k u z) (sym c.resume.ensures)
          (serial.resumed_on code records ghosts memory_of plain h p c.in-Forked.number fork c.step.new.self c.step.new.port steps c.args.serial.now s x y u z c.loop-piece.invariant.midst e.turns);
      ends = subst (λ (k : Held). EndsWithin code most (Serial (frame_of [] records k), u)) (sym c.resume.ensures)
          (serial.resumed_within code records ghosts memory_of plain h p c.in-Forked.number fork c.step.new.self c.step.new.port steps most u c.loop-piece.invariant.midst.some c.loop-piece.invariant.ends e.nearer);
    }

pub returns-in-Faulted : goal.returns-in-Faulted
returns-in-Faulted g c =
    serial.faulted c.args.whole.now.code.now c.args.whole.now.records.now.records ghosts memory_of plain c.args.serial.now _ _ c.loop-piece.serial _ c.loop-piece.shared.words c.in-Faulted.kind c.in-Faulted.line c.step.new.self c.step.new.port
    c.loop-piece.invariant.midst c.in-Faulted.ensures.step

pub returns-in-Joined : goal.returns-in-Joined
returns-in-Joined g c =
    serial.ended c.args.whole.now.code.now c.args.whole.now.records.now.records ghosts memory_of plain c.args.serial.now _ _ c.loop-piece.serial _ c.loop-piece.shared.words c.step.result c.step.new.self c.step.new.port
    c.loop-piece.invariant.midst c.in-Joined.is c.step.ensures.step
