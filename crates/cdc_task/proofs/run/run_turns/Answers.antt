use Rattle.std.proofs.Common.{suc, ◌+◌, ◌≡◌, Err, ◌∙◌, sym, subst, arith}
use Rattle.std.proofs.lemmas.Result.{err_from_is_err_and}
use Rattle.cdc_task.specs.Memory.{memory_of}
use Rattle.cdc_prog.specs.Output.{output_of}
use Rattle.cdc_task.specs.Running.{Comes, turn, turns}
use Rattle.cdc_task.proofs.Forks as forks
use Rattle.cdc_task.proofs.run.run_turns.Goals as goal

pub returns-in_err-run_turn-clause-turns : goal.returns-in_err-run_turn-clause-turns
returns-in_err-run_turn-clause-turns g c =
    λ d rest. let code = c.args.whole.now.code.now in
    let records = c.args.whole.now.records.now.records in
    let s = memory_of c.args.shared.now.words in
    let x = output_of (g.K.Sink.taken c.args.out.now) c.args.shared.now.gathered (g.K.Sink.faults c.args.out.now) in
    let t = memory_of c.loop-k.shared.words in
    let y = output_of (g.K.Sink.taken c.loop-k.out) c.loop-k.shared.gathered (g.K.Sink.faults c.loop-k.out) in
    let u = memory_of c.run_turn.new.shared.words in
    let z = output_of (g.K.Sink.taken c.run_turn.new.out) c.run_turn.new.shared.gathered (g.K.Sink.faults c.run_turn.new.out) in
    let r = err_from_is_err_and c.from_residual.result c.from_residual.ensures.1 in
    let comes = forks.cut code records c.args.serial.now c.args.fork c.args.whole.now.ends.0 s x c.loop-k.k t y r.0 u z c.loop-k-test.true c.loop-k.invariant.between (λ d rest. subst (λ e. Comes code.texts (turn (d.body c.loop-k.k) t rest) y (Err e) rest z) (sym r.2) (c.in_err-run_turn.ensures.turn d rest)) d rest in
    subst (λ e. Comes code.texts (turns c.args.fork.count 0 d.body s rest) x e (rest u) z) (sym r.1) comes

pub loop-k-preserved : goal.loop-k-preserved
loop-k-preserved g c =
    let e = c.in_ok-run_turn.ensures in
    let n : c.loop-k.k + 1 ≡ suc c.loop-k.k = omega arith in
    record {
      words = e.words ∙ c.loop-k.invariant.words;
      between = forks.next c.args.whole.now.code.now c.args.whole.now.records.now.records c.args.serial.now c.args.fork c.args.whole.now.ends.0 _ _ c.loop-k.k (c.loop-k.k + 1) _ _ _ _ n c.loop-k-test.true c.loop-k.invariant.between e.turn e.memory e.nearer;
    }

pub returns-clause-turns : goal.returns-clause-turns
returns-clause-turns g c = forks.over c.args.whole.now.code.now c.args.whole.now.records.now.records c.args.serial.now c.args.fork c.args.whole.now.ends.0 _ _ c.loop-k.k _ _ c.loop-k-test.false c.loop-k.invariant.between

pub returns-clause-nearer : goal.returns-clause-nearer
returns-clause-nearer g c = forks.over_nearer c.args.whole.now.code.now c.args.whole.now.records.now.records c.args.serial.now c.args.fork c.args.whole.now.ends.0 _ _ c.loop-k.k _ _ c.loop-k-test.false c.loop-k.invariant.between
