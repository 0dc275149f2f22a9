use Rattle.std.proofs.Common.{◌≡◌, ◌∙◌, ◌+◌, ℕ, List, ap, ap₂, subst, take, arith}
use Rattle.std.proofs.lemmas.List.{take_all}
use Rattle.cdc_base.specs.Causes.{Rose}
use Rattle.cdc_code.specs.declared.instr.Step.{Step}
use Rattle.cdc_prog.specs.Translation.{program_of}
use Rattle.cdc_text.proofs.Pieces.{wrote_part}
use Rattle.cdc_text.proofs.Gathers.{wrote_gathered}
use Rattle.cdc_report.specs.Listing.{Named, lines_from, code_text}
use Rattle.cdc_report.proofs.Lines.{gathers_line, fails_line}
use Rattle.cdc_report.proofs.listing.write_code.Goals as goal

pub returns-in_err-gather_step : goal.returns-in_err-gather_step
returns-in_err-gather_step g c =
    let i = c.loop-step.invariant in
    let part = rw i.place at c.in_err-gather_step.ensures.part in
    let whole : lines_from c.by-named.result 0 c.as_slice-step-items.result.now ≡ code_text (program_of c.args.program.now) c.args.code.now = ap₂ (λ (n : Named) (ss : List Step). lines_from n 0 ss) c.by-named.ensures c.as_slice-step-items.ensures in
    wrote_part _ c.from_residual.result _ _ _ _ c.from_residual.ensures.0 (rw whole at (fails_line c.by-named.result c.as_slice-step-items.result.now c.loop-step.step-index _ c.loop-step-test.true i.so_far part.0))
    (subst (λ k. Rose k (g.K.Sink.faults c.gather_step.new.out)) i.quiet part.1)

pub loop-step-preserved : goal.loop-step-preserved
loop-step-preserved g c =
    let i = c.loop-step.invariant in
    let whole = rw i.place at c.in_ok-gather_step.ensures.whole in
    record {
      place = ap (λ (k : ℕ). k + 1) i.place;
      so_far = gathers_line c.by-named.result c.as_slice-step-items.result.now c.loop-step.step-index _ c.loop-step-test.true i.so_far whole.0;
      quiet = whole.1 ∙ i.quiet;
    }

pub returns : goal.returns
returns g c =
    let i = c.loop-step.invariant in
    let ss : List Step = c.as_slice-step-items.result.now in
    let whole : lines_from c.by-named.result 0 ss ≡ code_text (program_of c.args.program.now) c.args.code.now = ap₂ (λ (n : Named) (ss : List Step). lines_from n 0 ss) c.by-named.ensures c.as_slice-step-items.ensures in
    let all : take c.loop-step.step-index ss ≡ ss = take_all c.loop-step.step-index ss (omega (arith, c.loop-step-test.false)) in
    let text : lines_from c.by-named.result 0 (take c.loop-step.step-index ss) ≡ code_text (program_of c.args.program.now) c.args.code.now = ap (lines_from c.by-named.result 0) all ∙ whole in
    wrote_gathered _ c.flush.result _ _ _ _ _ _ _ (rw text at i.so_far, i.quiet) c.flush.ensures.ok c.flush.ensures.failed c.flush.ensures.cause
