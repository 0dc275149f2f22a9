use Rattle.std.proofs.Common.{subst, ◌∙◌}
use Rattle.cdc_base.specs.Causes.{Rose}
use Rattle.cdc_text.proofs.Gathers.{gathers_more, gathers_at, gathered_part}
use Rattle.cdc_text.proofs.gather.gather_texts.Goals as goal

pub returns-in_err-gather_text : goal.returns-in_err-gather_text
returns-in_err-gather_text g c =
    let part = c.in_err-gather_text.ensures.part in
    gathered_part _ c.from_residual.result _ _ _ _ _ _ c.from_residual.ensures.0 (gathers_at _ _ _ _ c.loop-text-test.true c.loop-text.invariant.so_far part.0)
    (subst (λ k. Rose k (g.K.Sink.faults c.gather_text.new.out)) c.loop-text.invariant.quiet part.1)

pub loop-text-preserved : goal.loop-text-preserved
loop-text-preserved g c =
    let whole = c.in_ok-gather_text.ensures.whole in
    record {
      so_far = gathers_more _ _ _ _ c.loop-text-test.true c.loop-text.invariant.so_far whole.0;
      quiet = whole.1 ∙ c.loop-text.invariant.quiet;
    }
