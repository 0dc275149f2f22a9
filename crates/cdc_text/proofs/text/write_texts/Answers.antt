use Rattle.std.proofs.Common.{subst}
use Rattle.cdc_base.specs.Causes.{Rose}
use Rattle.cdc_text.proofs.Pieces.{failed_at, wrote_part}
use Rattle.cdc_text.proofs.text.write_texts.Goals as goal

pub returns-in_err-write_text : goal.returns-in_err-write_text
returns-in_err-write_text g c =
    let part = c.in_err-write_text.ensures.part in
    wrote_part _ c.from_residual.result _ _ _ _ c.from_residual.ensures.0 (failed_at _ _ _ _ _ _ c.loop-text-test.true c.loop-text.invariant.so_far part.0)
    (subst (λ k. Rose k (g.K.Sink.faults c.write_text.new.out)) c.loop-text.invariant.quiet part.1)
