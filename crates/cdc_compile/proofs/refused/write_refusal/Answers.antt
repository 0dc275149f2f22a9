use Rattle.std.proofs.Common.{subst, sym}
use Rattle.cdc_text.specs.Pieces.{Wrote}
use Rattle.cdc_compile.specs.declared.refusal.Refusal.{Refusal}
use Rattle.cdc_compile.specs.Texts.{refusal_text}
use Rattle.cdc_compile.proofs.refused.write_refusal.Goals as goal

pub returns-in-Conflict : goal.returns-in-Conflict
returns-in-Conflict g c =
    subst (λ (r : Refusal). Wrote (refusal_text r) c.write_places.result (g.K.Sink.taken c.args.out.now) (g.K.Sink.taken c.write_places.new.out) (g.K.Sink.faults c.args.out.now) (g.K.Sink.faults c.write_places.new.out)) (sym c.in-Conflict.is) c.write_places.ensures
