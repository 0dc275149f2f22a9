use Rattle.std.proofs.Common.{subst, [], ◌∷◌}
use Rattle.std.specs.Prelude.{List, ℕ, codes}
use Rattle.cdc_text.specs.Pieces.{Wrote}
use Rattle.cdc_text.specs.Texts.{number, line}
use Rattle.cdc_report.proofs.end.write_fault.Goals as goal

pub returns : goal.returns
returns g c =
    subst (λ (kind : List ℕ). Wrote (line (codes "= end fault " ∷ kind ∷ codes " at line " ∷ number c.args.line ∷ [])) c.write_texts.result (g.K.Sink.taken c.args.out.now) (g.K.Sink.taken c.write_texts.new.out) (g.K.Sink.faults c.args.out.now) (g.K.Sink.faults c.write_texts.new.out))
    c.kind_words.ensures c.write_texts.ensures
