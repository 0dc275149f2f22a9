use Rattle.std.proofs.Common.{ℕ, List, [], ◌∷◌, subst}
use Rattle.std.specs.Prelude.{codes}
use Rattle.cdc_text.specs.Pieces.{Wrote}
use Rattle.cdc_text.specs.Texts.{number, line}
use Rattle.cdc_compile.specs.Texts.{kind_text}
use Rattle.cdc_compile.proofs.refused.write_limit.Goals as goal

pub returns : goal.returns
returns g c =
    let wrote = λ (words : List ℕ) (n : ℕ). Wrote (line (codes "refused TooMany " ∷ words ∷ codes " limit " ∷ number n ∷ [])) c.write_texts.result (g.K.Sink.taken c.args.out.now) (g.K.Sink.taken c.write_texts.new.out) (g.K.Sink.faults c.args.out.now) (g.K.Sink.faults c.write_texts.new.out) in
    subst (λ (n : ℕ). wrote (kind_text c.args.kind) n) c.limit.ensures (subst (λ (words : List ℕ). wrote words c.limit.result) c.kind_words.ensures c.write_texts.ensures)
