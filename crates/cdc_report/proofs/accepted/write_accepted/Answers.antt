use Rattle.std.proofs.Common.{ℕ, [], ◌∷◌, length, subst}
use Rattle.std.specs.Prelude.{codes}
use Rattle.cdc_prog.specs.Translation.{program_of}
use Rattle.cdc_text.specs.Pieces.{Wrote}
use Rattle.cdc_text.specs.Texts.{number, line}
use Rattle.cdc_report.proofs.accepted.write_accepted.Goals as goal

pub returns : goal.returns
returns g c =
    let program = c.args.program.now in
    let wrote = λ (units : ℕ) (objects : ℕ). Wrote (line (
    codes "accepted units " ∷ number units ∷ codes " objects " ∷ number objects
    ∷ codes " words " ∷ number program.words ∷ codes " sites " ∷ number program.sites ∷ codes " doalls " ∷ number program.doalls ∷ []))
    c.write_texts.result (g.K.Sink.taken c.args.out.now) (g.K.Sink.taken c.write_texts.new.out) (g.K.Sink.faults c.args.out.now) (g.K.Sink.faults c.write_texts.new.out) in
    subst (λ (n : ℕ). wrote (length (program_of program).units) n) c.object_count.ensures (subst (λ (n : ℕ). wrote n c.object_count.result) c.unit_count.ensures c.write_texts.ensures)
