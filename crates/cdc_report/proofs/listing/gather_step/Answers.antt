use Rattle.std.proofs.Common.{◌++◌, [], subst, ℕ, List}
use Rattle.std.specs.Prelude.{codes}
use Rattle.cdc_base.specs.Gathered.{waiting}
use Rattle.cdc_text.specs.Pieces.{Gathers}
use Rattle.cdc_text.proofs.Gathers.{gathered_first, gathered_second}
use Rattle.cdc_text.specs.Texts.{number}
use Rattle.cdc_report.specs.Listing.{Named, name_of, operands, spaced}
use Rattle.cdc_code.specs.declared.instr.Step.{Step}
use Rattle.cdc_report.proofs.Lines.{line_parts}
use Rattle.cdc_report.proofs.listing.gather_step.Goals as goal

abbrev head : ℕ → Step → List ℕ
head place s = number place ++ (codes " " ++ (name_of s.instr ++ []))

abbrev rest : Named → Step → List ℕ
rest n s = spaced (operands n s.instr) ++ codes "\n"

pub returns-in_err-gather_texts : goal.returns-in_err-gather_texts
returns-in_err-gather_texts g c =
    let n = c.args.named.now in
    let place = c.args.place in
    let s = c.args.step.now in
    subst (λ (text : List ℕ). Gathers text c.from_residual.result (g.K.Sink.taken c.args.out.now) (g.K.Sink.taken c.gather_texts.new.out) (waiting c.args.gathered.now) (waiting c.gather_texts.new.gathered) (g.K.Sink.faults c.args.out.now) (g.K.Sink.faults c.gather_texts.new.out))
    (line_parts n place s)
    (gathered_first (head place s) (rest n s) c.from_residual.result _ _ _ _ _ _ c.from_residual.ensures.0 (rw c.name_of.ensures at c.in_err-gather_texts.ensures.part))

pub returns-in_err-gather_texts-2 : goal.returns-in_err-gather_texts-2
returns-in_err-gather_texts-2 g c =
    let n = c.args.named.now in
    let place = c.args.place in
    let s = c.args.step.now in
    let result = c.from_residual-in_err-gather_texts-2.result in
    subst (λ (text : List ℕ). Gathers text result (g.K.Sink.taken c.args.out.now) (g.K.Sink.taken c.gather_texts-2.new.out) (waiting c.args.gathered.now) (waiting c.gather_texts-2.new.gathered) (g.K.Sink.faults c.args.out.now) (g.K.Sink.faults c.gather_texts-2.new.out))
    (line_parts n place s)
    (gathered_second (head place s) (rest n s) result _ _ _ _ _ _ _ _ _ (rw c.name_of.ensures at c.in_ok-gather_texts.ensures.whole)
    (gathered_first (spaced (operands n s.instr)) (codes "\n") result _ _ _ _ _ _ c.from_residual-in_err-gather_texts-2.ensures.0 (rw c.operands.ensures at c.in_err-gather_texts-2.ensures.part)))

pub returns : goal.returns
returns g c =
    let n = c.args.named.now in
    let place = c.args.place in
    let s = c.args.step.now in
    let result = c.gather_texts-3.result in
    subst (λ (text : List ℕ). Gathers text result (g.K.Sink.taken c.args.out.now) (g.K.Sink.taken c.gather_texts-3.new.out) (waiting c.args.gathered.now) (waiting c.gather_texts-3.new.gathered) (g.K.Sink.faults c.args.out.now) (g.K.Sink.faults c.gather_texts-3.new.out))
    (line_parts n place s)
    (gathered_second (head place s) (rest n s) result _ _ _ _ _ _ _ _ _ (rw c.name_of.ensures at c.in_ok-gather_texts.ensures.whole)
    (gathered_second (spaced (operands n s.instr)) (codes "\n") result _ _ _ _ _ _ _ _ _ (rw c.operands.ensures at c.in_ok-gather_texts-2.ensures.whole) c.gather_texts-3.ensures))
