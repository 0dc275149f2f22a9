use Rattle.std.proofs.Common.{◌++◌, sym, ap, ◌∙◌}
use Rattle.std.proofs.lemmas.List.{append-nil}
use Rattle.cdc_names.proofs.Others.{no_closing}
use Rattle.cdc_names.proofs.walk.closing.Goals as goal

pub returns-in_default : goal.returns-in_default
returns-in_default c = sym (append-nil c.args.out.now) ∙ sym (ap (λ xs. c.args.out.now ++ xs) (no_closing c.args.f.now c.in_default.not-Do c.in_default.not-Doall))
