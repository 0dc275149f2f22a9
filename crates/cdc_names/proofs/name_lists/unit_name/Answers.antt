use Rattle.std.proofs.Common.{◌++◌, sym, ap, ◌∙◌}
use Rattle.std.proofs.lemmas.List.{append-nil}
use Rattle.cdc_names.proofs.Others.{no_name}
use Rattle.cdc_names.proofs.name_lists.unit_name.Goals as goal

pub returns-in_default : goal.returns-in_default
returns-in_default c = sym (append-nil c.args.names.now) ∙ sym (ap (λ xs. c.args.names.now ++ xs) (no_name c.args.head.now c.in_default.not-Program c.in_default.not-Subroutine))
