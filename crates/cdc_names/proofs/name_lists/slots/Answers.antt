use Rattle.std.proofs.Common.{◌++◌, sym, ap, ◌∙◌}
use Rattle.std.proofs.lemmas.List.{append-nil}
use Rattle.cdc_names.proofs.Others.{no_slots}
use Rattle.cdc_names.proofs.name_lists.slots.Goals as goal

pub returns-in_default : goal.returns-in_default
returns-in_default c = sym (append-nil c.args.out.now) ∙ sym (ap (λ xs. c.args.out.now ++ xs) (no_slots c.args.head.now c.in_default.not-Doall))
