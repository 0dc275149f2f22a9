use Rattle.std.proofs.Common.{◌++◌, map, sym, ap, ◌∙◌}
use Rattle.std.proofs.lemmas.List.{append-nil}
use Rattle.cdc_names.specs.Declarations.{plain_declaration}
use Rattle.cdc_names.proofs.Others.{no_declared}
use Rattle.cdc_names.proofs.declared.declared_by.Goals as goal

pub returns-in_default : goal.returns-in_default
returns-in_default c =
    sym (append-nil (map plain_declaration c.args.out.now)) ∙ sym (ap (λ xs. map plain_declaration c.args.out.now ++ xs) (no_declared c.args.f.now c.in_default.not-Integer c.in_default.not-Parameter))
