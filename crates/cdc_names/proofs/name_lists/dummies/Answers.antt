use Rattle.std.proofs.Common.{◌≡◌, ◌++◌, ◌∷◌, [], sym, subst, ◌∙◌}
use Rattle.std.specs.Prelude.{OnOk}
use Rattle.cdc_names.proofs.Others.{no_dummies}
use Rattle.cdc_names.proofs.name_lists.dummies.Goals as goal

pub returns-in_default : goal.returns-in_default
returns-in_default c =
    subst (λ names. OnOk c.add-in_default.result (c.add-in_default.new.items ≡ c.args.out.now ++ names ∷ []))
    (c.new.ensures ∙ sym (no_dummies c.args.head.now c.in_default.not-Subroutine)) c.add-in_default.ensures
