use Rattle.std.proofs.Common.{◌≡◌, ◌++◌, ◌∷◌, [], List, map, refl, ap, ◌∙◌}
use Rattle.std.proofs.lemmas.List.{map-append}
use Rattle.cdc_tree.specs.declared.unit.UnitText.{UnitText}
use Rattle.cdc_tree.specs.Units.{unit}
use Rattle.cdc_names.specs.Scopes.{scope_of, plain_scope}
use Rattle.cdc_names.proofs.Added.{added_step}
use Rattle.cdc_names.proofs.scope.scopes_of.Goals as goal

pub loop-u-preserved : goal.loop-u-preserved
loop-u-preserved c =
    let added : map plain_scope c.add.new.items ≡ map plain_scope c.loop-u.scopes ++ scope_of (unit c.u-item.result) ∷ [] =
    ap (map plain_scope) c.in_ok-add.ensures ∙ map-append plain_scope c.loop-u.scopes (c.in_ok-scope.scope ∷ []) ∙ ap (λ s. map plain_scope c.loop-u.scopes ++ s ∷ []) c.in_ok-scope.ensures in
    added_step (λ (u : UnitText). scope_of (unit u) ∷ []) (λ (us : List UnitText). map scope_of (map unit us)) (λ x xs. refl) _ _ c.u-item.result _ _ _ added c.u-item.is c.loop-u-test.true c.loop-u.invariant
